-- A piece leads the reading on, or is refused, as the reading function says.
use Rattle.std.proofs.Common.{◌≡◌, ℕ, ◌+◌, ℤ, List, [], ◌∷◌, ◌++◌, Bool, true, false, ◌&&◌, Option, None, Some, Result, Ok, Err, refl, sym, ap, ◌∙◌, subst}
use Rattle.cube_maps.specs.CubeMaps.{Mapping}
use Rattle.map_files.specs.Items.{Item, Open, nothing, in_left, before_arrow, before_value, in_single, in_list, in_listed, behind_word, fits, fits_cube, fits_open, cause_of, with_item}
use Rattle.map_files.specs.Reading.{Step, goes, closes, stops, step, read, judged, start_of, closing_place}
use Rattle.map_files.specs.Openings.{IsOpening, IsClosing, IsOneMore, StepsAs, IsValues, listed_in}
use Rattle.map_files.specs.Readers.{IsGathered}
use Rattle.grid_files.specs.Scanning.{left, listed, Scans}
use Rattle.map_files.specs.Readings.{Reads, LeadsOn, Leads, FeedsOn, Feeds}
use Rattle.grid_files.specs.declared.fault.TextFault.{TextFault}
use Rattle.grid_files.specs.declared.fault.TextFault.TheVariants as faults
use Rattle.grid_files.specs.declared.scanner.Carry.{Carry}
use Rattle.grid_files.specs.declared.fault.TextCause.{TextCause}
use Rattle.grid_files.specs.declared.piece.Piece.{Piece}
use Rattle.map_files.specs.declared.reader.Reader.{Reader}
use Rattle.map_files.specs.declared.opening.Opening.{Opening}
use Rattle.map_files.specs.declared.opening.Opening.TheVariants.{Nothing, InList}
use Rattle.map_files.specs.declared.opening.Closing.{Closing}
use Rattle.map_files.specs.declared.opening.Turn.TheVariants.{Goes, Adds, Closes, Stops}
use Rattle.map_files.proofs.Reading.{Says, says}
use Rattle.map_files.proofs.Deciding.{read_goes, read_closes, read_stops}
use Rattle.std.specs.List.{list_all}
use Rattle.std.proofs.lemmas.List.Folds.{list_all-append}
use Rattle.grid_files.specs.Corners.{IsCorner}
use Rattle.grid_files.specs.declared.corner.OpenCorner.{OpenCorner}
use Rattle.grid_files.proofs.Reading.{and_both}

goes_from : (vs : List (List ℤ)) (opening : Opening) (s : Step) → StepsAs vs (Goes opening) s → (o : Open) × (s ≡ goes o) × IsOpening opening o × (listed_in o ≡ vs)
goes_from vs opening (goes o) h = (o, refl, h.0, h.1)
goes_from vs opening (closes i) h = absurd h
goes_from vs opening (stops c) h = absurd h

adds_from : (vs : List (List ℤ)) (left value : OpenCorner) (s : Step) → StepsAs vs (Adds left value) s → (o : Open) × (s ≡ goes o) × IsOneMore vs left value o
adds_from vs left value (goes o) h = (o, refl, h)
adds_from vs left value (closes i) h = absurd h
adds_from vs left value (stops c) h = absurd h

closes_from : (vs : List (List ℤ)) (closing : Closing) (s : Step) → StepsAs vs (Closes closing) s → (i : Item) × (s ≡ closes i) × IsClosing vs closing i
closes_from vs closing (goes o) h = absurd h
closes_from vs closing (closes i) h = (i, refl, h)
closes_from vs closing (stops c) h = absurd h

stops_from : (vs : List (List ℤ)) (cause : TextCause) (s : Step) → StepsAs vs (Stops cause) s → s ≡ stops cause
stops_from vs cause (goes o) h = absurd h
stops_from vs cause (closes i) h = absurd h
stops_from vs cause (stops c) h = ap stops (sym h)

pub piece_stops : (m : Mapping) (o : Open) (start at : ℕ) (piece : Piece) (cause : TextCause) → StepsAs (listed_in o) (Stops cause) (step o piece)
    → (rest : List (ℕ × Piece)) → read m o start ((at, piece) ∷ rest) ≡ Err (at, cause)
piece_stops m o start at piece cause h rest = read_stops m o start (at, piece) rest cause (stops_from (listed_in o) cause (step o piece) h)

pub piece_goes : (m : Mapping) (o : Open) (old now : Reader) (at : ℕ) (piece : Piece) → Reads old m o → StepsAs (listed_in o) (Goes now.opening) (step o piece)
    → now.gathered ≡ old.gathered → now.values ≡ old.values → now.start ≡ start_of o old.start at → LeadsOn m o old.start (λ rest. (at, piece) ∷ rest) now
piece_goes m o old now at piece reads h same values start =
    let next = goes_from (listed_in o) now.opening (step o piece) h in
    let said : Says o piece (goes next.0) = subst (Says o piece) next.1 (says o piece reads.fitting) in
    record {
      m' = m;
      o' = next.0;
      reads = record {
        gathered = subst (λ g. IsGathered g m) (sym same) reads.gathered;
        opening = next.2;
        values = subst (λ (l : List (List ℤ)). IsValues now.values l) (sym next.3) (subst (λ v. IsValues v (listed_in o)) (sym values) reads.values);
        fitting = said.1;
      };
      leads = λ rest. read_goes m o next.0 old.start (at, piece) rest next.1 ∙ ap (λ n. read m next.0 n rest) (sym start);
    }

last_fits : (vs : List (List ℤ)) (v : List ℤ) → list_all fits_cube (vs ++ v ∷ []) ≡ true → fits_cube v ≡ true
last_fits vs v h = first_true (fits_cube v) (second_true (list_all fits_cube vs) (fits_cube v && true) (sym (list_all-append fits_cube vs (v ∷ [])) ∙ h))
  where
    second_true : (a b : Bool) → (a && b) ≡ true → b ≡ true
    second_true true b h = h
    second_true false b h = cc

    first_true : (a : Bool) → (a && true) ≡ true → a ≡ true
    first_true true h = refl
    first_true false h = cc

-- a list with one more corner
pub record IsAdded (vs : List (List ℤ)) (left value : OpenCorner) (o : Open) : Type 0 where
  pub opening : IsOpening (InList left) o
  pub v : List ℤ
  pub corner : IsCorner value v
  pub listed : listed_in o ≡ vs ++ v ∷ []
  pub fitting : fits_cube v ≡ true

added : (vs : List (List ℤ)) (left value : OpenCorner) (o : Open) → IsOneMore vs left value o → fits_open o ≡ true → IsAdded vs left value o
added vs left value (in_list q us) h fit =
    let parts = and_both (fits_cube q) (list_all fits_cube us) fit in
    record {
      opening = h.0;
      v = h.1.0;
      corner = h.1.1;
      listed = h.1.2;
      fitting = last_fits vs h.1.0 (ap (list_all fits_cube) (sym h.1.2) ∙ parts.1);
    }
added vs left value nothing h fit = absurd h
added vs left value (in_left xs) h fit = absurd h
added vs left value (before_arrow q) h fit = absurd h
added vs left value (before_value q) h fit = absurd h
added vs left value (in_single q xs) h fit = absurd h
added vs left value (in_listed q us xs) h fit = absurd h
added vs left value behind_word h fit = absurd h

pub piece_adds : (m : Mapping) (o : Open) (old now : Reader) (at : ℕ) (piece : Piece) (left value : OpenCorner) → Reads old m o → StepsAs (listed_in o) (Adds left value) (step o piece)
    → now.gathered ≡ old.gathered → ((vs : List (List ℤ)) (v : List ℤ) → IsValues old.values vs → IsCorner value v → fits_cube v ≡ true → IsValues now.values (vs ++ v ∷ []))
    → now.opening ≡ InList left → now.start ≡ start_of o old.start at → LeadsOn m o old.start (λ rest. (at, piece) ∷ rest) now
piece_adds m o old now at piece left value reads h same adds opening start =
    let next = adds_from (listed_in o) left value (step o piece) h in
    let said : Says o piece (goes next.0) = subst (Says o piece) next.1 (says o piece reads.fitting) in
    let a = added (listed_in o) left value next.0 next.2 said.1 in
    record {
      m' = m;
      o' = next.0;
      reads = record {
        gathered = subst (λ g. IsGathered g m) (sym same) reads.gathered;
        opening = subst (λ (x : Opening). IsOpening x next.0) (sym opening) a.opening;
        values = subst (λ (l : List (List ℤ)). IsValues now.values l) (sym a.listed) (adds (listed_in o) a.v reads.values a.corner a.fitting);
        fitting = said.1;
      };
      leads = λ rest. read_goes m o next.0 old.start (at, piece) rest next.1 ∙ ap (λ n. read m next.0 n rest) (sym start);
    }

-- an item that joins
closed_ok : (m : Mapping) (o : Open) (old now : Reader) (at : ℕ) (piece : Piece) (i : Item) → step o piece ≡ closes i
    → (cause_of m i ≡ None) × IsGathered now.gathered (with_item m i) → IsValues now.values [] → now.opening ≡ Nothing → now.start ≡ 0
    → LeadsOn m o old.start (λ rest. (at, piece) ∷ rest) now
closed_ok m o old now at piece i e joins values opening start = record {
  m' = with_item m i;
  o' = nothing;
  reads = record { gathered = joins.1; opening = subst (λ (x : Opening). IsOpening x nothing) (sym opening) tt; values = values; fitting = refl };
  leads = λ rest. read_closes m o i old.start (at, piece) rest e
      ∙ ap (λ c. judged c (λ c. Err (closing_place i (start_of o old.start at) at, c)) (read (with_item m i) nothing 0 rest)) joins.0
      ∙ ap (λ n. read (with_item m i) nothing n rest) (sym start);
}

pub piece_closes : (m : Mapping) (o : Open) (old now : Reader) (at : ℕ) (piece : Piece) (closing : Closing) → Reads old m o → StepsAs (listed_in o) (Closes closing) (step o piece)
    → ((i : Item) → IsClosing (listed_in o) closing i → fits i ≡ true → (cause_of m i ≡ None) × IsGathered now.gathered (with_item m i))
    → IsValues now.values [] → now.opening ≡ Nothing → now.start ≡ 0 → LeadsOn m o old.start (λ rest. (at, piece) ∷ rest) now
piece_closes m o old now at piece closing reads h joins values opening start =
    let next = closes_from (listed_in o) closing (step o piece) h in
    let said : Says o piece (closes next.0) = subst (Says o piece) next.1 (says o piece reads.fitting) in
    closed_ok m o old now at piece next.0 next.1 (joins next.0 next.2 said.1) values opening start

pub piece_refused : (m : Mapping) (o : Open) (start at place : ℕ) (piece : Piece) (closing : Closing) (cause : TextCause) → fits_open o ≡ true → StepsAs (listed_in o) (Closes closing) (step o piece)
    → ((i : Item) → IsClosing (listed_in o) closing i → fits i ≡ true → cause_of m i ≡ Some cause)
    → ((i : Item) → IsClosing (listed_in o) closing i → place ≡ closing_place i (start_of o start at) at)
    → (rest : List (ℕ × Piece)) → read m o start ((at, piece) ∷ rest) ≡ Err (place, cause)
piece_refused m o start at place piece closing cause fitting h why where_ rest =
    let next = closes_from (listed_in o) closing (step o piece) h in
    let said : Says o piece (closes next.0) = subst (Says o piece) next.1 (says o piece fitting) in
    read_closes m o next.0 start (at, piece) rest next.1
    ∙ ap (λ c. judged c (λ c. Err (closing_place next.0 (start_of o start at) at, c)) (read (with_item m next.0) nothing 0 rest)) (why next.0 next.2 said.1)
    ∙ ap (λ n. Err (n, cause)) (sym (where_ next.0 next.2))

pub leads_both : (m : Mapping) (o : Open) (start : ℕ) (one two : List (ℕ × Piece) → List (ℕ × Piece)) (mid now : Reader) (r : Result (Unit {0}) TextFault)
    → LeadsOn m o start one mid → ((m : Mapping) (o : Open) → Reads mid m o → Leads m o mid.start two now r)
    → Leads m o start (λ rest. one (two rest)) now r
leads_both m o start one two mid now (Ok u) first next =
    let second : LeadsOn first.m' first.o' mid.start two now = next first.m' first.o' first.reads in
    record { m' = second.m'; o' = second.o'; reads = second.reads; leads = λ rest. first.leads (two rest) ∙ second.leads rest }
leads_both m o start one two mid now (Err (faults.At place cause)) first next =
    let second = next first.m' first.o' first.reads in
    λ rest. first.leads (two rest) ∙ second rest
leads_both m o start one two mid now (Err faults.NoMemory) first next = tt

pub leads_err : (m : Mapping) (o : Open) (start : ℕ) (one two : List (ℕ × Piece) → List (ℕ × Piece)) (mid now : Reader) (fault : TextFault)
    → Leads m o start one mid (Err fault) → Leads m o start (λ rest. one (two rest)) now (Err fault)
leads_err m o start one two mid now (faults.At place cause) h = λ rest. h (two rest)
leads_err m o start one two mid now faults.NoMemory h = tt

pub feeds_ok : (m : Mapping) (o : Open) (start : ℕ) (carry next : Carry) (place b : ℕ) (first second : Option (ℕ × Piece)) (now : Reader)
    → LeadsOn m o start (λ rest. listed first (listed second rest)) now → Scans carry place b next first second → FeedsOn m o start carry place b now next
feeds_ok m o start carry next place b first second now l s = record {
  m' = l.m';
  o' = l.o';
  reads = l.reads;
  leads = λ bs. ap (read m o start) (s bs) ∙ l.leads (left next (place + 1) bs);
}

pub feeds_err : (m : Mapping) (o : Open) (start : ℕ) (carry next : Carry) (place b : ℕ) (first second : Option (ℕ × Piece)) (now : Reader) (fault : TextFault)
    → Leads m o start (λ rest. listed first (listed second rest)) now (Err fault) → Scans carry place b next first second → Feeds m o start carry place b now (Err fault)
feeds_err m o start carry next place b first second now (faults.At at cause) l s = λ bs. ap (read m o start) (s bs) ∙ l (left next (place + 1) bs)
feeds_err m o start carry next place b first second now faults.NoMemory l s = tt
