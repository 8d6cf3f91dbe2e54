-- A piece leads the reading on, or is refused, as the reading function says.
use Rattle.std.proofs.Common.{◌≡◌, ℕ, ◌+◌, List, ◌∷◌, true, Option, None, Some, Result, Ok, Err, refl, sym, ap, ◌∙◌, subst}
use Rattle.cube_sets.specs.Sets.{Members}
use Rattle.grid_files.specs.Items.{Item, Open, nothing, fits, fits_open, cause_of, with_item}
use Rattle.grid_files.specs.Reading.{Step, goes, closes, stops, step, read, judged, start_of, closing_place}
use Rattle.grid_files.specs.Openings.{IsOpening, IsClosing, StepsAs}
use Rattle.grid_files.specs.Readers.{IsGathered}
use Rattle.grid_files.specs.Scanning.{left, listed, Scans}
use Rattle.grid_files.specs.Readings.{Reads, LeadsOn, Leads, FeedsOn, Feeds}
use Rattle.grid_files.specs.declared.fault.TextFault.{TextFault}
use Rattle.grid_files.specs.declared.fault.TextFault.TheVariants as faults
use Rattle.grid_files.specs.declared.scanner.Carry.{Carry}
use Rattle.grid_files.specs.declared.fault.Kind.{Kind}
use Rattle.grid_files.specs.declared.fault.TextCause.{TextCause}
use Rattle.grid_files.specs.declared.piece.Piece.{Piece}
use Rattle.grid_files.specs.declared.reader.Reader.{Reader}
use Rattle.grid_files.specs.declared.opening.Opening.{Opening}
use Rattle.grid_files.specs.declared.opening.Opening.TheVariants.{Nothing}
use Rattle.grid_files.specs.declared.opening.Closing.{Closing}
use Rattle.grid_files.specs.declared.opening.Turn.TheVariants.{Goes, Closes, Stops}
use Rattle.grid_files.proofs.Reading.{Says, says}
use Rattle.grid_files.proofs.Deciding.{read_goes, read_closes, read_stops}

goes_from : (opening : Opening) (s : Step) → StepsAs (Goes opening) s → (o : Open) × (s ≡ goes o) × IsOpening opening o
goes_from opening (goes o) h = (o, refl, h)
goes_from opening (closes i) h = absurd h
goes_from opening (stops c) h = absurd h

closes_from : (closing : Closing) (s : Step) → StepsAs (Closes closing) s → (i : Item) × (s ≡ closes i) × IsClosing closing i
closes_from closing (goes o) h = absurd h
closes_from closing (closes i) h = (i, refl, h)
closes_from closing (stops c) h = absurd h

stops_from : (cause : TextCause) (s : Step) → StepsAs (Stops cause) s → s ≡ stops cause
stops_from cause (goes o) h = absurd h
stops_from cause (closes i) h = absurd h
stops_from cause (stops c) h = ap stops (sym h)

pub piece_stops : (kind : Kind) (set : Members) (o : Open) (start at : ℕ) (piece : Piece) (cause : TextCause) → StepsAs (Stops cause) (step o piece)
    → (rest : List (ℕ × Piece)) → read kind set o start ((at, piece) ∷ rest) ≡ Err (at, cause)
piece_stops kind set o start at piece cause h rest = read_stops kind set o start (at, piece) rest cause (stops_from cause (step o piece) h)

pub piece_goes : (set : Members) (o : Open) (old now : Reader) (at : ℕ) (piece : Piece) → Reads old set o → StepsAs (Goes now.opening) (step o piece)
    → now.gathered ≡ old.gathered → now.start ≡ start_of o old.start at → LeadsOn old.gathered.kind set o old.start (λ rest. (at, piece) ∷ rest) now
piece_goes set o old now at piece reads h same start =
    let next = goes_from now.opening (step o piece) h in
    let said : Says o piece (goes next.0) = subst (Says o piece) next.1 (says o piece reads.fitting) in
    record {
      set' = set;
      o' = next.0;
      reads = record { gathered = subst (λ g. IsGathered g set) (sym same) reads.gathered; opening = next.2; fitting = said.1 };
      kept = ap (λ g. g.kind) same;
      leads = λ rest. read_goes old.gathered.kind set o next.0 old.start (at, piece) rest next.1 ∙ ap (λ n. read old.gathered.kind set next.0 n rest) (sym start);
    }

-- an item that joins
closed_ok : (set : Members) (o : Open) (old now : Reader) (at : ℕ) (piece : Piece) (i : Item) → Reads old set o → step o piece ≡ closes i
    → (cause_of old.gathered.kind set i ≡ None) × IsGathered now.gathered (with_item set i) → now.gathered.kind ≡ old.gathered.kind → now.opening ≡ Nothing → now.start ≡ 0
    → LeadsOn old.gathered.kind set o old.start (λ rest. (at, piece) ∷ rest) now
closed_ok set o old now at piece i reads e joins kept opening start = record {
  set' = with_item set i;
  o' = nothing;
  reads = record { gathered = joins.1; opening = subst (λ (x : Opening). IsOpening x nothing) (sym opening) tt; fitting = refl };
  kept = kept;
  leads = λ rest. read_closes old.gathered.kind set o i old.start (at, piece) rest e
      ∙ ap (λ c. judged c (λ c. Err (closing_place i (start_of o old.start at) at, c)) (read old.gathered.kind (with_item set i) nothing 0 rest)) joins.0
      ∙ ap (λ n. read old.gathered.kind (with_item set i) nothing n rest) (sym start);
}

pub piece_closes : (set : Members) (o : Open) (old now : Reader) (at : ℕ) (piece : Piece) (closing : Closing) → Reads old set o → StepsAs (Closes closing) (step o piece)
    → ((i : Item) → IsClosing closing i → fits i ≡ true → (cause_of old.gathered.kind set i ≡ None) × IsGathered now.gathered (with_item set i))
    → now.gathered.kind ≡ old.gathered.kind → now.opening ≡ Nothing → now.start ≡ 0
    → LeadsOn old.gathered.kind set o old.start (λ rest. (at, piece) ∷ rest) now
piece_closes set o old now at piece closing reads h joins kept opening start =
    let next = closes_from closing (step o piece) h in
    let said : Says o piece (closes next.0) = subst (Says o piece) next.1 (says o piece reads.fitting) in
    closed_ok set o old now at piece next.0 reads next.1 (joins next.0 next.2 said.1) kept opening start

pub piece_refused : (kind : Kind) (set : Members) (o : Open) (start at place : ℕ) (piece : Piece) (closing : Closing) (cause : TextCause) → fits_open o ≡ true → StepsAs (Closes closing) (step o piece)
    → ((i : Item) → IsClosing closing i → fits i ≡ true → cause_of kind set i ≡ Some cause) → ((i : Item) → IsClosing closing i → place ≡ closing_place i (start_of o start at) at)
    → (rest : List (ℕ × Piece)) → read kind set o start ((at, piece) ∷ rest) ≡ Err (place, cause)
piece_refused kind set o start at place piece closing cause fitting h why where_ rest =
    let next = closes_from closing (step o piece) h in
    let said : Says o piece (closes next.0) = subst (Says o piece) next.1 (says o piece fitting) in
    read_closes kind set o next.0 start (at, piece) rest next.1
    ∙ ap (λ c. judged c (λ c. Err (closing_place next.0 (start_of o start at) at, c)) (read kind (with_item set next.0) nothing 0 rest)) (why next.0 next.2 said.1)
    ∙ ap (λ n. Err (n, cause)) (sym (where_ next.0 next.2))

pub leads_both : (kind : Kind) (set : Members) (o : Open) (start : ℕ) (one two : List (ℕ × Piece) → List (ℕ × Piece)) (mid now : Reader) (r : Result (Unit {0}) TextFault)
    → LeadsOn kind set o start one mid → ((set : Members) (o : Open) → Reads mid set o → Leads mid.gathered.kind set o mid.start two now r)
    → Leads kind set o start (λ rest. one (two rest)) now r
leads_both kind set o start one two mid now (Ok u) first next =
    let second : LeadsOn kind first.set' first.o' mid.start two now = subst (λ (k : Kind). LeadsOn k first.set' first.o' mid.start two now) first.kept (next first.set' first.o' first.reads) in
    record { set' = second.set'; o' = second.o'; reads = second.reads; kept = second.kept; leads = λ rest. first.leads (two rest) ∙ second.leads rest }
leads_both kind set o start one two mid now (Err (faults.At place cause)) first next =
    let second = next first.set' first.o' first.reads in
    λ rest. first.leads (two rest) ∙ ap (λ k. read k first.set' first.o' mid.start (two rest)) (sym first.kept) ∙ second rest
leads_both kind set o start one two mid now (Err faults.NoMemory) first next = tt

pub leads_err : (kind : Kind) (set : Members) (o : Open) (start : ℕ) (one two : List (ℕ × Piece) → List (ℕ × Piece)) (mid now : Reader) (fault : TextFault)
    → Leads kind set o start one mid (Err fault) → Leads kind set o start (λ rest. one (two rest)) now (Err fault)
leads_err kind set o start one two mid now (faults.At place cause) h = λ rest. h (two rest)
leads_err kind set o start one two mid now faults.NoMemory h = tt

pub feeds_ok : (kind : Kind) (set : Members) (o : Open) (start : ℕ) (carry next : Carry) (place b : ℕ) (first second : Option (ℕ × Piece)) (now : Reader)
    → LeadsOn kind set o start (λ rest. listed first (listed second rest)) now → Scans carry place b next first second → FeedsOn kind set o start carry place b now next
feeds_ok kind set o start carry next place b first second now l s = record {
  set' = l.set';
  o' = l.o';
  reads = l.reads;
  kept = l.kept;
  leads = λ bs. ap (read kind set o start) (s bs) ∙ l.leads (left next (place + 1) bs);
}

pub feeds_err : (kind : Kind) (set : Members) (o : Open) (start : ℕ) (carry next : Carry) (place b : ℕ) (first second : Option (ℕ × Piece)) (now : Reader) (fault : TextFault)
    → Leads kind set o start (λ rest. listed first (listed second rest)) now (Err fault) → Scans carry place b next first second → Feeds kind set o start carry place b now (Err fault)
feeds_err kind set o start carry next place b first second now (faults.At at cause) l s = λ bs. ap (read kind set o start) (s bs) ∙ l (left next (place + 1) bs)
feeds_err kind set o start carry next place b first second now faults.NoMemory l s = tt
