-- A whole text of a map is read byte by byte.
use Rattle.std.proofs.Common.{◌≡◌, ℕ, ◌+◌, ◌<◌, ◌≤◌, List, [], ◌∷◌, length, drop, get_or, if◌then◌else◌, Result, Ok, Err, sym, ap, ◌∙◌, subst}
use Rattle.std.specs.Result.{IfOk, IfErr}
use Rattle.std.proofs.lemmas.List.{drop_more, drop_all}
use Rattle.cube_maps.specs.CubeMaps.{Mapping}
use Rattle.map_files.specs.Items.{Open, nothing}
use Rattle.grid_files.specs.Pieces.{pieces}
use Rattle.map_files.specs.Reading.{read, Outcome}
use Rattle.map_files.specs.MapFile.{HasValue, IsRefusedAt, no_namings}
use Rattle.map_files.specs.Faults.{IsFaultOf}
use Rattle.grid_files.specs.Scanning.{left, IsCarry}
use Rattle.map_files.specs.Readings.{Reads, FeedsOn, Feeds, Ends}
use Rattle.grid_files.specs.declared.fault.TextCause.{TextCause}
use Rattle.grid_files.specs.declared.fault.TextCause.TheVariants.{Unclosed}
use Rattle.grid_files.specs.declared.fault.TextFault.{TextFault}
use Rattle.grid_files.specs.declared.fault.TextFault.TheVariants as faults
use Rattle.grid_files.specs.declared.scanner.Carry.{Carry}
use Rattle.grid_files.specs.declared.scanner.Carry.TheVariants.{Between}
use Rattle.map_files.specs.declared.reader.Reader.{Reader}
use Rattle.map_files.proofs.Reading.{Told, told}
use Rattle.grid_files.proofs.Scanning.{at_end}

abbrev whole : List ℕ → Outcome
whole bytes = read no_namings nothing 0 (pieces bytes)

-- the reading stands at a place of the text
pub record IsReading (bytes : List ℕ) (reader : Reader) (carry : Carry) (place : ℕ) : Type 0 where
  pub m : Mapping
  pub o : Open
  pub reads : Reads reader m o
  pub is_carry : IsCarry carry
  pub same : read m o reader.start (left carry place (drop place bytes)) ≡ read no_namings nothing 0 (pieces bytes)

pub value_told : (bytes : List ℕ) (m : Mapping) → read no_namings nothing 0 (pieces bytes) ≡ Ok m → HasValue bytes m
value_told bytes m e = subst (Told no_namings (pieces bytes)) e (told no_namings (pieces bytes))

pub refusal_told : (bytes : List ℕ) (place : ℕ) (cause : TextCause) → read no_namings nothing 0 (pieces bytes) ≡ Err (place, cause) → IsRefusedAt bytes place cause
refusal_told bytes place cause e = subst (Told no_namings (pieces bytes)) e (told no_namings (pieces bytes))

pub starts : (bytes : List ℕ) (reader : Reader) → Reads reader no_namings nothing → reader.start ≡ 0 → IsReading bytes reader Between 0
starts bytes reader reads start = record {
  m = no_namings;
  o = nothing;
  reads = reads;
  is_carry = tt;
  same = ap (λ n. read no_namings nothing n (pieces bytes)) start;
}

pub fed_on : (bytes : List ℕ) (old now : Reader) (carry next : Carry) (place : ℕ) (r : IsReading bytes old carry place) → place < length bytes
    → FeedsOn r.m r.o old.start carry place (get_or bytes place 0) now next → IsCarry next → IsReading bytes now next (place + 1)
fed_on bytes old now carry next place r lt f is = record {
  m = f.m';
  o = f.o';
  reads = f.reads;
  is_carry = is;
  same = sym (f.leads (drop (place + 1) bytes))
      ∙ ap (λ l. read r.m r.o old.start (left carry place l)) (sym (drop_more bytes place 0 lt))
      ∙ r.same;
}

pub fed_fault : (bytes : List ℕ) (old now : Reader) (carry : Carry) (place : ℕ) (fault : TextFault) (r : IsReading bytes old carry place) → place < length bytes
    → Feeds r.m r.o old.start carry place (get_or bytes place 0) now (Err fault) → IsFaultOf bytes fault
fed_fault bytes old now carry place (faults.At at cause) r lt f = refusal_told bytes at cause
    (sym r.same ∙ ap (λ l. read r.m r.o old.start (left carry place l)) (drop_more bytes place 0 lt)
    ∙ f (drop (place + 1) bytes))
fed_fault bytes old now carry place faults.NoMemory r lt f = tt

at_line : (bytes : List ℕ) (old : Reader) (carry : Carry) (place : ℕ) (r : IsReading bytes old carry place) → length bytes ≤ place
    → read r.m r.o old.start (left carry place (10 ∷ [])) ≡ read no_namings nothing 0 (pieces bytes)
at_line bytes old carry place r le =
    ap (read r.m r.o old.start) (sym (at_end carry place) ∙ ap (left carry place) (sym (drop_all place bytes le))) ∙ r.same

pub end_fault : (bytes : List ℕ) (old now : Reader) (carry : Carry) (place : ℕ) (fault : TextFault) (r : IsReading bytes old carry place) → length bytes ≤ place
    → Feeds r.m r.o old.start carry place 10 now (Err fault) → IsFaultOf bytes fault
end_fault bytes old now carry place (faults.At at cause) r le f = refusal_told bytes at cause (sym (at_line bytes old carry place r le) ∙ f [])
end_fault bytes old now carry place faults.NoMemory r le f = tt

pub ended : (bytes : List ℕ) (old now : Reader) (carry next : Carry) (place : ℕ) (r : IsReading bytes old carry place) → length bytes ≤ place
    → (f : FeedsOn r.m r.o old.start carry place 10 now next) → next ≡ Between → read f.m' f.o' now.start [] ≡ read no_namings nothing 0 (pieces bytes)
ended bytes old now carry next place r le f e =
    ap (λ x. read f.m' f.o' now.start (left x (place + 1) [])) (sym e) ∙ sym (f.leads []) ∙ at_line bytes old carry place r le

finish_value : (bytes : List ℕ) (o : Open) (start : ℕ) (m found : Mapping) → read m o start [] ≡ read no_namings nothing 0 (pieces bytes)
    → Ends o start m (Ok found) → HasValue bytes found
finish_value bytes o start m found e h =
    value_told bytes found (sym e ∙ ap (λ b. if b then Err (start, Unclosed) else Ok m) h.0 ∙ ap Ok (sym h.1))

finish_fault : (bytes : List ℕ) (o : Open) (start : ℕ) (m : Mapping) (fault : TextFault) → read m o start [] ≡ read no_namings nothing 0 (pieces bytes)
    → Ends o start m (Err fault) → IsFaultOf bytes fault
finish_fault bytes o start m (faults.At place cause) e h =
    refusal_told bytes place cause (sym e ∙ ap (λ b. if b then Err (start, Unclosed) else Ok m) h.0 ∙ ap (λ n. Err (n, Unclosed)) (sym h.1) ∙ ap (λ c. Err (place, c)) (sym h.2))
finish_fault bytes o start m faults.NoMemory e h = tt

pub finished_value : (bytes : List ℕ) (o : Open) (start : ℕ) (m : Mapping) (r : Result Mapping TextFault) → read m o start [] ≡ read no_namings nothing 0 (pieces bytes)
    → Ends o start m r → IfOk r (λ found. HasValue bytes found)
finished_value bytes o start m (Ok found) e h = finish_value bytes o start m found e h
finished_value bytes o start m (Err fault) e h = tt

pub finished_fault : (bytes : List ℕ) (o : Open) (start : ℕ) (m : Mapping) (r : Result Mapping TextFault) → read m o start [] ≡ read no_namings nothing 0 (pieces bytes)
    → Ends o start m r → IfErr r (IsFaultOf bytes)
finished_fault bytes o start m (Ok found) e h = tt
finished_fault bytes o start m (Err fault) e h = finish_fault bytes o start m fault e h
