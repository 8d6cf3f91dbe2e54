-- A whole text is read byte by byte.
use Rattle.std.proofs.Common.{◌≡◌, ℕ, ◌+◌, ◌<◌, ◌≤◌, List, [], ◌∷◌, length, drop, get_or, if◌then◌else◌, Result, Ok, Err, sym, ap, ◌∙◌, subst}
use Rattle.std.specs.Result.{IfOk, IfErr}
use Rattle.std.proofs.lemmas.List.{drop_more, drop_all}
use Rattle.cube_sets.specs.Sets.{Members}
use Rattle.grid_files.specs.Items.{Open, nothing}
use Rattle.grid_files.specs.Pieces.{pieces}
use Rattle.grid_files.specs.Reading.{read, Outcome}
use Rattle.grid_files.specs.SetFile.{HasValue, IsRefusedAt, no_members}
use Rattle.grid_files.specs.Faults.{IsFaultOf}
use Rattle.grid_files.specs.Scanning.{left, IsCarry}
use Rattle.grid_files.specs.Readings.{Reads, FeedsOn, Feeds, Ends}
use Rattle.grid_files.specs.declared.fault.Kind.{Kind}
use Rattle.grid_files.specs.declared.fault.TextCause.{TextCause}
use Rattle.grid_files.specs.declared.fault.TextCause.TheVariants.{Unclosed}
use Rattle.grid_files.specs.declared.fault.TextFault.{TextFault}
use Rattle.grid_files.specs.declared.fault.TextFault.TheVariants as faults
use Rattle.grid_files.specs.declared.scanner.Carry.{Carry}
use Rattle.grid_files.specs.declared.scanner.Carry.TheVariants.{Between}
use Rattle.grid_files.specs.declared.reader.Reader.{Reader}
use Rattle.grid_files.proofs.Reading.{Told, told}
use Rattle.grid_files.proofs.Scanning.{at_end}

abbrev whole : Kind → List ℕ → Outcome
whole kind bytes = read kind no_members nothing 0 (pieces bytes)

-- the reading stands at a place of the text
pub record IsReading (kind : Kind) (bytes : List ℕ) (reader : Reader) (carry : Carry) (place : ℕ) : Type 0 where
  pub set : Members
  pub o : Open
  pub reads : Reads reader set o
  pub kept : reader.gathered.kind ≡ kind
  pub is_carry : IsCarry carry
  pub same : read kind set o reader.start (left carry place (drop place bytes)) ≡ read kind no_members nothing 0 (pieces bytes)

pub value_told : (kind : Kind) (bytes : List ℕ) (set : Members) → read kind no_members nothing 0 (pieces bytes) ≡ Ok set → HasValue kind bytes set
value_told kind bytes set e = subst (Told kind no_members (pieces bytes)) e (told kind no_members (pieces bytes))

pub refusal_told : (kind : Kind) (bytes : List ℕ) (place : ℕ) (cause : TextCause) → read kind no_members nothing 0 (pieces bytes) ≡ Err (place, cause) → IsRefusedAt kind bytes place cause
refusal_told kind bytes place cause e = subst (Told kind no_members (pieces bytes)) e (told kind no_members (pieces bytes))

pub starts : (kind : Kind) (bytes : List ℕ) (reader : Reader) → Reads reader no_members nothing → reader.gathered.kind ≡ kind → reader.start ≡ 0 → IsReading kind bytes reader Between 0
starts kind bytes reader reads kept start = record {
  set = no_members;
  o = nothing;
  reads = reads;
  kept = kept;
  is_carry = tt;
  same = ap (λ n. read kind no_members nothing n (pieces bytes)) start;
}

pub fed_on : (kind : Kind) (bytes : List ℕ) (old now : Reader) (carry next : Carry) (place : ℕ) (r : IsReading kind bytes old carry place) → place < length bytes
    → FeedsOn old.gathered.kind r.set r.o old.start carry place (get_or bytes place 0) now next → IsCarry next → IsReading kind bytes now next (place + 1)
fed_on kind bytes old now carry next place r lt f is = record {
  set = f.set';
  o = f.o';
  reads = f.reads;
  kept = f.kept ∙ r.kept;
  is_carry = is;
  same = ap (λ k. read k f.set' f.o' now.start (left next (place + 1) (drop (place + 1) bytes))) (sym r.kept)
      ∙ sym (f.leads (drop (place + 1) bytes))
      ∙ ap (λ k. read k r.set r.o old.start (left carry place (get_or bytes place 0 ∷ drop (place + 1) bytes))) r.kept
      ∙ ap (λ l. read kind r.set r.o old.start (left carry place l)) (sym (drop_more bytes place 0 lt))
      ∙ r.same;
}

pub fed_fault : (kind : Kind) (bytes : List ℕ) (old now : Reader) (carry : Carry) (place : ℕ) (fault : TextFault) (r : IsReading kind bytes old carry place) → place < length bytes
    → Feeds old.gathered.kind r.set r.o old.start carry place (get_or bytes place 0) now (Err fault) → IsFaultOf kind bytes fault
fed_fault kind bytes old now carry place (faults.At at cause) r lt f = refusal_told kind bytes at cause
    (sym r.same ∙ ap (λ l. read kind r.set r.o old.start (left carry place l)) (drop_more bytes place 0 lt)
    ∙ ap (λ k. read k r.set r.o old.start (left carry place (get_or bytes place 0 ∷ drop (place + 1) bytes))) (sym r.kept)
    ∙ f (drop (place + 1) bytes))
fed_fault kind bytes old now carry place faults.NoMemory r lt f = tt

at_line : (kind : Kind) (bytes : List ℕ) (old : Reader) (carry : Carry) (place : ℕ) (r : IsReading kind bytes old carry place) → length bytes ≤ place
    → read old.gathered.kind r.set r.o old.start (left carry place (10 ∷ [])) ≡ read kind no_members nothing 0 (pieces bytes)
at_line kind bytes old carry place r le =
    ap (λ k. read k r.set r.o old.start (left carry place (10 ∷ []))) r.kept
    ∙ ap (read kind r.set r.o old.start) (sym (at_end carry place) ∙ ap (left carry place) (sym (drop_all place bytes le))) ∙ r.same

pub end_fault : (kind : Kind) (bytes : List ℕ) (old now : Reader) (carry : Carry) (place : ℕ) (fault : TextFault) (r : IsReading kind bytes old carry place) → length bytes ≤ place
    → Feeds old.gathered.kind r.set r.o old.start carry place 10 now (Err fault) → IsFaultOf kind bytes fault
end_fault kind bytes old now carry place (faults.At at cause) r le f = refusal_told kind bytes at cause (sym (at_line kind bytes old carry place r le) ∙ f [])
end_fault kind bytes old now carry place faults.NoMemory r le f = tt

pub ended : (kind : Kind) (bytes : List ℕ) (old now : Reader) (carry next : Carry) (place : ℕ) (r : IsReading kind bytes old carry place) → length bytes ≤ place
    → (f : FeedsOn old.gathered.kind r.set r.o old.start carry place 10 now next) → next ≡ Between → read kind f.set' f.o' now.start [] ≡ read kind no_members nothing 0 (pieces bytes)
ended kind bytes old now carry next place r le f e =
    ap (λ k. read k f.set' f.o' now.start []) (sym r.kept)
    ∙ ap (λ x. read old.gathered.kind f.set' f.o' now.start (left x (place + 1) [])) (sym e) ∙ sym (f.leads []) ∙ at_line kind bytes old carry place r le

finish_value : (kind : Kind) (bytes : List ℕ) (o : Open) (start : ℕ) (set found : Members) → read kind set o start [] ≡ read kind no_members nothing 0 (pieces bytes)
    → Ends o start set (Ok found) → HasValue kind bytes found
finish_value kind bytes o start set found e h =
    value_told kind bytes found (sym e ∙ ap (λ b. if b then Err (start, Unclosed) else Ok set) h.0 ∙ ap Ok (sym h.1))

finish_fault : (kind : Kind) (bytes : List ℕ) (o : Open) (start : ℕ) (set : Members) (fault : TextFault) → read kind set o start [] ≡ read kind no_members nothing 0 (pieces bytes)
    → Ends o start set (Err fault) → IsFaultOf kind bytes fault
finish_fault kind bytes o start set (faults.At place cause) e h =
    refusal_told kind bytes place cause (sym e ∙ ap (λ b. if b then Err (start, Unclosed) else Ok set) h.0 ∙ ap (λ n. Err (n, Unclosed)) (sym h.1) ∙ ap (λ c. Err (place, c)) (sym h.2))
finish_fault kind bytes o start set faults.NoMemory e h = tt

pub finished_value : (kind : Kind) (bytes : List ℕ) (o : Open) (start : ℕ) (set : Members) (r : Result Members TextFault) → read kind set o start [] ≡ read kind no_members nothing 0 (pieces bytes)
    → Ends o start set r → IfOk r (λ found. HasValue kind bytes found)
finished_value kind bytes o start set (Ok found) e h = finish_value kind bytes o start set found e h
finished_value kind bytes o start set (Err fault) e h = tt

pub finished_fault : (kind : Kind) (bytes : List ℕ) (o : Open) (start : ℕ) (set : Members) (r : Result Members TextFault) → read kind set o start [] ≡ read kind no_members nothing 0 (pieces bytes)
    → Ends o start set r → IfErr r (IsFaultOf kind bytes)
finished_fault kind bytes o start set (Ok found) e h = tt
finished_fault kind bytes o start set (Err fault) e h = finish_fault kind bytes o start set fault e h
