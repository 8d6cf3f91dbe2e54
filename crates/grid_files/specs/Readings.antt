-- What the calls of a reader of set files do.
use Rattle.std.specs.Prelude.{◌≡◌, ℕ, ◌+◌, List, ◌∷◌, true, false, Result, Ok, Err}
use Rattle.cube_sets.specs.Sets.{Members}
use Rattle.grid_files.specs.Items.{Open, fits_open}
use Rattle.grid_files.specs.Reading.{read}
use Rattle.grid_files.specs.SetFile.{is_open}
use Rattle.grid_files.specs.Openings.{IsOpening}
use Rattle.grid_files.specs.Scanning.{left}
use Rattle.grid_files.specs.Readers.{IsGathered}
use Rattle.grid_files.specs.declared.fault.Kind.{Kind}
use Rattle.grid_files.specs.declared.fault.TextCause.TheVariants.{Unclosed}
use Rattle.grid_files.specs.declared.fault.TextFault.{TextFault}
use Rattle.grid_files.specs.declared.fault.TextFault.TheVariants as faults
use Rattle.grid_files.specs.declared.piece.Piece.{Piece}
use Rattle.grid_files.specs.declared.scanner.Carry.{Carry}
use Rattle.grid_files.specs.declared.reader.Reader.{Reader}

-- the reader stands behind items that made this set, at the beginning of one
pub record Reads (reader : Reader) (set : Members) (o : Open) : Type 0 where
  pub gathered : IsGathered reader.gathered set
  pub opening : IsOpening reader.opening o
  pub fitting : fits_open o ≡ true

-- the reader has been led on from there, over these pieces, whatever follows them
pub record LeadsOn (kind : Kind) (set : Members) (o : Open) (start : ℕ)
    (over : List (ℕ × Piece) → List (ℕ × Piece)) (now : Reader) : Type 0 where
  pub set' : Members
  pub o' : Open
  pub reads : Reads now set' o'
  pub kept : now.gathered.kind ≡ kind
  pub leads : (rest : List (ℕ × Piece))
      → read kind set o start (over rest) ≡ read kind set' o' now.start rest

-- it is led on, or the text is refused with this fault
abbrev pub Leads : Kind → Members → Open → ℕ → (List (ℕ × Piece) → List (ℕ × Piece)) → Reader
    → Result (Unit {0}) TextFault → Type 0
Leads kind set o start over now (Ok _) = LeadsOn kind set o start over now
Leads kind set o start over now (Err (faults.At place cause)) =
    (rest : List (ℕ × Piece)) → read kind set o start (over rest) ≡ Err (place, cause)
Leads kind set o start over now (Err faults.NoMemory) = Unit {0}

-- one more byte
pub record FeedsOn (kind : Kind) (set : Members) (o : Open) (start : ℕ) (carry : Carry)
    (place b : ℕ) (now : Reader) (next : Carry) : Type 0 where
  pub set' : Members
  pub o' : Open
  pub reads : Reads now set' o'
  pub kept : now.gathered.kind ≡ kind
  pub leads : (bs : List ℕ) → read kind set o start (left carry place (b ∷ bs)) ≡ read kind set' o'
      now.start (left next (place + 1) bs)

abbrev pub Feeds : Kind → Members → Open → ℕ → Carry → ℕ → ℕ → Reader → Result Carry TextFault
    → Type 0
Feeds kind set o start carry place b now (Ok next) = FeedsOn kind set o start carry place b now next
Feeds kind set o start carry place b now (Err (faults.At at cause)) =
    (bs : List ℕ) → read kind set o start (left carry place (b ∷ bs)) ≡ Err (at, cause)
Feeds kind set o start carry place b now (Err faults.NoMemory) = Unit {0}

-- the end of the text: the set, or the item that stands open
abbrev pub Ends : Open → ℕ → Members → Result Members TextFault → Type 0
Ends o start set (Ok read_set) = (is_open o ≡ false) × (read_set ≡ set)
Ends o start set (Err (faults.At place cause)) =
    (is_open o ≡ true) × (place ≡ start) × (cause ≡ Unclosed)
Ends o start set (Err faults.NoMemory) = Unit {0}
