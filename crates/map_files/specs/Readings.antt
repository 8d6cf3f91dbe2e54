-- What the calls of a reader of map files do.
use Rattle.std.specs.Prelude.{◌≡◌, ℕ, ◌+◌, List, ◌∷◌, true, false, Result, Ok, Err}
use Rattle.cube_maps.specs.CubeMaps.{Mapping}
use Rattle.map_files.specs.Items.{Open, fits_open}
use Rattle.map_files.specs.Reading.{read}
use Rattle.map_files.specs.MapFile.{is_open}
use Rattle.map_files.specs.Openings.{IsOpening, IsValues, listed_in}
use Rattle.grid_files.specs.Scanning.{left}
use Rattle.map_files.specs.Readers.{IsGathered}
use Rattle.grid_files.specs.declared.fault.TextCause.TheVariants.{Unclosed}
use Rattle.grid_files.specs.declared.fault.TextFault.{TextFault}
use Rattle.grid_files.specs.declared.fault.TextFault.TheVariants as faults
use Rattle.grid_files.specs.declared.piece.Piece.{Piece}
use Rattle.grid_files.specs.declared.scanner.Carry.{Carry}
use Rattle.map_files.specs.declared.reader.Reader.{Reader}

-- the reader stands behind items that made this map, at the beginning of one
pub record Reads (reader : Reader) (m : Mapping) (o : Open) : Type 0 where
  pub gathered : IsGathered reader.gathered m
  pub opening : IsOpening reader.opening o
  pub values : IsValues reader.values (listed_in o)
  pub fitting : fits_open o ≡ true

-- the reader has been led on from there, over these pieces, whatever follows them
pub record LeadsOn (m : Mapping) (o : Open) (start : ℕ)
    (over : List (ℕ × Piece) → List (ℕ × Piece)) (now : Reader) : Type 0 where
  pub m' : Mapping
  pub o' : Open
  pub reads : Reads now m' o'
  pub leads : (rest : List (ℕ × Piece)) → read m o start (over rest) ≡ read m' o' now.start rest

-- it is led on, or the text is refused with this fault
abbrev pub Leads : Mapping → Open → ℕ → (List (ℕ × Piece) → List (ℕ × Piece)) → Reader
    → Result (Unit {0}) TextFault → Type 0
Leads m o start over now (Ok _) = LeadsOn m o start over now
Leads m o start over now (Err (faults.At place cause)) =
    (rest : List (ℕ × Piece)) → read m o start (over rest) ≡ Err (place, cause)
Leads m o start over now (Err faults.NoMemory) = Unit {0}

-- one more byte
pub record FeedsOn (m : Mapping) (o : Open) (start : ℕ) (carry : Carry) (place b : ℕ)
    (now : Reader) (next : Carry) : Type 0 where
  pub m' : Mapping
  pub o' : Open
  pub reads : Reads now m' o'
  pub leads : (bs : List ℕ) → read m o start (left carry place (b ∷ bs)) ≡ read m' o' now.start
      (left next (place + 1) bs)

abbrev pub Feeds : Mapping → Open → ℕ → Carry → ℕ → ℕ → Reader → Result Carry TextFault → Type 0
Feeds m o start carry place b now (Ok next) = FeedsOn m o start carry place b now next
Feeds m o start carry place b now (Err (faults.At at cause)) =
    (bs : List ℕ) → read m o start (left carry place (b ∷ bs)) ≡ Err (at, cause)
Feeds m o start carry place b now (Err faults.NoMemory) = Unit {0}

-- the end of the text: the set, or the item that stands open
abbrev pub Ends : Open → ℕ → Mapping → Result Mapping TextFault → Type 0
Ends o start m (Ok read_map) = (is_open o ≡ false) × (read_map ≡ m)
Ends o start m (Err (faults.At place cause)) =
    (is_open o ≡ true) × (place ≡ start) × (cause ≡ Unclosed)
Ends o start m (Err faults.NoMemory) = Unit {0}
