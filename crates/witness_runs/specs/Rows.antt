-- The rows of the matrix of a degree.
use Rattle.std.specs.Prelude.{◌≡◌, ℕ, ◌<◌, List, [], ◌∷◌, ◌++◌, length}
use Rattle.witness_laws.specs.declared.law.Law.{Law}
use Rattle.witness_laws.specs.declared.law.Law.TheVariants as laws
use Rattle.witness_laws.specs.Lines.{row_line}
use Rattle.witness_scanning.specs.Terms.{AreBelow}
use Rattle.witness_scanning.specs.Lines.{HasNoRowLine}
use Rattle.witness_runs.specs.declared.miss.Stop.{Stop}
use Rattle.witness_runs.specs.declared.miss.Stop.TheVariants as stops

-- the lines of rows, as one text
abbrev pub rows_text : ℕ → List (List ℕ) → List ℕ
rows_text degree [] = []
rows_text degree (r ∷ rs) = row_line degree r ++ rows_text degree rs

abbrev pub AreRows : ℕ → ℕ → List (List ℕ) → Type 0
AreRows p width [] = Unit {0}
AreRows p width (r ∷ rs) = (length r ≡ width) × AreBelow p r × AreRows p width rs

-- rows, one behind the other
abbrev pub joined : List (List ℕ) → List ℕ
joined [] = []
joined (r ∷ rs) = r ++ joined rs

-- the lines of so many rows stand at the front
pub record HasRows (p degree width count : ℕ) (bytes entries rest : List ℕ) : Type 0 where
  pub rows : List (List ℕ)
  pub many : length rows ≡ count
  pub are : AreRows p width rows
  pub split : bytes ≡ rows_text degree rows ++ rest
  pub entries_are : entries ≡ joined rows

-- they do not all stand there: where so many bytes are left no further one stands
pub record StopsAt (p degree width height : ℕ) (bytes : List ℕ) (left : ℕ) : Type 0 where
  pub line : ℕ
  pub within : line < height
  pub entries : List ℕ
  pub rest : List ℕ
  pub has : HasRows p degree width line bytes entries rest
  pub left_is : left ≡ length rest
  pub here : HasNoRowLine degree width p rest

abbrev pub StopsRowsWith : ℕ → ℕ → ℕ → ℕ → List ℕ → ℕ → Law → Type 0
StopsRowsWith p degree width height bytes left laws.Text = StopsAt p degree width height bytes left
StopsRowsWith p degree width height bytes left law = ⊥

abbrev pub StopsRows : ℕ → ℕ → ℕ → ℕ → List ℕ → Stop → Type 0
StopsRows p degree width height bytes (stops.At left law) =
    StopsRowsWith p degree width height bytes left law
StopsRows p degree width height bytes stops.NoMemory = Unit {0}
