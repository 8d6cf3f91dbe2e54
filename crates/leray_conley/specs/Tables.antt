-- Matrices as the program keeps them: sizes, and entries by rows
use Rattle.std.specs.Prelude.{◌≡◌, ℕ, ◌+◌, ◌*◌, ◌<◌, ◌≤◌, List, length, slice_index}

-- a matrix, seen as a number of rows, a number of columns and the list of its entries by rows
pub record Table : Type 0 where
  pub rows : ℕ
  pub columns : ℕ
  pub entries : List ℕ

-- the entry in row i and column j
abbrev pub entry : Table → ℕ → ℕ → ℕ
entry m i j = slice_index m.entries (i * m.columns + j)

-- numbers below p, as many as rows times columns, and at most 16,777,216
pub record IsTable (p : ℕ) (m : Table) : Type 0 where
  pub count : length m.entries ≡ m.rows * m.columns
  pub bound : m.rows * m.columns ≤ 16777216
  pub below : (k : ℕ) → k < length m.entries → slice_index m.entries k < p

-- m has these sizes, and the entries of the function a
pub record HasEntries (rows columns : ℕ) (a : ℕ → ℕ → ℕ) (m : Table) : Type 0 where
  pub has_rows : m.rows ≡ rows
  pub has_columns : m.columns ≡ columns
  pub at : (i j : ℕ) → i < rows → j < columns → entry m i j ≡ a i j
