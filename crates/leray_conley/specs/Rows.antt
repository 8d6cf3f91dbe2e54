-- Rows of numbers
use Rattle.std.specs.Prelude.{◌≡◌, ℕ, ◌<◌, List, length, slice_index}

-- c is the place of the first entry of the row that is not 0
pub record IsLeading (row : List ℕ) (c : ℕ) : Type 0 where
  pub within : c < length row
  pub nonzero : 0 < slice_index row c
  pub first : (j : ℕ) → j < c → slice_index row j ≡ 0

-- the row has n entries, those of the function a
pub record IsRowOf (n : ℕ) (a : ℕ → ℕ) (row : List ℕ) : Type 0 where
  pub len : length row ≡ n
  pub at : (j : ℕ) → j < n → slice_index row j ≡ a j
