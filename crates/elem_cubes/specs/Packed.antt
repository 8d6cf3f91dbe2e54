-- Corners and cells as they are kept: coordinates padded to one length, which are compared and
-- hashed two at a time.
use Rattle.std.specs.Prelude.{◌≡◌, ℕ, ◌-◌, ◌^◌, ◌<◌, ℤ, pos, ◌+ℤ◌, ◌*ℤ◌, List, [], ◌∷◌, ◌++◌, length, take, replicate, IsTrue}
use Rattle.std.specs.List.{flat_map}
use Rattle.std.specs.Hash as fed
use Rattle.std.specs.declared.cmp.Ordering.{Ordering}
use Rattle.elem_cubes.specs.declared.range.TheConstants.{MAX_EMBEDDING}
use Rattle.elem_cubes.specs.declared.packed.TheConstants.{PADDING}
use Rattle.elem_cubes.specs.Corners.{is_corner, corner_cmp}
use Rattle.elem_cubes.specs.Cells.{Factor, cell_of, is_cell, lower_of, upper_of, axes_of}

-- the coordinates, and what stands below every coordinate
abbrev pub padded : ℕ → List ℤ → List ℤ
padded most xs = xs ++ replicate (most - length xs) PADDING

-- two coordinates as one number, in the order of the pairs
abbrev pub word : ℤ → ℤ → ℤ
word a b = (a *ℤ pos 4294967296) +ℤ (b +ℤ pos 2147483648)

abbrev pub words_of : List ℤ → List ℤ
words_of [] = []
words_of (a ∷ []) = word a PADDING ∷ []
words_of (a ∷ b ∷ ls) = word a b ∷ words_of ls

-- what the fields of a corner keep
pub record KeepsCorner (ends : List ℤ) (len : ℕ) : Type 0 where
  pub long : length (take len ends) ≡ len
  pub rest : ends ≡ padded MAX_EMBEDDING (take len ends)
  pub corner : IsTrue (is_corner (take len ends))

-- what the fields of a cell keep
pub record KeepsCell (ends : List ℤ) (len axes : ℕ) : Type 0 where
  pub long : length (take len ends) ≡ len
  pub rest : ends ≡ padded MAX_EMBEDDING (take len ends)
  pub few : axes < 2 ^ len
  pub cell : IsTrue (is_cell (cell_of (take len ends) axes))

-- the order of the upper corners of any two cells with one lower corner and these axes
abbrev pub OrdersUppers : ℕ → ℕ → Ordering → Type 0
OrdersUppers a b order =
    (ls : List ℤ) → a < 2 ^ length ls → b < 2 ^ length ls
    → order ≡ corner_cmp (upper_of (cell_of ls a)) (upper_of (cell_of ls b))

-- what a cell feeds a hasher: its words and its axes
abbrev pub cell_writes : List Factor → List (List ℕ)
cell_writes q =
    flat_map fed.i64 (words_of (padded MAX_EMBEDDING (lower_of q))) ++ fed.u8 (axes_of q)
