-- The squares of the plane with n by n holes.
use Rattle.std.specs.Prelude.{◌≡◌, ◌↔◌, ℕ, ◌*◌, ◌%◌, ◌≤◌, pos, List, [], ◌∷◌, true}
use Rattle.std.specs.List.Sorted.{IsStrictlySortedBy}
use Rattle.elem_cubes.specs.Cells.{Factor, full_cell}
use Rattle.elem_cubes.specs.Order.{cell_cmp}
use Rattle.cube_sets.specs.Sets.{Members, holds}

-- the unit square with the lower corner (x, y)
abbrev pub square : ℕ → ℕ → List Factor
square x y = full_cell (pos x ∷ pos y ∷ [])

-- q is the square of x and y, both from 0 to 2n, and not both odd: the squares that are left out
-- are the holes
pub record IsHoleSquare (n : ℕ) (q : List Factor) : Type 0 where
  pub x : ℕ
  pub y : ℕ
  pub first : x ≤ 2 * n
  pub second : y ≤ 2 * n
  pub not_both_odd : x % 2 ≡ 1 → y % 2 ≡ 1 → ⊥
  pub is : q ≡ square x y

-- the set is of dimension 2 and has exactly these squares, in order and each once
pub record IsHoleSet (n : ℕ) (set : Members) : Type 0 where
  pub dimension : set.dimension ≡ 2
  pub sorted : IsStrictlySortedBy cell_cmp set.cells
  pub members : (q : List Factor) → (holds set q ≡ true) ↔ IsHoleSquare n q
