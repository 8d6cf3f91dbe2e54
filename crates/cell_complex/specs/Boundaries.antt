-- The boundaries of numbered cells, while a complex is made of them.
use Rattle.std.specs.Prelude.{◌≡◌, ◌⊎◌, ℕ, ◌+◌, ◌*◌, ◌<◌, ◌≤◌, ℤ, pos, negsuc, List, [], ◌∷◌, length, slice_index_or, if◌then◌else◌}
use Rattle.field_mod.specs.Modular.{Same}
use Rattle.elem_cubes.specs.Cells.{Factor, same_cell}
use Rattle.elem_cubes.specs.Boundary.{residue, boundary_coefficient, signed_sum}
use Rattle.elem_cubes.specs.Laws.{cell_at}
use Rattle.chains.specs.Terms.{coefficient, IsNormal}

-- the chain that is 1 at the cell r alone
abbrev pub unit_at : List Factor → List Factor → ℕ
unit_at r q = if same_cell q r then 1 else 0

-- 1 or -1
abbrev pub IsSign : ℤ → Type 0
IsSign s = (s ≡ pos 1) ⊎ (s ≡ negsuc 0)

-- each of the cells has a sign
abbrev pub HaveSigns : List (List Factor × ℤ) → Type 0
HaveSigns [] = Unit {0}
HaveSigns (g ∷ gs) = IsSign g.1 × HaveSigns gs

-- the terms became those with one more facet and its sign, where the facet is in the list
pub record AddsFacet (p : ℕ) (cells : List (List Factor)) (facet : List Factor) (sign : ℤ)
    (old new : List (ℕ × ℕ)) : Type 0 where
  pub inside : (g : ℕ) → g < length cells
      → Same p (coefficient new g)
      (coefficient old g + residue p sign * unit_at (cell_at cells g) facet)
  pub past : (g : ℕ) → length cells ≤ g → coefficient new g ≡ coefficient old g

-- with the facets that are left, the terms are the boundary of the cell q among the cells of the
-- list
pub record IsPartialBoundary (p : ℕ) (cells : List (List Factor)) (q : List Factor)
    (left : List (List Factor × ℤ)) (ts : List (ℕ × ℕ)) : Type 0 where
  pub inside : (g : ℕ) → g < length cells
      → Same p (coefficient ts g + signed_sum p (unit_at (cell_at cells g)) left)
      (boundary_coefficient p q (cell_at cells g))
  pub past : (g : ℕ) → length cells ≤ g → coefficient ts g ≡ 0
  pub signs : HaveSigns left

-- the chain is the boundary of the cell q, of which only terms at cells of the list count
pub record IsBoundaryAmong (p : ℕ) (cells : List (List Factor)) (q : List Factor)
    (ts : List (ℕ × ℕ)) : Type 0 where
  pub normal : IsNormal p ts
  pub coefficients : (g : ℕ) → Same p (coefficient ts g)
      (boundary_coefficient p q (cell_at cells g))

-- the chains of the list are the boundaries of the first cells
pub record AreBoundaries (p : ℕ) (cells : List (List Factor))
    (bs : List (List (ℕ × ℕ))) : Type 0 where
  pub each : (h : ℕ) → h < length bs → IsBoundaryAmong p cells (cell_at cells h)
      (slice_index_or bs h [])
