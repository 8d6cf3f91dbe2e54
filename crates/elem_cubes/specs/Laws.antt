-- Laws of cells: each is the contract of a function of the crate with an empty body.
use Rattle.std.specs.Prelude.{◌≡◌, ◌≢◌, ◌↔◌, true, ℕ, ◌*◌, ◌<◌, ◌≤◌, ℤ, ◌+ℤ◌, List, [], length, slice_index_or, slice_set, IsTrue}
use Rattle.std.specs.List.{Contains, list_all}
use Rattle.std.specs.Cmp.{IsTotalOrder}
use Rattle.std.specs.declared.cmp.Ordering.TheVariants.{Equal}
use Rattle.field_mod.specs.Sums.{total}
use Rattle.field_mod.specs.Modular.{Same}
use Rattle.elem_cubes.specs.Corners.{corner_cmp}
use Rattle.elem_cubes.specs.Cells.{Factor, low, high, is_wide, is_cell, is_file_factor, lower_of, upper_of, axes_of, cell_of, full_cell, same_cell}
use Rattle.elem_cubes.specs.Faces.{IsFace, IsFacet, faces_of, cofaces_of, closure_of}
use Rattle.elem_cubes.specs.Boundary.{residue, boundary_coefficient, boundary_at, boundary_pairing, signed_sum}
use Rattle.elem_cubes.specs.Order.{cell_cmp}
use Rattle.elem_cubes.specs.Walks.{factor_at}

-- the cell at a place of a list; past the end the empty cell, whose coefficients are 0
abbrev pub cell_at : List (List Factor) → ℕ → List Factor
cell_at cells i = slice_index_or cells i []

-- a cell is its lower corner and its axes, and its lower corner and its upper corner
pub record CellsHaveParts : Type 0 where
  pub axes : (q : List Factor) → cell_of (lower_of q) (axes_of q) ≡ q
  pub corners : (q r : List Factor) → lower_of q ≡ lower_of r → upper_of q ≡ upper_of r → q ≡ r

-- being a face is an order: reflexive, antisymmetric and transitive
pub record FacesAreTransitive : Type 0 where
  pub itself : (q : List Factor) → IsFace q q
  pub both : (q r : List Factor) → IsFace q r → IsFace r q → q ≡ r
  pub further : (q r s : List Factor) → IsFace q r → IsFace r s → IsFace q s

-- with a cell its faces are in the range of cells, and in that of files
pub record FacesStayInRange : Type 0 where
  pub cells : (q r : List Factor) → IsFace q r → IsTrue (is_cell q) → IsTrue (is_cell r)
  pub files : (q r : List Factor) → IsFace q r → IsTrue (list_all is_file_factor q)
      → IsTrue (list_all is_file_factor r)

-- the listed faces are the facets, each once, with their coefficients in the boundary; all other
-- coefficients are 0
pub record FacesAreFacets : Type 0 where
  pub facets : (q r : List Factor) (s : ℤ) → Contains (faces_of q) (r, s) → IsFacet q r
  pub all : (q r : List Factor) → IsFacet q r → (s : ℤ) × Contains (faces_of q) (r, s)
  pub once : (q : List Factor) (d : List Factor × ℤ) (i j : ℕ) → i < length (faces_of q)
      → j < length (faces_of q)
      → (slice_index_or (faces_of q) i d).0 ≡ (slice_index_or (faces_of q) j d).0 → i ≡ j
  pub signs : (p : ℕ) (q r : List Factor) (s : ℤ) → 1 ≤ p → Contains (faces_of q) (r, s)
      → Same p (boundary_coefficient p q r) (residue p s)
  pub others : (p : ℕ) (q r : List Factor) → ¬ IsFacet q r → boundary_coefficient p q r ≡ 0
  pub sum : (p : ℕ) (q : List Factor) (f : List Factor → ℕ) → 1 ≤ p
      → Same p (signed_sum p f (faces_of q)) (boundary_pairing p q f)

-- the listed cofaces are all cells that have the cell as a facet, each once, with the same signs
pub record CofacesAreAll : Type 0 where
  pub cofacets : (q r : List Factor) (s : ℤ) → Contains (cofaces_of r) (q, s) → IsFacet q r
  pub all : (q r : List Factor) → IsFacet q r → (s : ℤ) × Contains (cofaces_of r) (q, s)
  pub once : (r : List Factor) (d : List Factor × ℤ) (i j : ℕ) → i < length (cofaces_of r)
      → j < length (cofaces_of r)
      → (slice_index_or (cofaces_of r) i d).0 ≡ (slice_index_or (cofaces_of r) j d).0 → i ≡ j
  pub signs : (p : ℕ) (q r : List Factor) (s : ℤ) → 1 ≤ p → Contains (cofaces_of r) (q, s)
      → Same p (boundary_coefficient p q r) (residue p s)

-- the boundary of a chain at a cell is the signed sum over its cofaces
abbrev pub BoundaryIsOverCofaces : Type 0
BoundaryIsOverCofaces =
    (p : ℕ) (r : List Factor) (c : List Factor → ℕ) → 1 ≤ p
    → Same p (signed_sum p c (cofaces_of r)) (boundary_at p r c)

-- the closure has exactly the faces, each once, and with each cell its faces
pub record ClosuresAreFaces : Type 0 where
  pub faces : (q r : List Factor) → Contains (closure_of q) r ↔ IsFace q r
  pub once : (q d : List Factor) (i j : ℕ) → i < length (closure_of q) → j < length (closure_of q)
      → slice_index_or (closure_of q) i d ≡ slice_index_or (closure_of q) j d → i ≡ j
  pub closed : (q r s : List Factor) → Contains (closure_of q) r → IsFace r s
      → Contains (closure_of q) s

-- the coefficient of a facet is its own inverse
abbrev pub FacetsAreUnits : Type 0
FacetsAreUnits =
    (p : ℕ) (q r : List Factor) → 1 ≤ p → IsFacet q r
    → Same p (boundary_coefficient p q r * boundary_coefficient p q r) 1

-- the boundary of the boundary is 0, for any function of cells
abbrev pub BoundaryOfBoundaryIsZero : Type 0
BoundaryOfBoundaryIsZero =
    (p : ℕ) (r : List Factor) (c : List Factor → ℕ) → 1 ≤ p
    → Same p (boundary_at p r (λ s. boundary_at p s c)) 0

-- the boundary at a cell is the sum over any list that has, each once, the cells at which the chain
-- is not 0 and which have the cell as a face
abbrev pub BoundaryAtIsBoundary : Type 0
BoundaryAtIsBoundary =
    (p : ℕ) (cells : List (List Factor)) (c : List Factor → ℕ) (r : List Factor)
    → ((i j : ℕ) → i < length cells → j < length cells → cell_at cells i ≡ cell_at cells j → i ≡ j)
    → ((s : List Factor) → IsFace s r → c s ≢ 0
    → (i : ℕ) × (i < length cells) × (cell_at cells i ≡ s))
    → Same p (total (length cells)
    (λ i. c (cell_at cells i) * boundary_coefficient p (cell_at cells i) r)) (boundary_at p r c)

-- the order of cells is total, no two cells tie, and full cubes compare by their lower corners
pub record OrderIsTotal : Type 0 where
  pub total : IsTotalOrder cell_cmp
  pub tied : (q r : List Factor) → (cell_cmp q r ≡ Equal) ↔ (q ≡ r)
  pub equal : (q r : List Factor) → (same_cell q r ≡ true) ↔ (q ≡ r)
  pub full : (ls ms : List ℤ) → cell_cmp (full_cell ls) (full_cell ms) ≡ corner_cmp ls ms

-- where two cells are intervals along an axis, and both intervals are changed alike, each end moved
-- by so much, the cells stand in the order in which they stood
abbrev pub ChangesKeepOrder : Type 0
ChangesKeepOrder =
    (change : ℤ → Factor) (a b : ℤ) → ((l : ℤ) → low (change l) ≡ l +ℤ a)
    → ((l : ℤ) → high (change l) ≡ l +ℤ b)
    → (q r : List Factor) (axis : ℕ) → is_wide (factor_at q axis) ≡ true
    → is_wide (factor_at r axis) ≡ true
    → cell_cmp (slice_set q axis (change (low (factor_at q axis))))
    (slice_set r axis (change (low (factor_at r axis)))) ≡ cell_cmp q r
