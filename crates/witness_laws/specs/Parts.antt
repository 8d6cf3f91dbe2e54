-- The parts of a witness that do not depend on the form of its homotopies: chains of numbered
-- cells, images, vertices and matrices, with their laws.
use Rattle.std.specs.Prelude.{◌≡◌, ℕ, suc, ◌+◌, ◌-◌, ◌<◌, ◌≤◌, List, [], ◌∷◌, length, map, slice_index, slice_index_or}
use Rattle.std.specs.List.{Contains}
use Rattle.field_mod.specs.Modular.{Same}
use Rattle.elem_cubes.specs.Cells.{Factor, dimension_of}
use Rattle.elem_cubes.specs.Boundary.{boundary_coefficient, boundary_at}
use Rattle.elem_cubes.specs.Laws.{cell_at}
use Rattle.cell_complex.specs.Numbering.{number_of, cell_coefficient}
use Rattle.cell_complex.specs.Acyclic.{sum_over}
use Rattle.acyclic_values.specs.CarriedMaps.{image}
use Rattle.witness_laws.specs.Inputs.{Given, target_of, all_cells, relative_cells, value_cells}

-- the terms ascend strictly, from low on, and each coefficient is one of 1 .. p - 1
abbrev pub AreTerms : ℕ → ℕ → List (ℕ × ℕ) → Type 0
AreTerms p low [] = Unit {0}
AreTerms p low (t ∷ ts) = (low ≤ t.0) × (0 < t.1) × (t.1 < p) × AreTerms p (t.0 + 1) ts

-- the chain of cells that the terms are
abbrev pub chain_of : List (List Factor) → List (ℕ × ℕ) → List Factor → ℕ
chain_of cells ts = cell_coefficient (map (λ t. (cell_at cells (t.0 - 1), t.1)) ts)

-- each term names a cell of which P holds
abbrev pub NameCells : List (List Factor) → (List Factor → Type 0) → List (ℕ × ℕ) → Type 0
NameCells cells P [] = Unit {0}
NameCells cells P (t ∷ ts) =
    (0 < t.0) × (t.0 ≤ length cells) × P (cell_at cells (t.0 - 1)) × NameCells cells P ts

abbrev pub nth : List (List (ℕ × ℕ)) → ℕ → List (ℕ × ℕ)
nth cs i = slice_index_or cs i []

-- the i-th cell of the domain, and its value
abbrev pub cell_of : Given → ℕ → List Factor
cell_of G i = cell_at (all_cells G.x G.a) i

abbrev pub value_at : Given → ℕ → List (List Factor)
value_at G i = value_cells (target_of G) G.x G.a (cell_of G i)

abbrev pub range_cells : Given → List (List Factor)
range_cells G = all_cells (target_of G).y (target_of G).b

-- the image of a cell of the domain
abbrev pub image_of : Given → List (List (ℕ × ℕ)) → List Factor → List Factor → ℕ
image_of G images s = chain_of (range_cells G) (nth images (number_of (all_cells G.x G.a) s))

-- the cell that the i-th v line names, and its place in the value
abbrev pub vertex_cell : Given → List ℕ → ℕ → List Factor
vertex_cell G vertices i = cell_at (range_cells G) (slice_index vertices i - 1)

abbrev pub vertex_of : Given → List ℕ → ℕ → ℕ
vertex_of G vertices i = number_of (value_at G i) (vertex_cell G vertices i)

-- the entry of the matrix of degree k in row r and column s
abbrev pub entry_of : List (List (List ℕ)) → ℕ → ℕ → ℕ → ℕ
entry_of ms k r s = slice_index (slice_index_or (slice_index_or ms k []) r []) s

-- the matrices have a row for each cycle of the range, with an entry for each cycle of the domain
pub record AreMatrices (p top : ℕ) (height width : ℕ → ℕ) (ms : List (List (List ℕ))) : Type 0 where
  pub degrees : length ms ≡ top + 1
  pub rows : (k : ℕ) → length (slice_index_or ms k []) ≡ height k
  pub columns : (k r : ℕ) → r < height k
      → length (slice_index_or (slice_index_or ms k []) r []) ≡ width k
  pub entries : (k r s : ℕ) → r < height k → s < width k
      → slice_index (slice_index_or (slice_index_or ms k []) r []) s < p

-- the number in the file of the i-th relative cell, and of the m-th cell of the value at the i-th
-- cell of the domain
abbrev pub relative_number : List (List Factor) → List (List Factor) → ℕ → ℕ
relative_number x a i = suc (number_of (all_cells x a) (cell_at (relative_cells x a) i))

abbrev pub value_number : Given → ℕ → ℕ → ℕ
value_number G i m = suc (number_of (range_cells G) (cell_at (value_at G i) m))

-- ---- laws

-- the i-th v line names a vertex of the value
abbrev pub NamesVertex : Given → List ℕ → ℕ → Type 0
NamesVertex G vertices i =
    NameCells (range_cells G) (λ q. Contains (value_at G i) q × (dimension_of q ≡ 0))
    ((slice_index vertices i, 1) ∷ [])

-- the image of the i-th cell of the domain has its dimension
abbrev pub IsOfOneDimension : Given → List (List (ℕ × ℕ)) → ℕ → Type 0
IsOfOneDimension G images i =
    NameCells (range_cells G) (λ q. dimension_of q ≡ dimension_of (cell_of G i)) (nth images i)

-- it is on the value
abbrev pub IsCarriedTo : Given → List (List (ℕ × ℕ)) → ℕ → Type 0
IsCarriedTo G images i = NameCells (range_cells G) (Contains (value_at G i)) (nth images i)

-- the coefficients of the image of a vertex add up to 1
abbrev pub IsAugmented : ℕ → Given → List (List (ℕ × ℕ)) → ℕ → Type 0
IsAugmented p G images i =
    dimension_of (cell_of G i) ≡ 0 → Same p
    (sum_over (range_cells G) (image_of G images (cell_of G i))) 1

-- its boundary is the image of the boundary, with all cells of domain and range
abbrev pub Commutes : ℕ → Given → List (List (ℕ × ℕ)) → ℕ → Type 0
Commutes p G images i =
    (r : List Factor) → Same p (boundary_at p r (image_of G images (cell_of G i)))
    (image (all_cells G.x G.a) (image_of G images) (boundary_coefficient p (cell_of G i)) r)
