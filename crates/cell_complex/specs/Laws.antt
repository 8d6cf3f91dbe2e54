-- Laws of relative complexes: each is the contract of a function of the crate with an empty body.
use Rattle.std.specs.Prelude.{◌≡◌, ◌↔◌, ℕ, ◌<◌, ◌≤◌, ◌&&◌, ◌++◌, ◌∷◌, not, true, Bool, List, [], length, slice_index_or}
use Rattle.std.specs.List.{Contains}
use Rattle.elem_cubes.specs.Cells.{Factor}
use Rattle.elem_cubes.specs.Faces.{is_face, closure_of}
use Rattle.elem_cubes.specs.Laws.{cell_at}
use Rattle.chains.specs.Homology.{IsBoundaryOperator, IsChain, IsCycle, IsNull, IsBasis}
use Rattle.chains.specs.Terms.{coefficient}
use Rattle.chains.specs.ChainComplex.{ChainComplex, IsComplex, IsBasisOf, system}
use Rattle.cube_sets.specs.Closures.{is_cell_of}
use Rattle.cell_complex.specs.RelativeComplex.{is_relative, complex_on, relative_complex, IsClosed, IsClosedList, SquaresToZero}
use Rattle.cell_complex.specs.Acyclic.{IsAcyclic}
use Rattle.cell_complex.specs.AcyclicLists.{IsAcyclicList}
use Rattle.cell_complex.specs.Growth.{cells_in, IsMovable, IsGrowth}
use Rattle.cell_complex.specs.Numbering.{IsRelativeComplex, by_cell, by_number, cell_coefficient, cell_terms}

-- the cells of a set are closed under faces, the cells of a list that is closed are those of the
-- list, and to join the second set to the first changes no relative cell
pub record CellsOfSetsAreClosed : Type 0 where
  pub closed : (x : List (List Factor)) → IsClosed (is_cell_of x)
  pub themselves : (x : List (List Factor)) → IsClosedList x → (q : List Factor)
      → (is_cell_of x q ≡ true) ↔ Contains x q
  pub joined : (x a : List (List Factor)) (q : List Factor)
      → is_relative (x ++ a) a q ≡ is_relative x a q

-- the cells of one closed set that are not in another are a complex: the boundary of each boundary
-- is 0
abbrev pub DifferencesAreComplexes : Type 0
DifferencesAreComplexes =
    (p : ℕ) (in_x in_a : List Factor → Bool) → 1 ≤ p → IsClosed in_x → IsClosed in_a
    → SquaresToZero p (complex_on p (λ q. in_x q && not (in_a q)))

-- the relative complex of any two sets is a complex: the boundary of each boundary is 0, and the
-- boundary is linear and lowers the degree by one
pub record RelativeComplexesAreComplexes : Type 0 where
  pub squares : (p : ℕ) (x a : List (List Factor)) → 1 ≤ p
      → SquaresToZero p (relative_complex p x a)
  pub operator : (p : ℕ) (x a : List (List Factor)) → IsBoundaryOperator p (relative_complex p x a)

-- the numbered relative complex is a chain complex
abbrev pub NumberedCellsAreComplex : Type 0
NumberedCellsAreComplex =
    (p : ℕ) (x a cells : List (List Factor)) (K : ChainComplex) → 1 ≤ p
    → IsRelativeComplex p x a cells K → IsComplex p K

-- chains, cycles, null chains and bases of the numbered relative complex are those of the relative
-- complex over the cells
pub record ChainsAreByNumberOrCell (p : ℕ) (x a cells : List (List Factor))
    (K : ChainComplex) : Type 0 where
  pub chain_by_cell : (k : ℕ) (c : ℕ → ℕ) → IsChain p (system K) k c
      → IsChain p (relative_complex p x a) k (by_cell cells c)
  pub chain_by_number : (k : ℕ) (c : List Factor → ℕ) → IsChain p (relative_complex p x a) k c
      → IsChain p (system K) k (by_number cells c)
  pub cycle_by_cell : (k : ℕ) (z : ℕ → ℕ) → IsCycle p (system K) k z
      → IsCycle p (relative_complex p x a) k (by_cell cells z)
  pub cycle_by_number : (k : ℕ) (z : List Factor → ℕ) → IsCycle p (relative_complex p x a) k z
      → IsCycle p (system K) k (by_number cells z)
  pub null_by_cell : (k : ℕ) (z : ℕ → ℕ) → IsNull p (system K) k z
      → IsNull p (relative_complex p x a) k (by_cell cells z)
  pub null_by_number : (k : ℕ) (z : List Factor → ℕ) → IsNull p (relative_complex p x a) k z
      → IsNull p (system K) k (by_number cells z)
  pub basis_by_cell : (k n : ℕ) (zs : ℕ → ℕ → ℕ) → IsBasis p (system K) k n zs
      → IsBasis p (relative_complex p x a) k n (λ i. by_cell cells (zs i))
  pub basis_by_number : (k n : ℕ) (zs : ℕ → List Factor → ℕ)
      → IsBasis p (relative_complex p x a) k n zs
      → IsBasis p (system K) k n (λ i. by_number cells (zs i))
  pub basis_of_terms : (k : ℕ) (zs : List (List (ℕ × ℕ)))
      → ((i g : ℕ) → i < length zs → length cells ≤ g → coefficient (slice_index_or zs i []) g ≡ 0)
      → IsBasisOf p K k zs ↔ IsBasis p (relative_complex p x a) k (length zs)
      (λ i. cell_coefficient (cell_terms cells (slice_index_or zs i [])))

abbrev pub BasesAreByNumberOrCell : Type 0
BasesAreByNumberOrCell =
    (p : ℕ) (x a cells : List (List Factor)) (K : ChainComplex) → 1 ≤ p
    → IsRelativeComplex p x a cells K → ChainsAreByNumberOrCell p x a cells K

-- ---- acyclic sets

-- whether a set is acyclic depends on its cells alone
abbrev pub AcyclicityIsOfCells : Type 0
AcyclicityIsOfCells =
    (p : ℕ) (x y : List (List Factor)) → ((q : List Factor) → is_cell_of x q ≡ is_cell_of y q)
    → IsAcyclic p x → IsAcyclic p y

-- a list that has each of its cells once, and with each its faces, is acyclic as a list exactly
-- where it is as a set
abbrev pub AcyclicListsAreSets : Type 0
AcyclicListsAreSets =
    (p : ℕ) (cells : List (List Factor)) → IsClosedList cells
    → ((i j : ℕ) → i < length cells → j < length cells → cell_at cells i ≡ cell_at cells j → i ≡ j)
    → IsAcyclic p cells ↔ IsAcyclicList p cells

-- all faces of a cell are acyclic
abbrev pub CellsAreAcyclic : Type 0
CellsAreAcyclic = (p : ℕ) (q : List Factor) → 1 ≤ p → IsAcyclic p (closure_of q)

-- where those faces of a cell that a closed set has are acyclic, the other faces carry no homology
abbrev pub MovableCellsAreNull : Type 0
MovableCellsAreNull =
    (p : ℕ) (test : List Factor → Bool) (q : List Factor) → 1 ≤ p → IsClosed test
    → IsAcyclic p (cells_in test q)
    → (k : ℕ) (z : List Factor → ℕ) → IsCycle p (complex_on p (λ s. is_face q s && not (test s))) k
    z → IsNull p (complex_on p (λ s. is_face q s && not (test s))) k z

-- a growth goes on with a member that may be moved
abbrev pub GrowthsGoOn : Type 0
GrowthsGoOn =
    (p : ℕ) (x a cubes : List (List Factor)) (q : List Factor)
    → IsGrowth p x a cubes → Contains x q → IsMovable p (a ++ cubes) q
    → IsGrowth p x a (cubes ++ q ∷ [])
