-- Laws of inclusions and index matrices: each is the contract of a function of the crate with an
-- empty body.
use Rattle.std.specs.Prelude.{◌≡◌, ℕ, ◌<◌, ◌≤◌, List, [], length}
use Rattle.std.specs.List.{Contains}
use Rattle.elem_cubes.specs.Cells.{Factor}
use Rattle.chains.specs.Homology.{combination}
use Rattle.cell_complex.specs.RelativeComplex.{relative_complex}
use Rattle.cell_complex.specs.Numbering.{IsRelativeComplex}
use Rattle.homology_basis.specs.Bases.{CyclesOfLog, in_degree, IsBasisByCycles}
use Rattle.cube_maps.specs.CubeMaps.{Naming}
use Rattle.acyclic_values.specs.CarriedMaps.{IsInducedMatrix, IsSameClass}
use Rattle.index_map.specs.Inclusion.{IsInvertibleInclusion, IsKilled, IsMissed, IsIndexMatrix}

-- a matrix that goes before the inclusion to the induced one, up to null chains, is the index
-- matrix
abbrev pub IndexMatricesSolveInclusions : Type 0
IndexMatricesSolveInclusions =
    (p : ℕ) (map : List Naming) (domain range y b : List (List Factor)) (k n m : ℕ)
    (zs ws : ℕ → List Factor → ℕ) (induced index : ℕ → ℕ → ℕ)
    → 1 ≤ p → IsInducedMatrix p map domain range y b k n zs m ws induced
    → ((j : ℕ) → j < n → IsSameClass p (relative_complex p y b) k
    (combination n (λ i. index i j) zs) (combination m (λ i. induced i j) ws))
    → IsIndexMatrix p map domain range y b k n zs index

-- a killed cycle or a missed chain shows that the inclusion is not invertible
pub record FaultsAreFaults : Type 0 where
  pub killed : (p : ℕ) (x a y b : List (List Factor)) (k : ℕ) (z : List Factor → ℕ)
      → IsKilled p x a y b k z → IsInvertibleInclusion p x a y b k → ⊥
  pub missed : (p : ℕ) (x a y b : List (List Factor)) (k : ℕ) (c : List Factor → ℕ)
      → IsMissed p x a y b k c → IsInvertibleInclusion p x a y b k → ⊥

-- a basis of a pair of sets of cells has no cycle above the number of the cells' factors
abbrev pub NoCyclesAbove : Type 0
NoCyclesAbove =
    (p n k : ℕ) (x a cells : List (List Factor)) (A : CyclesOfLog)
    → IsRelativeComplex p x a cells A.log.complex → IsBasisByCycles p A
    → ((q : List Factor) → Contains x q → length q ≤ n) → n < k → in_degree A.cycles k ≡ []
