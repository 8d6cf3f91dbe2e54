-- When a pair is told not to be included in another, and an inclusion not to be invertible.
use Rattle.std.specs.Prelude.{◌≡◌, ℕ, ◌<◌, List}
use Rattle.std.specs.List.{Contains}
use Rattle.elem_cubes.specs.Cells.{Factor}
use Rattle.chains.specs.Terms.{coefficient}
use Rattle.cell_complex.specs.Numbering.{by_cell}
use Rattle.map_checks.specs.Firsts.{IsFirstOf}
use Rattle.map_checks.specs.Faults.{together}
use Rattle.homology_basis.specs.Bases.{BasisOfLog, CyclesOfLog}
use Rattle.induced_map.specs.Within.{AreWithin}
use Rattle.index_map.specs.Inclusion.{IsInvertibleInclusion, IsKilled, IsMissed}
use Rattle.index_map.specs.Pairs.{IsIncludedPair}
use Rattle.index_map.specs.declared.inclusion.NotIncluded.{NotIncluded}
use Rattle.index_map.specs.declared.inclusion.NotIncluded.TheVariants.{Whole, Subset}
use Rattle.index_map.specs.declared.fault.Side.{Side}
use Rattle.index_map.specs.declared.fault.Side.TheVariants.{Killed, Missed}
use Rattle.index_map.specs.declared.fault.IndexFault.{IndexFault}
use Rattle.index_map.specs.declared.fault.IndexFault.TheVariants.{NotInvertible, NoMemory}

-- the first cube of the domain that is not in the range; else the first cube of a that is not in b
abbrev pub IsNotIncluded : List (List Factor) → List (List Factor) → List (List Factor)
    → List (List Factor) → NotIncluded → Type 0
IsNotIncluded x a y b (Whole cube) =
    IsFirstOf (together x a) (λ q. Contains (together y b) q → ⊥) cube
IsNotIncluded x a y b (Subset cube) =
    ((q : List Factor) → Contains (together x a) q → Contains (together y b) q)
    × IsFirstOf a (λ q. Contains b q → ⊥) cube

-- the chain, by the numbers of the cells of its pair, shows that the inclusion is not invertible in
-- degree k: a killed cycle, or a missed cocycle where no cycle is killed
abbrev pub IsSide : (p : ℕ) → List (List Factor) → List (List Factor) → List (List Factor)
    → List (List Factor) → List (List Factor) → List (List Factor) → ℕ → Side p → Type 0
IsSide p x a y b domain_cells range_cells k (Killed chain) =
    AreWithin domain_cells chain × IsKilled p x a y b k (by_cell domain_cells (coefficient chain))
IsSide p x a y b domain_cells range_cells k (Missed chain) =
    AreWithin range_cells chain × IsMissed p x a y b k (by_cell range_cells (coefficient chain))
    × ((z : List Factor → ℕ) → IsKilled p x a y b k z → ⊥)

-- the inclusion is not invertible in that degree, and is in each below
abbrev pub IsIndexFault : (p : ℕ) → List (List Factor) → List (List Factor) → List (List Factor)
    → List (List Factor) → List (List Factor) → List (List Factor) → IndexFault p → Type 0
IsIndexFault p x a y b domain_cells range_cells (NotInvertible k side) =
    IsSide p x a y b domain_cells range_cells k side
    × ((l : ℕ) → l < k → IsInvertibleInclusion p x a y b l)
IsIndexFault p x a y b domain_cells range_cells NoMemory = Unit {0}

-- whatever the pairs are, the inclusion is not invertible in degree k
abbrev pub IsFaultIn : (p : ℕ) → List (List Factor) → CyclesOfLog → List (List Factor)
    → BasisOfLog → ℕ → IndexFault p → Type 0
IsFaultIn p domain_cells A range_cells B k (NotInvertible degree side) =
    (degree ≡ k) × ((x a y b : List (List Factor))
    → IsIncludedPair p x a y b domain_cells A range_cells B
    → IsSide p x a y b domain_cells range_cells k side)
IsFaultIn p domain_cells A range_cells B k NoMemory = Unit {0}
