-- What refuses the index part of a report on a map of pairs.
use Rattle.std.specs.Prelude.{◌≡◌, ◌⊎◌, ℕ, ◌<◌, List, map}
use Rattle.std.specs.List.{All, Contains}
use Rattle.std.specs.List.Sorted.{IsStrictlySortedBy}
use Rattle.elem_cubes.specs.Cells.{Factor}
use Rattle.elem_cubes.specs.Order.{cell_cmp}
use Rattle.cell_complex.specs.Numbering.{cell_coefficient}
use Rattle.map_checks.specs.Firsts.{IsFirstOf}
use Rattle.faults.specs.declared.fault.Fault.{Fault}
use Rattle.faults.specs.declared.fault.Fault.TheVariants.{NotInRange, NotInSubset, Killed, Missed}
use Rattle.pair_maps.specs.declared.inputs.PairMap.{PairMap}
use Rattle.pair_maps.specs.Inputs.{domain_of, range_of}
use Rattle.index_map.specs.Inclusion.{IsIncluded, IsKilled, IsMissed}
use Rattle.index_part.specs.Right.{IsInvertibleIn}

-- a chain as it is printed: its cells stand in order, each once, and each coefficient is one of
-- 1 .. p - 1
pub record IsPrintedChain (p : ℕ) (ts : List (List Factor × ℕ)) : Type 0 where
  pub ordered : IsStrictlySortedBy cell_cmp (map (λ t. t.0) ts)
  pub coefficients : All (λ t. (0 < t.1) × (t.1 < p)) ts

-- the pair of the domain is not included in that of the range: the first cube of the whole domain
-- that is not in the whole range; else the first cube of the domain's subset that is not in the
-- range's
abbrev pub RefusesInclusion : PairMap → Fault → Type 0
RefusesInclusion m fault =
    ((cube : List Factor) × IsFirstOf (domain_of m) (λ q. Contains (range_of m) q → ⊥) cube
    × (fault ≡ NotInRange cube))
    ⊎ (((q : List Factor) → Contains (domain_of m) q → Contains (range_of m) q)
    × (cube : List Factor) × IsFirstOf m.a.cells (λ q. Contains m.b.cells q → ⊥) cube
    × (fault ≡ NotInSubset cube))

-- the chain is a cycle of the pair of the domain that is not null there, and is null in that of the
-- range
abbrev pub IsKilledIn : ℕ → PairMap → ℕ → (List Factor → ℕ) → Type 0
IsKilledIn p m = IsKilled p m.x.cells m.a.cells m.y.cells m.b.cells

-- the inclusion is not invertible in degree k: a cycle is killed; or none is, and a cocycle is
-- missed
abbrev pub RefusesDegree : ℕ → PairMap → ℕ → Fault → Type 0
RefusesDegree p m k fault =
    ((chain : List (List Factor × ℕ)) × IsPrintedChain p chain
    × IsKilledIn p m k (cell_coefficient chain) × (fault ≡ Killed k chain))
    ⊎ (((z : List Factor → ℕ) → IsKilledIn p m k z → ⊥)
    × (chain : List (List Factor × ℕ)) × IsPrintedChain p chain
    × IsMissed p m.x.cells m.a.cells m.y.cells m.b.cells k (cell_coefficient chain)
    × (fault ≡ Missed k chain))

-- the pair is included, and in degree k its inclusion is not invertible, but is in each lower one
pub record RefusesInverse (p : ℕ) (m : PairMap) (fault : Fault) : Type 0 where
  pub included : IsIncluded m.x.cells m.a.cells m.y.cells m.b.cells
  pub degree : ℕ
  pub below : (l : ℕ) → l < degree → IsInvertibleIn p m l
  pub here : RefusesDegree p m degree fault

-- what refuses the index part
abbrev pub RefusesIndex : ℕ → PairMap → Fault → Type 0
RefusesIndex p m fault = RefusesInclusion m fault ⊎ RefusesInverse p m fault
