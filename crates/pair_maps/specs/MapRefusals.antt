-- Which faults refuse a map from one pair of sets of full cubes to another, as they are told.
use Rattle.std.specs.Prelude.{◌≡◌, ℕ, List, [], false}
use Rattle.elem_cubes.specs.Cells.{Factor}
use Rattle.chains.specs.Terms.{IsNormal}
use Rattle.cube_sets.specs.Closures.{cells_of}
use Rattle.cube_maps.specs.CubeMaps.{Naming, names}
use Rattle.cell_complex.specs.Numbering.{cell_terms}
use Rattle.acyclic_values.specs.Values.{IsValueAt}
use Rattle.acyclic_values.specs.CarriedMaps.{GoesInto}
use Rattle.acyclic_values.specs.Faults.{IsHoleOf}
use Rattle.acyclic_values.specs.declared.hole.Hole.TheVariants.{Class}
use Rattle.map_checks.specs.Firsts.{IsFirstOf}
use Rattle.map_checks.specs.Faults.{together, AreNamed, IsFirstOutside, IsHollowAt, HasNoSetFault}
use Rattle.faults.specs.declared.fault.Fault.{Fault}
use Rattle.faults.specs.declared.fault.Fault.TheVariants.{Undefined, LeavesRange, LeavesSubset, EmptyValue, NotAcyclic}

-- The cycle and the cocycle, in normal form and with the cells of the value in place of their
-- places, show a hole of the value: the degree is the least in which it is not acyclic, and their
-- product is 1.
pub record IsShownHole (p : ℕ) (value : List (List Factor)) (degree : ℕ)
    (cycle cocycle : List (List Factor × ℕ)) : Type 0 where
  pub z : List (ℕ × ℕ)
  pub w : List (ℕ × ℕ)
  pub hole : IsHoleOf p value (Class degree z w)
  pub normal_cycle : IsNormal p z
  pub normal_cocycle : IsNormal p w
  pub cycle_is : cycle ≡ cell_terms value z
  pub cocycle_is : cocycle ≡ cell_terms value w

-- s is the first cell of the domain whose value is not acyclic, and that is its value
pub record IsFirstHollow (p : ℕ) (map : List Naming) (domain : List (List Factor))
    (s : List Factor) (value : List (List Factor)) : Type 0 where
  pub first : IsFirstOf (cells_of domain) (IsHollowAt p map domain) s
  pub is : IsValueAt map domain s value

-- The first reason why the map does not go from the pair of x and a to that of y and b with acyclic
-- values: the first cube of the domain without a name, then its first cube with a value outside the
-- range, and its first such value, then the first cube of a with a value outside b, and its first
-- such value, and then the first cell of the domain whose value is empty or has a hole.
abbrev pub RefusesMap : ℕ → List Naming → List (List Factor) → List (List Factor)
    → List (List Factor) → List (List Factor) → Fault → Type 0
RefusesMap p map x a y b (Undefined cube) = IsFirstOf (together x a) (λ q. names map q ≡ false) cube
RefusesMap p map x a y b (LeavesRange cube value) = AreNamed map (together x a)
    × IsFirstOutside map (together x a) (together y b) cube value
RefusesMap p map x a y b (LeavesSubset cube value) = AreNamed map (together x a)
    × GoesInto map (together x a) (together y b) × IsFirstOutside map a b cube value
RefusesMap p map x a y b (EmptyValue cell) = HasNoSetFault map x a y b
    × IsFirstHollow p map (together x a) cell []
RefusesMap p map x a y b (NotAcyclic cell degree cycle cocycle) = HasNoSetFault map x a y b
    × (value : List (List Factor)) × IsFirstHollow p map (together x a) cell value
    × IsShownHole p value degree cycle cocycle
RefusesMap p map x a y b fault = ⊥
