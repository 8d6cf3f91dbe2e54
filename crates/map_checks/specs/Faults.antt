-- Why a map does not go from one pair to another with acyclic values.
use Rattle.std.specs.Prelude.{◌≡◌, ℕ, List, true, false}
use Rattle.std.specs.List.{Contains}
use Rattle.elem_cubes.specs.Cells.{Factor}
use Rattle.elem_cubes.specs.Order.{cell_cmp}
use Rattle.cube_sets.specs.Sorted.{union_of}
use Rattle.cube_sets.specs.Closures.{cells_of}
use Rattle.cube_maps.specs.CubeMaps.{Naming, names, value_of}
use Rattle.cell_complex.specs.Acyclic.{IsAcyclic}
use Rattle.acyclic_values.specs.Values.{IsValueAt}
use Rattle.acyclic_values.specs.CarriedMaps.{GoesInto}
use Rattle.acyclic_values.specs.Faults.{IsHoleOf}
use Rattle.map_checks.specs.Firsts.{IsFirstOf}
use Rattle.map_checks.specs.declared.map_fault.MapFault.{MapFault}
use Rattle.map_checks.specs.declared.map_fault.MapFault.TheVariants as faults

-- the members of x and of a, in order
abbrev pub together : List (List Factor) → List (List Factor) → List (List Factor)
together x a = union_of cell_cmp x a

-- the map names these cubes
abbrev pub AreNamed : List Naming → List (List Factor) → Type 0
AreNamed map cubes = (q : List Factor) → Contains cubes q → names map q ≡ true

-- the value v of the cube q is not in the set
pub record IsOutside (map : List Naming) (set : List (List Factor))
    (q v : List Factor) : Type 0 where
  pub value : Contains (value_of map q) v
  pub outside : Contains set v → ⊥

-- the cube has a value that is not in the set
abbrev pub Leaves : List Naming → List (List Factor) → List Factor → Type 0
Leaves map set q = (v : List Factor) × IsOutside map set q v

-- the first of these cubes that has a value outside the set, and its first such value
pub record IsFirstOutside (map : List Naming) (cubes set : List (List Factor))
    (q v : List Factor) : Type 0 where
  pub cube : IsFirstOf cubes (Leaves map set) q
  pub value : IsFirstOf (value_of map q) (λ w. Contains set w → ⊥) v

-- the value at s is not acyclic
pub record IsHollowAt (p : ℕ) (map : List Naming) (domain : List (List Factor))
    (s : List Factor) : Type 0 where
  pub value : List (List Factor)
  pub is : IsValueAt map domain s value
  pub hollow : IsAcyclic p value → ⊥

-- the value at s is acyclic
abbrev pub IsAcyclicAt : ℕ → List Naming → List (List Factor) → List Factor → Type 0
IsAcyclicAt p map domain s =
    (value : List (List Factor)) → IsValueAt map domain s value → IsAcyclic p value

-- all cubes of the domain are named, their values are in the range, and those of the cubes of a are
-- in b
pub record HasNoSetFault (map : List Naming) (x a y b : List (List Factor)) : Type 0 where
  pub named : AreNamed map (together x a)
  pub inside : GoesInto map (together x a) (together y b)
  pub carried : GoesInto map a b

-- the first reason, in this order, why the map does not go from the pair of x and a to that of y
-- and b with acyclic values
abbrev pub IsMapFault : (p : ℕ) → List Naming → List (List Factor) → List (List Factor)
    → List (List Factor) → List (List Factor) → MapFault p → Type 0
IsMapFault p map x a y b (faults.Undefined cube) =
    IsFirstOf (together x a) (λ q. names map q ≡ false) cube
IsMapFault p map x a y b (faults.LeavesRange cube value) =
    AreNamed map (together x a) × IsFirstOutside map (together x a) (together y b) cube value
IsMapFault p map x a y b (faults.NotCarried cube value) =
    AreNamed map (together x a) × GoesInto map (together x a) (together y b)
    × IsFirstOutside map a b cube value
IsMapFault p map x a y b (faults.NotAcyclic cell value hole) =
    HasNoSetFault map x a y b × IsFirstOf (cells_of (together x a))
    (IsHollowAt p map (together x a)) cell
    × IsValueAt map (together x a) cell value.items × IsHoleOf p value.items hole
IsMapFault p map x a y b faults.NoMemory = Unit {0}

-- it is told from the sets alone
abbrev pub IsOfSets : (p : ℕ) → MapFault p → Type 0
IsOfSets p (faults.Undefined cube) = Unit {0}
IsOfSets p (faults.LeavesRange cube value) = Unit {0}
IsOfSets p (faults.NotCarried cube value) = Unit {0}
IsOfSets p (faults.NotAcyclic cell value hole) = ⊥
IsOfSets p faults.NoMemory = ⊥

-- it tells the value at s, with a hole
abbrev pub IsFaultAt : (p : ℕ) → List Naming → List (List Factor) → List Factor → MapFault p
    → Type 0
IsFaultAt p map domain s (faults.NotAcyclic cell value hole) =
    (cell ≡ s) × IsValueAt map domain s value.items × IsHoleOf p value.items hole
IsFaultAt p map domain s (faults.Undefined cube) = ⊥
IsFaultAt p map domain s (faults.LeavesRange cube value) = ⊥
IsFaultAt p map domain s (faults.NotCarried cube value) = ⊥
IsFaultAt p map domain s faults.NoMemory = Unit {0}

-- it tells the value, with a hole, at the first cell of the domain whose value is not acyclic
abbrev pub IsFirstHollow : (p : ℕ) → List Naming → List (List Factor) → MapFault p → Type 0
IsFirstHollow p map domain (faults.NotAcyclic cell value hole) =
    IsFirstOf (cells_of domain) (IsHollowAt p map domain) cell
    × IsValueAt map domain cell value.items × IsHoleOf p value.items hole
IsFirstHollow p map domain (faults.Undefined cube) = ⊥
IsFirstHollow p map domain (faults.LeavesRange cube value) = ⊥
IsFirstHollow p map domain (faults.NotCarried cube value) = ⊥
IsFirstHollow p map domain faults.NoMemory = Unit {0}
