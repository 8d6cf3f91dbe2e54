-- How faults of maps are told.
use Rattle.std.specs.Prelude.{◌≡◌, ℕ, List}
use Rattle.elem_cubes.specs.Cells.{Factor}
use Rattle.cell_complex.specs.Numbering.{cell_terms}
use Rattle.acyclic_values.specs.Deciding.{IsNormalHole}
use Rattle.acyclic_values.specs.Faults.{IsHoleOf}
use Rattle.acyclic_values.specs.declared.hole.Hole.{Hole}
use Rattle.acyclic_values.specs.declared.hole.Hole.TheVariants.{Empty, Class}
use Rattle.map_checks.specs.declared.map_fault.MapFault.{MapFault}
use Rattle.map_checks.specs.declared.map_fault.MapFault.TheVariants as maps
use Rattle.faults.specs.declared.fault.Fault.{Fault}
use Rattle.faults.specs.declared.fault.Fault.TheVariants.{Undefined, LeavesRange, LeavesSubset, EmptyValue, NotAcyclic, OutOfMemory}

-- a hole of the value at a cell, with the cells of the value in place of their places
abbrev pub hole_fault : (p : ℕ) → List Factor → List (List Factor) → Hole p → Fault
hole_fault p cell value Empty = EmptyValue cell
hole_fault p cell value (Class k z w) = NotAcyclic cell k (cell_terms value z) (cell_terms value w)

-- a fault of a map is told as this one
abbrev pub IsTold : (p : ℕ) → MapFault p → Fault → Type 0
IsTold p (maps.Undefined cube) fault = fault ≡ Undefined cube
IsTold p (maps.LeavesRange cube value) fault = fault ≡ LeavesRange cube value
IsTold p (maps.NotCarried cube value) fault = fault ≡ LeavesSubset cube value
IsTold p (maps.NotAcyclic cell value hole) fault =
    (fault ≡ hole_fault p cell value.items hole) × IsNormalHole p hole
IsTold p maps.NoMemory fault = fault ≡ OutOfMemory

-- where it is of a value, its hole is one of that value
abbrev pub HasItsHole : (p : ℕ) → MapFault p → Type 0
HasItsHole p (maps.NotAcyclic cell value hole) = IsHoleOf p value.items hole
HasItsHole p (maps.Undefined cube) = Unit {0}
HasItsHole p (maps.LeavesRange cube value) = Unit {0}
HasItsHole p (maps.NotCarried cube value) = Unit {0}
HasItsHole p maps.NoMemory = Unit {0}
