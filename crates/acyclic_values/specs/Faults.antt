-- Why a value is not acyclic.
use Rattle.std.specs.Prelude.{◌≡◌, ℕ, ◌≤◌, List, [], length}
use Rattle.field_mod.specs.Modular.{Same}
use Rattle.elem_cubes.specs.Cells.{Factor}
use Rattle.chains.specs.Terms.{coefficient}
use Rattle.cell_complex.specs.Numbering.{by_cell}
use Rattle.cell_complex.specs.Acyclic.{IsHole}
use Rattle.acyclic_values.specs.declared.hole.Hole.{Hole}
use Rattle.acyclic_values.specs.declared.hole.Hole.TheVariants.{Empty, Class}
use Rattle.acyclic_values.specs.declared.hole.ValueFault.{ValueFault}
use Rattle.acyclic_values.specs.declared.hole.ValueFault.TheVariants as values

-- a chain of places in a list of cells names no place past its end
abbrev pub IsWithin : ℕ → List (List Factor) → List (ℕ × ℕ) → Type 0
IsWithin p cells ts = (g : ℕ) → length cells ≤ g → Same p (coefficient ts g) 0

-- a hole of the list: there is no cell, or the cycle and the cocycle, read as chains of cells, are
-- one
abbrev pub IsHoleOf : (p : ℕ) → List (List Factor) → Hole p → Type 0
IsHoleOf p cells Empty = cells ≡ []
IsHoleOf p cells (Class k z w) =
    IsHole p cells k (by_cell cells (coefficient z)) (by_cell cells (coefficient w))
    × IsWithin p cells z × IsWithin p cells w

abbrev pub IsValueFault : (p : ℕ) → List (List Factor) → ValueFault p → Type 0
IsValueFault p cells (values.Hole h) = IsHoleOf p cells h
IsValueFault p cells values.NoMemory = Unit {0}
