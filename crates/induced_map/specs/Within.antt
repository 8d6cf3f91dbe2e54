-- Numbered cells of a set, and chains over their numbers.
use Rattle.std.specs.Prelude.{◌≡◌, ℕ, ◌<◌, ◌≤◌, List, length, true}
use Rattle.elem_cubes.specs.Cells.{Factor}
use Rattle.elem_cubes.specs.Laws.{cell_at}
use Rattle.chains.specs.Terms.{coefficient}
use Rattle.cube_sets.specs.Closures.{is_cell_of}

-- all cells of the list are cells of the set
abbrev pub AreCellsOf : List (List Factor) → List (List Factor) → Type 0
AreCellsOf set cells = (g : ℕ) → g < length cells → is_cell_of set (cell_at cells g) ≡ true

-- the chain names no number past the cells
abbrev pub AreWithin : List (List Factor) → List (ℕ × ℕ) → Type 0
AreWithin cells ts = (g : ℕ) → length cells ≤ g → coefficient ts g ≡ 0
