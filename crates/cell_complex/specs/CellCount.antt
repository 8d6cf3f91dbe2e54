-- How many cells a set has.
use Rattle.std.specs.Prelude.{ℕ, List}
use Rattle.std.specs.List.{flat_map}
use Rattle.std.specs.Set.{distinct_count}
use Rattle.elem_cubes.specs.Cells.{Factor, same_cell}
use Rattle.elem_cubes.specs.Faces.{closure_of}

-- the number of cells of a set: of distinct faces of its members
abbrev pub cell_count : List (List Factor) → ℕ
cell_count x = distinct_count same_cell (flat_map closure_of x)
