-- Values cut down to what further ones have.
use Rattle.std.specs.Prelude.{List, Option, Some, None}
use Rattle.elem_cubes.specs.Cells.{Factor}
use Rattle.elem_cubes.specs.Order.{cell_cmp}
use Rattle.cube_sets.specs.Sorted.{intersection_of}
use Rattle.cube_sets.specs.Sets.{Members}

-- the cells that a set so far and one more have, or those of the one where there was none
abbrev pub narrowed_by : Option Members → List (List Factor) → List (List Factor)
narrowed_by None cells = cells
narrowed_by (Some set) cells = intersection_of cell_cmp set.cells cells
