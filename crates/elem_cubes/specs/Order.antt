-- The order of cells: by lower corner, then by upper corner, each lexicographic.
use Rattle.std.specs.Prelude.{List}
use Rattle.std.specs.Ordering.{on, then_cmp}
use Rattle.std.specs.declared.cmp.Ordering.{Ordering}
use Rattle.elem_cubes.specs.Corners.{corner_cmp}
use Rattle.elem_cubes.specs.Cells.{Factor, lower_of, upper_of}

abbrev pub cell_cmp : List Factor → List Factor → Ordering
cell_cmp = then_cmp (on lower_of corner_cmp) (on upper_of corner_cmp)
