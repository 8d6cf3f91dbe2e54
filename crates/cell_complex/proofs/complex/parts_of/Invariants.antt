use Rattle.std.proofs.Common.{◌≡◌, length, map, take}
use Rattle.elem_cubes.specs.Cells.{dimension_of}
use Rattle.cell_complex.specs.Boundaries.{AreBoundaries}
use Rattle.cell_complex.proofs.complex.parts_of.Given as goal

abbrev pub invariant-loop-number : goal.invariant-loop-number
invariant-loop-number g l = record {
  degrees : l.degrees.items ≡ map dimension_of (take l.number l.cells);
  boundaries : AreBoundaries g.row.P l.cells l.boundaries.items × (length l.boundaries.items ≡ l.number);
}
