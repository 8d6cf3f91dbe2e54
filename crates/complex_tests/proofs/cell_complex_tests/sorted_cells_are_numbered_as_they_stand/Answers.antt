use Rattle.std.proofs.Common.{sym, subst}
use Rattle.cell_complex.specs.Sorted.{IsSortedCells}
use Rattle.cell_complex.proofs.Counting.{sorted_of_set}
use Rattle.complex_tests.proofs.cell_complex_tests.sorted_cells_are_numbered_as_they_stand.Goals as goal

pub of_sorted-requires : goal.of_sorted-requires
of_sorted-requires g c = subst IsSortedCells (sym c.cells.ensures.cells) (sorted_of_set c.in_ok-faces.faces c.cells.ensures.set)
