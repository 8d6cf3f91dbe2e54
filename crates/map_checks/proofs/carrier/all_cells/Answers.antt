use Rattle.std.proofs.Common.{sym, subst}
use Rattle.cell_complex.specs.Sorted.{IsSortedCells}
use Rattle.map_checks.proofs.Hollow.{sorted_cells}
use Rattle.map_checks.proofs.carrier.all_cells.Goals as goal

pub of_sorted-requires : goal.of_sorted-requires
of_sorted-requires c = subst IsSortedCells (sym c.cells-in-Ok.ensures.cells) (sorted_cells c.in-Ok.cells c.cells-in-Ok.ensures.set)
