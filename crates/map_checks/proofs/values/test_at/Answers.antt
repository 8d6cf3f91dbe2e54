use Rattle.std.proofs.Common.{sym, subst, arith}
use Rattle.cell_complex.specs.Acyclic.{IsAcyclic}
use Rattle.cell_complex.specs.Sorted.{IsSortedCells}
use Rattle.cell_complex.specs.RelativeComplex.{IsClosedList}
use Rattle.map_checks.proofs.Hollow.{sorted_cells, value_closed, acyclic_at}
use Rattle.map_checks.proofs.values.test_at.Goals as goal

pub test_value-requires : goal.test_value-requires
test_value-requires g c = (
  (omega arith),
  (
    (omega arith),
    (
      subst IsSortedCells (sym c.cells.ensures.cells) (sorted_cells c.in_ok-set.set c.cells.ensures.set),
      subst IsClosedList (sym c.cells.ensures.cells) (value_closed c.args.map.now.named c.args.domain.now.cells c.args.cell.now c.in_ok-set.set.cells c.in_ok-set.ensures),
    ),
  ),
)

pub returns-in-Ok-clause-ok : goal.returns-in-Ok-clause-ok
returns-in-Ok-clause-ok g c =
    acyclic_at g.row.P c.args.map.now.named c.args.domain.now.cells c.args.cell.now c.in_ok-set.set.cells c.in_ok-set.ensures (subst (IsAcyclic g.row.P) c.cells.ensures.cells c.in-Ok.ensures.ok)
