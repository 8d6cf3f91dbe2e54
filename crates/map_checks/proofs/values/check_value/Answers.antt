use Rattle.std.proofs.Common.{arith}
use Rattle.map_checks.proofs.Shaping.{acyclic_shape, acyclic_by_shape}
use Rattle.map_checks.proofs.values.check_value.Goals as goal

pub returns-then-has-clause-ok : goal.returns-then-has-clause-ok
returns-then-has-clause-ok g c =
    acyclic_by_shape g.row.P c.args.map.now.named c.args.domain.now.cells c.args.cell.now c.in_ok-shape.shape c.in_ok-shape.ensures (c.has.ensures c.if-has.true)

pub keep-requires : goal.keep-requires
keep-requires g c = (
  (omega arith),
  acyclic_shape g.row.P c.args.map.now.named c.args.domain.now.cells c.args.cell.now c.in_ok-shape.shape c.in_ok-shape.ensures c.in_ok-test_at.ensures.ok,
)
