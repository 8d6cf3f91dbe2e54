use Rattle.std.proofs.Common.{rules}
use Rattle.std.specs.List.{Contains}
use Rattle.map_checks.proofs.Moving.{acyclic_by_moved}
use Rattle.map_checks.proofs.acyclic_shapes.AcyclicShapes.has.Goals as goal

pub returns-in-Some : goal.returns-in-Some
returns-in-Some g c t =
    let there : Contains c.self.inside.slots.items c.in-Some.kept.now = search rules in
    acyclic_by_moved g.row.P c.self.inside.slots.items c.in-Some.kept.now c.args.shape.now c.self.invariant there (c.is_moved_shape.ensures t)
