use Rattle.map_checks.proofs.Moving.{none_pushed}
use Rattle.map_checks.proofs.acyclic_shapes.AcyclicShapes.none.Goals as goal

pub loop-preserved : goal.loop-preserved
loop-preserved g c = none_pushed g.row.P c.loop.slots.items c.push.new.self.items c.empty.result c.in_ok-push.ensures.items c.empty.ensures c.loop.invariant
