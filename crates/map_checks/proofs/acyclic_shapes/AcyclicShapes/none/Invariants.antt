use Rattle.map_checks.specs.Shapes.{AreAcyclicShapes}
use Rattle.map_checks.proofs.acyclic_shapes.AcyclicShapes.none.Given as goal

abbrev pub invariant-loop : goal.invariant-loop
invariant-loop g l = AreAcyclicShapes g.row.P l.slots.items
