use Rattle.cell_points.proofs.Closed.{IsClosedTo}
use Rattle.cell_points.proofs.places.closed_within.Given as goal

abbrev pub invariant-loop-axis : goal.invariant-loop-axis
invariant-loop-axis l = IsClosedTo l.axis l.initial.all.items l.all.items
