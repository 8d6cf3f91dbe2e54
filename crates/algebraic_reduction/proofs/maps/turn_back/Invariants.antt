use Rattle.algebraic_reduction.proofs.Turning.{Turning}
use Rattle.algebraic_reduction.proofs.maps.turn_back.Given as goal

abbrev pub invariant-loop-index : goal.invariant-loop-index
invariant-loop-index g l = Turning g.row.P l.count l.scale l.numbers l.initial.pending l.pending l.index
