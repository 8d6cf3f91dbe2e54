use Rattle.std.proofs.Common.{length}
use Rattle.witness_runs.specs.Cycles.{HasCycles}
use Rattle.witness_runs.proofs.cycles.cycles_due.Given as goal

abbrev pub invariant-reading : goal.invariant-reading
invariant-reading g l = HasCycles g.row.P l.top l.kinds l.bytes l.cycles.items l.low l.rest

abbrev pub decreases-reading : goal.decreases-reading
decreases-reading g l = length l.rest
