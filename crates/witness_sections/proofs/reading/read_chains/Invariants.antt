use Rattle.std.proofs.Common.{take}
use Rattle.witness_sections.specs.Readings.{AreRead}
use Rattle.witness_sections.proofs.reading.read_chains.Given as goal

abbrev pub invariant-loop-place : goal.invariant-loop-place
invariant-loop-place g l = AreRead g.row.P l.cells l.to (take l.place l.chains) l.all.items
