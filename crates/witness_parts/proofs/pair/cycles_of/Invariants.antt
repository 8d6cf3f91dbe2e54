use Rattle.witness_parts.specs.Filed.{HasCycles}
use Rattle.witness_parts.specs.Tables.{section_by}
use Rattle.witness_parts.proofs.pair.cycles_of.Given as goal

abbrev pub invariant-loop-degree : goal.invariant-loop-degree
invariant-loop-degree g l = HasCycles g.row.P l.all l.degree (section_by g.row.P l.cells l.basis).size (section_by g.row.P l.cells l.basis).cycle l.cycles.items
