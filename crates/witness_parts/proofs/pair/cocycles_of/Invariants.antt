use Rattle.witness_parts.specs.Filed.{HasChains}
use Rattle.witness_parts.specs.Tables.{section_by}
use Rattle.witness_parts.proofs.pair.cocycles_of.Given as goal

abbrev pub invariant-loop-degree : goal.invariant-loop-degree
invariant-loop-degree g l = HasChains g.row.P l.all l.degree (section_by g.row.P l.cells l.basis).size (section_by g.row.P l.cells l.basis).cocycle l.cocycles.items
