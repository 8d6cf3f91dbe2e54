use Rattle.witness_parts.specs.Filed.{AddsChains}
use Rattle.witness_parts.specs.Tables.{section_by}
use Rattle.witness_parts.proofs.pair.push_cocycles.Given as goal

abbrev pub invariant-loop-number : goal.invariant-loop-number
invariant-loop-number g l = AddsChains g.row.P l.all l.number ((section_by g.row.P l.cells l.basis).cocycle l.degree) l.initial.to.items l.to.items
