use Rattle.witness_parts.specs.Filed.{AddsCycles}
use Rattle.witness_parts.specs.Tables.{section_by}
use Rattle.witness_parts.proofs.pair.push_cycles.Given as goal

abbrev pub invariant-loop-number : goal.invariant-loop-number
invariant-loop-number g l = AddsCycles g.row.P l.all l.degree l.number ((section_by g.row.P l.cells l.basis).cycle l.degree) l.initial.to.items l.to.items
