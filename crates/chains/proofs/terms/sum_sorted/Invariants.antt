use Rattle.chains.proofs.Summing.{Summing}
use Rattle.chains.proofs.terms.sum_sorted.Given as goal

abbrev pub invariant-loop-next : goal.invariant-loop-next
invariant-loop-next g l = Summing g.row.P l.generator l.number l.next-index l.terms l.sums.items
