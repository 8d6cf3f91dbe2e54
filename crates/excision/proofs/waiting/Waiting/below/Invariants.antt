use Rattle.excision.proofs.Marking.{BelowSo}
use Rattle.excision.proofs.waiting.Waiting.below.Given as goal

abbrev pub invariant-loop-number : goal.invariant-loop-number
invariant-loop-number l = BelowSo l.numbers.items l.marks.items l.number
