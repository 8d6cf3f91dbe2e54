use Rattle.excision.proofs.Marking.{below_more, below_end}
use Rattle.excision.proofs.waiting.Waiting.below.Goals as goal

pub loop-number-preserved : goal.loop-number-preserved
loop-number-preserved c = below_more c.loop-number.numbers.items c.push_back.new.self.items c.loop-number.marks.items c.push.new.self.items c.loop-number.number c.in_ok-push_back.ensures.items c.in_ok-push.ensures.items c.loop-number.invariant

pub invariant_of-result : goal.invariant_of-result
invariant_of-result c = below_end c.loop-number.numbers.items c.loop-number.marks.items c.loop-number.number c.loop-number.invariant
