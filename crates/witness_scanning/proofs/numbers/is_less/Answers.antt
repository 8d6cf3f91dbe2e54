use Rattle.std.proofs.Common.{arith, ap, ◌∙◌}
use Rattle.std.specs.Ordering.{ordering_then}
use Rattle.witness_scanning.proofs.Digits.{less_step}
use Rattle.witness_scanning.proofs.numbers.is_less.Goals as goal

pub loop-i-preserved : goal.loop-i-preserved
loop-i-preserved c a b =
    less_step c.loop-i.order c.then-order.result c.args.a.now c.args.b.now c.loop-i.i (omega arith) (omega arith) a b (c.loop-i.invariant a b)
    (c.then-order.ensures ∙ ap (ordering_then c.loop-i.order) c.cmp.ensures)
