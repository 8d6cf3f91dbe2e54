use Rattle.std.proofs.Common.{◌*◌}
use Rattle.word_sweeps.proofs.Listed.{IsOrderedTo}
use Rattle.word_sweeps.proofs.sweeping.order.Given as goal

abbrev pub invariant-points : goal.invariant-points
invariant-points l = IsOrderedTo l.start l.last l.words l.pairs.items (4 * l.i)
