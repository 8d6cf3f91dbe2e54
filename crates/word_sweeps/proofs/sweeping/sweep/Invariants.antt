use Rattle.std.proofs.Common.{◌*◌}
use Rattle.word_sweeps.proofs.Freed.{IsSwept}
use Rattle.word_sweeps.proofs.sweeping.sweep.Given as goal

abbrev pub invariant-points : goal.invariant-points
invariant-points l = IsSwept l.start l.words (4 * l.i)
