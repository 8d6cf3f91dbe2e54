use Rattle.std.proofs.Common.{◌+◌, ◌-◌, drop, length}
use Rattle.chains.proofs.Dotting.{Dotting}
use Rattle.chains.proofs.terms.dot.Given as goal

abbrev pub invariant-both : goal.invariant-both
invariant-both g l = Dotting g.row.P l.sum l.left l.right (drop l.i l.left) (drop l.j l.right)

abbrev pub decreases-both : goal.decreases-both
decreases-both g l = (length l.left - l.i) + (length l.right - l.j)
