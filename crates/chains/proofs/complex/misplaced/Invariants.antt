use Rattle.std.proofs.Common.{ℕ, drop}
use Rattle.chains.specs.ChainComplex.{IsMisplaced}
use Rattle.chains.proofs.TermLists.{Seeking}
use Rattle.chains.proofs.complex.misplaced.Given as goal

abbrev pub invariant-loop-i : goal.invariant-loop-i
invariant-loop-i g l = (at : ℕ) → IsMisplaced l.degrees l.generator l.chain at → Seeking g.row.P at l.chain (drop l.i l.chain)
