use Rattle.std.proofs.Common.{length}
use Rattle.witness_scanning.proofs.Progress.{HasRead}
use Rattle.witness_scanning.proofs.terms.chain.Given as goal

abbrev pub invariant-loop-coefficient : goal.invariant-loop-coefficient
invariant-loop-coefficient l = HasRead l.modulus l.bytes l.terms.items l.last l.rest

abbrev pub decreases-loop-coefficient : goal.decreases-loop-coefficient
decreases-loop-coefficient l = length l.rest
