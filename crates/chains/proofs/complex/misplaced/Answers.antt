use Rattle.std.proofs.Common.{arith}
use Rattle.chains.proofs.Faults.{misplaced_at}
use Rattle.chains.proofs.complex.misplaced.Goals as goal
use Rattle.chains.proofs.complex.misplaced.Goals.{then-place-degrees-via-then-place-degrees, then-place-degrees-via-else-place-degrees+then-degrees-place}

pub returns-then-place-degrees-clause-some : goal.returns-then-place-degrees-clause-some
returns-then-place-degrees-clause-some g c =
    misplaced_at g.row.P c.args.generator c.loop-i.i c.args.degrees.now c.args.chain.now _ c.term-at.ensures.value c.len-i-end.ensures.normal (omega arith) c.loop-i.invariant (
    elim c.then-place-degrees.branch [
      | then-place-degrees-via-then-place-degrees w ↦ λ l e. let h = w.if-place-degrees.true in absurd (omega arith)
      | then-place-degrees-via-else-place-degrees+then-degrees-place w ↦ λ l e. let h = w.if-degrees-place.true in absurd (omega arith)
    ])
