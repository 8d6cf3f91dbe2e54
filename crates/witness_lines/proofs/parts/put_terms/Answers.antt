use Rattle.std.proofs.Common.{arith}
use Rattle.witness_lines.proofs.Growing.{term_added}
use Rattle.witness_lines.proofs.parts.put_terms.Goals as goal

pub loop-place-preserved : goal.loop-place-preserved
loop-place-preserved g c = term_added c.args.chain.now c.loop-place.place _ _ _ _ _ (omega (arith, c.loop-place-test.true, c.len-place-end.ensures.count)) c.term-number.ensures.value c.in_ok-put_term.ensures c.loop-place.invariant
