use Rattle.std.proofs.Common.{arith, ◌<◌, length}
use Rattle.chains.proofs.Boundary.{scaled_none, scaled_more, scaled_end}
use Rattle.chains.proofs.complex.push_scaled.Goals as goal

pub loop-index-init : goal.loop-index-init
loop-index-init g c = λ h. scaled_none _ _ h _ c.args.chain.now

pub loop-index-preserved : goal.loop-index-preserved
loop-index-preserved g c = λ h.
    let l : c.loop-index.index < length c.args.chain.now = omega (arith, c.loop-index-test.true, c.len-index-end.ensures.count) in
    scaled_more _ _ _ _ h c.term-generator.result _ _ _ c.args.chain.now l c.term-generator.ensures.value c.in_ok-push.ensures.ok c.mul.ensures.value (c.loop-index.invariant h)

pub returns : goal.returns
returns g c = λ h. scaled_end _ _ _ _ h _ c.args.chain.now (omega (arith, c.loop-index-test.false, c.len-index-end.ensures.count)) (c.loop-index.invariant h)
