use Rattle.std.proofs.Common.{◌<◌, arith, length}
use Rattle.chains.proofs.Boundary.{scaled_none, scaled_more, scaled_end}
use Rattle.chain_lists.proofs.sums.push_scaled.Goals as goal

pub loop-place-init : goal.loop-place-init
loop-place-init g c = λ h. scaled_none _ _ h _ c.args.chain.now

pub loop-place-preserved : goal.loop-place-preserved
loop-place-preserved g c = λ h.
    let l : c.loop-place.place < length c.args.chain.now = omega (arith, c.loop-place-test.true, c.len-place-end.ensures.count) in
    scaled_more g.row.P c.args.scale c.loop-place.place c.mul.result h c.term-generator.result c.args.terms.now.items c.loop-place.terms.items c.push.new.self.items c.args.chain.now l
    c.term-generator.ensures.value c.in_ok-push.ensures.items c.mul.ensures.value (c.loop-place.invariant h)

pub returns : goal.returns
returns g c = λ h. scaled_end _ _ _ _ h _ c.args.chain.now (omega (arith, c.loop-place-test.false, c.len-place-end.ensures.count)) (c.loop-place.invariant h)
