use Rattle.std.proofs.Common.{◌+◌, arith}
use Rattle.cell_points.proofs.Counting.{length_step, length-front}
use Rattle.cell_points.proofs.places.count_within.Goals as goal

pub returns-then-limit-count-clause-none : goal.returns-then-limit-count-clause-none
returns-then-limit-count-clause-none c =
    let s = length_step c.args.places.now c.loop-place.place-index c.place-item.result c.requires.each c.loop-place-test.true c.place-item.is in
    let f = length-front c.args.places.now (c.loop-place.place-index + 1) in
    let n = c.loop-place.invariant.counted in
    let t = c.if-limit-count.true in
    omega arith

pub loop-place-preserved : goal.loop-place-preserved
loop-place-preserved c =
    let s = length_step c.args.places.now c.loop-place.place-index c.place-item.result c.requires.each c.loop-place-test.true c.place-item.is in
    record { counted = omega (arith, c.loop-place.invariant.counted); few = omega (arith, c.if-limit-count.false, c.loop-place.invariant.few) }
