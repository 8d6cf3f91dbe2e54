use Rattle.std.proofs.Common.{◌+◌, arith, sym}
use Rattle.cell_points.proofs.Counting.{length_step, length-front, firsts_step}
use Rattle.cell_points.proofs.places.firsts_of.Goals as goal

pub overflow_add-first : goal.overflow_add-first
overflow_add-first c =
    let s = length_step c.args.places.now c.loop-place.place-index c.place-item.result c.requires.are.each c.loop-place-test.true c.place-item.is in
    let f = length-front c.args.places.now (c.loop-place.place-index + 1) in
    let n = c.loop-place.invariant.next in
    let t = c.requires.few in
    omega arith

pub loop-place-preserved : goal.loop-place-preserved
loop-place-preserved c =
    let s = length_step c.args.places.now c.loop-place.place-index c.place-item.result c.requires.are.each c.loop-place-test.true c.place-item.is in
    let f = firsts_step c.args.places.now c.loop-place.place-index c.place-item.result c.requires.are.each c.loop-place-test.true in
    record {
      made = rw (c.in_ok-push.ensures.items, c.loop-place.invariant.made, c.loop-place.invariant.next) (sym f);
      next = omega (arith, c.loop-place.invariant.next);
    }
