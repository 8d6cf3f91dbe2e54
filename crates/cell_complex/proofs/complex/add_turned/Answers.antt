use Rattle.std.proofs.Common.{◌-◌, arith, refl, length}
use Rattle.cell_complex.proofs.Collecting.{turned_none, turned_more}
use Rattle.cell_complex.proofs.complex.add_turned.Goals as goal

pub loop-place-init : goal.loop-place-init
loop-place-init c = turned_none c.args.terms.now.items c.args.more.now (length c.args.more.now) refl

pub loop-place-preserved : goal.loop-place-preserved
loop-place-preserved c h =
    turned_more c.loop-place.terms.items c.push.new.self.items c.args.more.now c.loop-place.place (c.loop-place.place - 1) _
    (omega (arith, c.loop-place-test.true)) (omega (arith, c.loop-place-test.true, c.loop-place.auto.place)) c.in_ok-push.ensures.items h (c.loop-place.invariant h)
