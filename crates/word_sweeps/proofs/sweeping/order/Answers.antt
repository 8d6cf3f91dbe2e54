use Rattle.std.proofs.Common.{◌∙◌, arith, sym}
use Rattle.word_sweeps.proofs.Reached.{collapse}
use Rattle.word_sweeps.proofs.Freed.{keys_stay}
use Rattle.word_sweeps.proofs.Listed.{ordered_point, all_taken, ordered_left}
use Rattle.word_sweeps.proofs.sweeping.order.Goals as goal

pub order_point-requires : goal.order_point-requires
order_point-requires c = keys_stay c.args.start.now c.args.last.now c.requires.0 c.requires.1 ∙ sym (keys_stay c.args.start.now c.points.words c.points.pairs.items c.points.invariant.reached)

pub points-preserved : goal.points-preserved
points-preserved c = ordered_point c.args.start.now c.args.last.now c.len.ensures.words c.requires c.points.words c.order_point.new.words c.points.pairs.items c.order_point.new.pairs.items c.points.i c.points.invariant
    c.in_ok-order_point.ensures.on (λ t e f. c.in_ok-order_point.ensures.none t (e ∙ sym c.point.ensures) f)

pub returns-clause-free : goal.returns-clause-free
returns-clause-free c = collapse.free c.args.start.now c.points.words c.points.pairs.items c.len.ensures.words.count c.points.invariant.reached

pub returns-clause-taken : goal.returns-clause-taken
returns-clause-taken c = λ t. (c.points.invariant.some t, all_taken c.args.start.now c.args.last.now c.len.ensures.words c.requires c.points.words c.points.pairs.items c.points.i (omega arith) c.points.invariant t)

pub returns-clause-left : goal.returns-clause-left
returns-clause-left c = ordered_left c.args.start.now c.args.last.now c.len.ensures.words c.requires c.points.words c.points.pairs.items c.points.i (omega arith) c.points.invariant
