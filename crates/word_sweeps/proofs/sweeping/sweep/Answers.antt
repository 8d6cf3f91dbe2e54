use Rattle.std.proofs.Common.{◌∙◌, arith, sym}
use Rattle.word_sweeps.proofs.Freed.{swept_point, swept_end}
use Rattle.word_sweeps.proofs.sweeping.sweep.Goals as goal

pub points-preserved : goal.points-preserved
points-preserved c = swept_point c.args.start.now c.points.words c.sweep_point.new.words c.points.i c.len.ensures.words c.sweep_point.ensures.words.count c.points.invariant c.sweep_point.ensures.reached
    (λ t e f. c.sweep_point.ensures.none t (e ∙ sym c.point.ensures) f)

pub returns-clause-none_free : goal.returns-clause-none_free
returns-clause-none_free c = swept_end c.args.start.now c.points.words c.points.i c.len.ensures.words (omega arith) c.points.invariant
