use Rattle.std.proofs.Common.{◌∙◌, arith, sym, true≢false}
use Rattle.word_sweeps.proofs.FreeSlots.{sole_skip, sole_take, sole_two, sole_end}
use Rattle.word_sweeps.proofs.slots.sole_axis.Goals as goal

pub axes-preserved-then-not-has_coface : goal.axes-preserved-then-not-has_coface
axes-preserved-then-not-has_coface c = sole_skip c.args.own c.axes.axis c.args.slot c.axes.found c.axes.invariant (λ h. true≢false (sym (c.has_coface.ensures.1 h) ∙ c.if-not-has_coface.true))

pub returns-then-is_some-clause-none : goal.returns-then-is_some-clause-none
returns-then-is_some-clause-none c = sole_two c.args.own c.args.axes c.axes.axis c.args.slot c.axes.found c.axes.invariant (sym c.is_some.ensures ∙ c.if-is_some.true) (c.has_coface.ensures.0 c.if-not-has_coface.false) (omega arith)

pub axes-preserved : goal.axes-preserved
axes-preserved c = sole_take c.args.own c.axes.axis c.args.slot c.axes.found c.axes.invariant (sym c.is_some.ensures ∙ c.if-is_some.false) (c.has_coface.ensures.0 c.if-not-has_coface.false)

pub returns-clause-some : goal.returns-clause-some
returns-clause-some c = (sole_end c.args.own c.args.axes c.axes.axis c.args.slot c.axes.found c.axes.invariant (omega arith)).0

pub returns-clause-none : goal.returns-clause-none
returns-clause-none c = (sole_end c.args.own c.args.axes c.axes.axis c.args.slot c.axes.found c.axes.invariant (omega arith)).1
