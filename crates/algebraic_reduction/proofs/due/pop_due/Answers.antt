use Rattle.algebraic_reduction.proofs.DueSteps.{pop_kept, pop_below, pop_none}
use Rattle.algebraic_reduction.proofs.due.pop_due.Goals as goal

pub returns-clause-kept : goal.returns-clause-kept
returns-clause-kept c = pop_kept _ _ _ c.pop_last.ensures.updates

pub returns-clause-below : goal.returns-clause-below
returns-clause-below c = pop_below _ _ _ c.pop_last.ensures.updates c.pop_last.ensures.greatest

pub returns-clause-none : goal.returns-clause-none
returns-clause-none c = pop_none _ _ c.pop_last.ensures.variant
