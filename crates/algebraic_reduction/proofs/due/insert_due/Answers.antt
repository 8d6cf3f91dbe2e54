use Rattle.algebraic_reduction.proofs.DueSteps.{insert_kept, insert_others}
use Rattle.algebraic_reduction.proofs.due.insert_due.Goals as goal

pub returns-clause-kept : goal.returns-clause-kept
returns-clause-kept c = insert_kept c.args.place _ _ c.in_ok-insert.ensures.updates

pub returns-clause-added : goal.returns-clause-added
returns-clause-added c = c.in_ok-insert.ensures.updates.1

pub returns-clause-others : goal.returns-clause-others
returns-clause-others c = insert_others c.args.place _ _ c.in_ok-insert.ensures.updates
