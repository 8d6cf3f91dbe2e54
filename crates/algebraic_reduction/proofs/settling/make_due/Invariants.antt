use Rattle.std.specs.Ordering.{nat_cmp}
use Rattle.std.specs.BTreeSet.{contains}
use Rattle.algebraic_reduction.proofs.DueSteps.{MakingDue}
use Rattle.algebraic_reduction.proofs.settling.make_due.Given as goal

abbrev pub invariant-loop-k : goal.invariant-loop-k
invariant-loop-k g l = MakingDue l.parts.steps.items l.list l.bound (contains nat_cmp l.initial.due) (contains nat_cmp l.due) l.k
