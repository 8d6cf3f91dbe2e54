use Rattle.std.specs.Ordering.{nat_cmp}
use Rattle.std.specs.BTreeSet.{contains}
use Rattle.std.proofs.Common.{length}
use Rattle.algebraic_reduction.specs.Maps.{rows}
use Rattle.algebraic_reduction.proofs.DueSteps.{MakingAllDue}
use Rattle.algebraic_reduction.proofs.settling.make_all_due.Given as goal

abbrev pub invariant-loop-place : goal.invariant-loop-place
invariant-loop-place g l = MakingAllDue g.row.P (length l.parts.complex.boundaries) (rows l.parts.steps.items) l.chain l.count (contains nat_cmp l.initial.due) (contains nat_cmp l.due) l.place
