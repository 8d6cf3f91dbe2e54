use Rattle.algebraic_reduction.proofs.NamedRows.{AreNamed}
use Rattle.algebraic_reduction.proofs.naming.name_steps.Given as goal

abbrev pub invariant-loop-place : goal.invariant-loop-place
invariant-loop-place g l = AreNamed g.row.P l.steps l.lists l.place
