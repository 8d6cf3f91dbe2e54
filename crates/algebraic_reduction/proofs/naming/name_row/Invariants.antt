use Rattle.algebraic_reduction.proofs.NamedRows.{Naming}
use Rattle.algebraic_reduction.proofs.naming.name_row.Given as goal

abbrev pub invariant-loop-index : goal.invariant-loop-index
invariant-loop-index g l = Naming l.initial.lists l.lists l.row l.generator l.index
