use Rattle.std.proofs.Common.{length}
use Rattle.std.specs.Ordering.{nat_cmp}
use Rattle.std.specs.BTreeSet.{contains}
use Rattle.chains.specs.Terms.{coefficient}
use Rattle.algebraic_reduction.specs.Maps.{rows}
use Rattle.algebraic_reduction.proofs.Triangular.{Settling}
use Rattle.algebraic_reduction.proofs.settling.settle.Given as goal

abbrev pub invariant-settling : goal.invariant-settling
invariant-settling g l = Settling g.row.P (length l.parts.complex.boundaries) (rows l.parts.steps.items) (coefficient l.start) (coefficient l.values) (contains nat_cmp l.due) l.bound

abbrev pub decreases-settling : goal.decreases-settling
decreases-settling g l = l.bound
