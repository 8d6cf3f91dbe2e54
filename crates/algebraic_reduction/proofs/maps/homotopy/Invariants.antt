use Rattle.std.proofs.Common.{length}
use Rattle.chains.specs.Terms.{coefficient}
use Rattle.chains.specs.ChainComplex.{incidence}
use Rattle.algebraic_reduction.proofs.Returning.{Returning}
use Rattle.algebraic_reduction.proofs.maps.homotopy.Given as goal

abbrev pub invariant-returning : goal.invariant-returning
invariant-returning g l = Returning g.row.P (length l.parts.complex.boundaries) (incidence l.parts.complex.boundaries) l.parts.steps.items (coefficient l.chain) l.terms.items l.pending l.bound

abbrev pub decreases-returning : goal.decreases-returning
decreases-returning g l = l.bound
