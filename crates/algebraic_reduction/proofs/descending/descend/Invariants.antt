use Rattle.std.proofs.Common.{◌-◌, ◌≤◌}
use Rattle.chains.specs.Terms.{coefficient}
use Rattle.chains.specs.ChainComplex.{incidence}
use Rattle.algebraic_reduction.proofs.Spreading.{OnTheWay}
use Rattle.algebraic_reduction.proofs.descending.descend.Given as goal

abbrev pub invariant-descending : goal.invariant-descending
invariant-descending g l = record {
  within : l.from ≤ l.bound;
  way : OnTheWay g.row.P (incidence l.parts.complex.boundaries) l.parts.places.items l.parts.steps.items l.bound (coefficient l.start) l.left.items l.raised.items l.pending l.from;
}

abbrev pub decreases-descending : goal.decreases-descending
decreases-descending g l = l.bound - l.from
