use Rattle.std.proofs.Common.{◌++◌}
use Rattle.cell_complex.specs.Boundaries.{IsPartialBoundary}
use Rattle.cell_complex.proofs.complex.add_facets.Given as goal

abbrev pub invariant-loop-facet : goal.invariant-loop-facet
invariant-loop-facet g l = IsPartialBoundary g.row.P l.cells l.cell l.facet-iterator (l.lower.items ++ l.upper.items)
