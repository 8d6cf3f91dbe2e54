use Rattle.cell_complex.specs.Boundaries.{IsPartialBoundary}
use Rattle.chain_selector.proofs.boundary.boundary_of.Given as goal

abbrev pub invariant-loop-facet : goal.invariant-loop-facet
invariant-loop-facet g l = IsPartialBoundary g.row.P l.cells l.cell l.facet-iterator l.terms.items
