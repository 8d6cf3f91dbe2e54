use Rattle.chain_selector.specs.Selections.{Extends}
use Rattle.induced_map.proofs.Making.{AreMatricesBelow}
use Rattle.induced_map.proofs.inducing.matrices.Given as goal

abbrev pub invariant-loop-degree : goal.invariant-loop-degree
invariant-loop-degree g l = record {
  extends : Extends l.fn.selector l.selector;
  matrices : AreMatricesBelow g.row.P l.fn.selector.carrying l.domain_cells l.domain l.range_cells l.range l.degree l.all.items;
}
