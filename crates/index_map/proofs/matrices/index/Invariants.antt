use Rattle.index_map.proofs.Solving.{AreSolutionsBelow}
use Rattle.index_map.proofs.matrices.index.Given as goal

abbrev pub invariant-loop-degree : goal.invariant-loop-degree
invariant-loop-degree g l = AreSolutionsBelow g.row.P l.domain_cells l.domain l.range_cells l.range l.induced l.degree l.all.items
