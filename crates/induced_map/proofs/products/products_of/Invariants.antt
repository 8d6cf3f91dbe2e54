use Rattle.homology_basis.specs.Bases.{in_degree}
use Rattle.induced_map.specs.Entries.{AreBelow}
use Rattle.induced_map.specs.Images.{AreProducts}
use Rattle.induced_map.proofs.products.products_of.Given as goal

abbrev pub invariant-loop-number : goal.invariant-loop-number
invariant-loop-number g l = record {
  products : AreProducts g.row.P (in_degree l.range.cocycles l.degree) l.chains l.number l.entries.items;
  below : AreBelow g.row.P l.entries.items;
}
