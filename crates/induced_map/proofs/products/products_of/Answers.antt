use Rattle.homology_basis.specs.Bases.{in_degree}
use Rattle.induced_map.proofs.Entering.{rows_more}
use Rattle.induced_map.proofs.products.products_of.Goals as goal

pub loop-number-preserved : goal.loop-number-preserved
loop-number-preserved g c = record {
  products = rows_more g.row.P (in_degree c.args.range.now.cocycles c.args.degree) c.args.chains.now c.loop-number.number c.cocycle.result.now c.loop-number.entries.items c.push_products.new.entries.items
      c.loop-number.invariant.products c.cocycle.ensures c.in_ok-push_products.ensures.products;
  below = c.in_ok-push_products.ensures.below;
}
