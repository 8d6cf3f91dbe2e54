use Rattle.induced_map.specs.Entries.{AreBelow}
use Rattle.induced_map.specs.Images.{AddsProducts}
use Rattle.induced_map.proofs.products.push_products.Given as goal

abbrev pub invariant-loop-chain : goal.invariant-loop-chain
invariant-loop-chain g l = record {
  products : AddsProducts g.row.P l.cochain l.chains l.chain-index l.fn.entries.items l.entries.items;
  below : AreBelow g.row.P l.entries.items;
}
