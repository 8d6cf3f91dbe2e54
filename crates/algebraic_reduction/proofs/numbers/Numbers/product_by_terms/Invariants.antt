use Rattle.std.proofs.Common.{◌<◌, take}
use Rattle.field_mod.specs.Modular.{Same}
use Rattle.chains.specs.Terms.{product}
use Rattle.algebraic_reduction.proofs.numbers.Numbers.product_by_terms.Given as goal

abbrev pub invariant-loop-index : goal.invariant-loop-index
invariant-loop-index g l = record {
  below : l.sum < g.row.P;
  value : Same g.row.P l.sum (product (take l.index l.chain) l.self);
}
