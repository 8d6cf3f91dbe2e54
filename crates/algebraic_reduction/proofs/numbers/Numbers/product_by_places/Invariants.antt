use Rattle.std.proofs.Common.{◌+◌, ◌<◌}
use Rattle.field_mod.specs.Modular.{Same}
use Rattle.chains.specs.Terms.{product}
use Rattle.algebraic_reduction.proofs.numbers.Numbers.product_by_places.Given as goal

abbrev pub invariant-loop-place : goal.invariant-loop-place
invariant-loop-place g l = record {
  below : l.sum < g.row.P;
  value : Same g.row.P (l.sum + product l.place-iterator l.chain) (product l.self l.chain);
}
