use Rattle.std.proofs.Common.{◌≡◌, drop}
use Rattle.witness_testing.specs.Claims.{AreMadeOf}
use Rattle.witness_testing.proofs.claims.matrices_of.Given as goal

abbrev pub invariant-loop-degree : goal.invariant-loop-degree
invariant-loop-degree g l = record {
  rest : l.left.items ≡ drop l.degree l.fn.tables.items;
  made : AreMadeOf l.fn.tables.items l.columns l.degree l.matrices.items;
}
