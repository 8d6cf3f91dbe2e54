use Rattle.std.proofs.Common.{ℕ, ◌<◌, get_or, []}
use Rattle.chains.specs.Terms.{IsNormal}
use Rattle.chains.specs.ChainComplex.{IsBadDegree}
use Rattle.chains.proofs.complex.first_bad_degree.Given as goal

abbrev pub invariant-loop-place : goal.invariant-loop-place
invariant-loop-place g l = record {
  good : (j : ℕ) → j < l.place → (k : ℕ) → ¬ IsBadDegree l.degrees l.boundaries j k;
  normal : (j : ℕ) → j < l.place → IsNormal g.row.P (get_or l.boundaries j []);
}
