use Rattle.std.proofs.Common.{◌≡◌, ℕ, take, Some, None}
use Rattle.chains.specs.Terms.{coefficient}
use Rattle.algebraic_reduction.specs.State.{place_at}
use Rattle.algebraic_reduction.proofs.descending.left_terms.Given as goal

abbrev pub invariant-loop-index : goal.invariant-loop-index
invariant-loop-index g l = record {
  left : (h : ℕ) → place_at l.places h ≡ None → coefficient l.terms.items h ≡ coefficient (take l.index l.chain) h;
  others : (h i : ℕ) → place_at l.places h ≡ Some i → coefficient l.terms.items h ≡ 0;
}
