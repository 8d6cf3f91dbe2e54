use Rattle.std.proofs.Common.{◌≡◌, ℕ, length, None}
use Rattle.algebraic_reduction.specs.State.{place_at}
use Rattle.algebraic_reduction.proofs.parts.no_places.Given as goal

abbrev pub invariant-loop-index : goal.invariant-loop-index
invariant-loop-index l = record {
  count : length l.places.items ≡ l._index;
  none : (g : ℕ) → place_at l.places.items g ≡ None;
}
