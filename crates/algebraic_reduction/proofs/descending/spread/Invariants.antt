use Rattle.std.proofs.Common.{◌≡◌, ◌≢◌, ℕ, ◌+◌, ◌*◌, ◌<◌, ◌≤◌, ◌⊎◌, take, Some, None}
use Rattle.field_mod.specs.Modular.{Same}
use Rattle.chains.specs.Terms.{coefficient}
use Rattle.algebraic_reduction.specs.Kept.{a_at}
use Rattle.algebraic_reduction.specs.State.{place_at}
use Rattle.algebraic_reduction.proofs.descending.spread.Given as goal

abbrev pub invariant-loop-index : goal.invariant-loop-index
invariant-loop-index g l = record {
  left : (h : ℕ) → place_at l.parts.places.items h ≡ None → Same g.row.P (coefficient l.left.items h) (coefficient l.initial.left.items h + l.scale * coefficient (take l.index l.chain) h);
  dropped : (h i : ℕ) → place_at l.parts.places.items h ≡ Some i → coefficient l.left.items h ≡ coefficient l.initial.left.items h;
  pending : (j : ℕ) → l.from ≤ j → j < l.bound → Same g.row.P (coefficient l.pending j) (coefficient l.initial.pending j + l.scale * coefficient (take l.index l.chain) (a_at l.parts.steps.items j));
  inside : (j : ℕ) → coefficient l.pending j ≢ 0 → (coefficient l.initial.pending j ≢ 0) ⊎ ((l.from ≤ j) × (j < l.bound));
}
