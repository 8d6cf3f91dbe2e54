use Rattle.std.proofs.Common.{◌≡◌, ℕ, take, Some}
use Rattle.chains.specs.Terms.{coefficient}
use Rattle.algebraic_reduction.specs.State.{place_at}
use Rattle.algebraic_reduction.proofs.descending.is_off_steps.Given as goal

abbrev pub invariant-loop-index : goal.invariant-loop-index
invariant-loop-index g l = (h i : ℕ) → place_at l.places h ≡ Some i → coefficient (take l.index l.chain) h ≡ 0
