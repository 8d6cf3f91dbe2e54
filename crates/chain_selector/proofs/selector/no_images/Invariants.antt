use Rattle.std.proofs.Common.{◌≡◌, ℕ, length, get_or, None}
use Rattle.chain_selector.proofs.selector.no_images.Given as goal

abbrev pub invariant-loop-index : goal.invariant-loop-index
invariant-loop-index g l = record {
  count : length l.images.items ≡ l._index;
  none : (i : ℕ) → get_or l.images.items i None ≡ None;
}
