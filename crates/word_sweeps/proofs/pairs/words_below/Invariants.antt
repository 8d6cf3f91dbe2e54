use Rattle.std.proofs.Common.{◌≡◌, ℕ, ◌<◌, get_or, length}
use Rattle.word_sweeps.specs.FreeSlots.{below_corner, word_of}
use Rattle.word_sweeps.proofs.pairs.words_below.Given as goal

abbrev pub invariant-axes : goal.invariant-axes
invariant-axes l = record {
  long : length l.below ≡ 4;
  known : (k : ℕ) → k < l.axis → get_or l.below k 0 ≡ word_of l.words (below_corner l.corner k);
}
