use Rattle.std.proofs.Common.{◌≡◌, ◌-◌, ◌^◌}
use Rattle.packed_words.specs.Words.{AreWords, word_at}
use Rattle.word_sweeps.specs.Reached.{GoesOn}
use Rattle.word_sweeps.specs.FreeSlots.{IsAround}
use Rattle.word_sweeps.proofs.sweeping.order_point.Given as goal

abbrev pub invariant-pairs : goal.invariant-pairs
invariant-pairs l = record {
  on : GoesOn l.last l.fn.words l.fn.pairs.items l.words l.pairs.items;
  words : AreWords l.words;
  around : IsAround l.words l.corner l.around.place l.around.axes l.around.below;
  keys : l.last.keys ≡ l.words.keys;
}

abbrev pub decreases-pairs : goal.decreases-pairs
decreases-pairs l = 2 ^ 64 - word_at l.words l.around.place
