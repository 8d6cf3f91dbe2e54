use Rattle.std.proofs.Common.{sym, subst}
use Rattle.packed_words.specs.Words.{PackedWords}
use Rattle.word_sweeps.specs.Reached.{AreReached}
use Rattle.word_sweeps.specs.FreeSlots.{slot_pair}
use Rattle.word_sweeps.proofs.Freed.{reached_more}
use Rattle.word_sweeps.proofs.Steps.{free_at, around_stays, word_after_grows, none_at}
use Rattle.word_sweeps.proofs.sweeping.sweep_point.Goals as goal

pub remove-requires-clause-free : goal.remove-requires-clause-free
remove-requires-clause-free c = free_at c.pairs.words c.args.corner.now c.in-Some.around.place c.in-Some.around.axes c.word.result c.in-Some.around.below c.pairs.invariant.words c.pairs.invariant.around c.word.ensures.value
    c.in-Some-free_slot.pair.slot c.in-Some-free_slot.pair.axis c.in-Some-free_slot.ensures.slot c.in-Some-free_slot.ensures.some

pub pairs-preserved : goal.pairs-preserved
pairs-preserved c = record {
  reached = subst (λ (x : PackedWords). AreReached c.args.words.now x) (sym c.remove.ensures.removed)
      (reached_more c.args.words.now c.pairs.words (slot_pair c.args.corner.now c.in-Some-free_slot.pair.slot c.in-Some-free_slot.pair.axis) c.pairs.invariant.reached
      (free_at c.pairs.words c.args.corner.now c.in-Some.around.place c.in-Some.around.axes c.word.result c.in-Some.around.below c.pairs.invariant.words c.pairs.invariant.around c.word.ensures.value
      c.in-Some-free_slot.pair.slot c.in-Some-free_slot.pair.axis c.in-Some-free_slot.ensures.slot c.in-Some-free_slot.ensures.some));
  words = c.remove.ensures.words;
  around = around_stays c.pairs.words c.args.corner.now c.in-Some.around.place c.in-Some.around.axes c.word.result c.in-Some.around.below c.pairs.invariant.words c.pairs.invariant.around c.word.ensures.value
      c.in-Some-free_slot.pair.slot c.in-Some-free_slot.pair.axis c.in-Some-free_slot.ensures.slot c.in-Some-free_slot.ensures.some c.remove.new.words c.remove.ensures.removed;
}

pub pairs-smaller : goal.pairs-smaller
pairs-smaller c = word_after_grows c.pairs.words c.args.corner.now c.in-Some.around.place c.in-Some.around.axes c.word.result c.in-Some.around.below c.pairs.invariant.words c.pairs.invariant.around c.word.ensures.value
    c.in-Some-free_slot.pair.slot c.in-Some-free_slot.pair.axis c.in-Some-free_slot.ensures.slot c.in-Some-free_slot.ensures.some c.remove.new.words c.remove.ensures.removed

pub returns-clause-none : goal.returns-clause-none
returns-clause-none c = none_at c.pairs.words c.args.corner.now c.in-Some.around.place c.in-Some.around.axes c.word.result c.in-Some.around.below c.pairs.invariant.words c.pairs.invariant.around c.word.ensures.value c.in_default-free_slot.ensures.none
