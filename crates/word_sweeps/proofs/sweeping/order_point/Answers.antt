use Rattle.std.proofs.Common.{◌∙◌, ◌++◌, ◌∷◌, [], List, ap, sym}
use Rattle.elem_cubes.specs.Cells.{Factor}
use Rattle.packed_words.specs.Words.{PackedWords}
use Rattle.word_sweeps.specs.FreeSlots.{slot_pair}
use Rattle.word_sweeps.proofs.Listed.{on_next}
use Rattle.word_sweeps.proofs.Steps.{free_at, cells_made, around_stays, word_after_grows, turn_at, none_turned}
use Rattle.word_sweeps.proofs.sweeping.order_point.Goals as goal

pub cells_of-requires-clause-face : goal.cells_of-requires-clause-face
cells_of-requires-clause-face c = (cells_made c.pairs.words c.args.corner.now c.in-Some.around.place c.in-Some.around.axes c.word.result c.in-Some.around.below c.pairs.invariant.words c.pairs.invariant.around c.word.ensures.value
    c.in-Some-taken_slot.pair.slot c.in-Some-taken_slot.pair.axis c.in-Some-taken_slot.ensures.slot c.in-Some-taken_slot.ensures.some).0

pub cells_of-requires-clause-coface : goal.cells_of-requires-clause-coface
cells_of-requires-clause-coface c = (cells_made c.pairs.words c.args.corner.now c.in-Some.around.place c.in-Some.around.axes c.word.result c.in-Some.around.below c.pairs.invariant.words c.pairs.invariant.around c.word.ensures.value
    c.in-Some-taken_slot.pair.slot c.in-Some-taken_slot.pair.axis c.in-Some-taken_slot.ensures.slot c.in-Some-taken_slot.ensures.some).1

pub remove-requires-clause-free : goal.remove-requires-clause-free
remove-requires-clause-free c = free_at c.pairs.words c.args.corner.now c.in-Some.around.place c.in-Some.around.axes c.word.result c.in-Some.around.below c.pairs.invariant.words c.pairs.invariant.around c.word.ensures.value
    c.in-Some-taken_slot.pair.slot c.in-Some-taken_slot.pair.axis c.in-Some-taken_slot.ensures.slot c.in-Some-taken_slot.ensures.some

pub pairs-preserved : goal.pairs-preserved
pairs-preserved c =
    let e = c.remove.ensures.removed in
    record {
      on = on_next c.args.last.now c.args.words.now c.pairs.words c.remove.new.words c.args.pairs.now.items c.pairs.pairs.items c.push.new.self.items
          (slot_pair c.args.corner.now c.in-Some-taken_slot.pair.slot c.in-Some-taken_slot.pair.axis) c.pairs.invariant.on
          (turn_at c.pairs.words c.args.corner.now c.in-Some.around.place c.in-Some.around.axes c.word.result c.in-Some.around.below c.pairs.invariant.words c.pairs.invariant.around c.word.ensures.value
          c.in-Some-taken_slot.pair.slot c.in-Some-taken_slot.pair.axis c.in-Some-taken_slot.ensures.slot c.in-Some-taken_slot.ensures.some c.args.last.now c.word-end.result c.pairs.invariant.keys c.word-end.ensures.value c.in-Some-taken_slot.ensures.told)
          e (c.in_ok-push.ensures.items ∙ ap (λ (t : List Factor × List Factor). c.pairs.pairs.items ++ t ∷ []) c.cells_of.ensures);
      words = c.remove.ensures.words;
      around = around_stays c.pairs.words c.args.corner.now c.in-Some.around.place c.in-Some.around.axes c.word.result c.in-Some.around.below c.pairs.invariant.words c.pairs.invariant.around c.word.ensures.value
          c.in-Some-taken_slot.pair.slot c.in-Some-taken_slot.pair.axis c.in-Some-taken_slot.ensures.slot c.in-Some-taken_slot.ensures.some c.remove.new.words e;
      keys = c.pairs.invariant.keys ∙ ap (λ (w : PackedWords). w.keys) (sym e);
    }

pub pairs-smaller : goal.pairs-smaller
pairs-smaller c = word_after_grows c.pairs.words c.args.corner.now c.in-Some.around.place c.in-Some.around.axes c.word.result c.in-Some.around.below c.pairs.invariant.words c.pairs.invariant.around c.word.ensures.value
    c.in-Some-taken_slot.pair.slot c.in-Some-taken_slot.pair.axis c.in-Some-taken_slot.ensures.slot c.in-Some-taken_slot.ensures.some c.remove.new.words c.remove.ensures.removed

pub returns-clause-none : goal.returns-clause-none
returns-clause-none c = none_turned c.pairs.words c.args.corner.now c.in-Some.around.place c.in-Some.around.axes c.word.result c.in-Some.around.below c.pairs.invariant.words c.pairs.invariant.around c.word.ensures.value c.args.last.now c.word-end.result c.pairs.invariant.keys c.word-end.ensures.value c.in_default-taken_slot.ensures.none
