use Rattle.std.proofs.Common.{◌+◌, ◌^◌, ◌∙◌, ap, arith, length}
use Rattle.packed_words.specs.Words.{with_word}
use Rattle.word_sweeps.specs.FreeSlots.{slot_pair}
use Rattle.word_sweeps.proofs.Reached.{removal_placed, removal_fits, removal_made}
use Rattle.word_sweeps.proofs.FreeSlots.{pair_place, pow_four, slot_removal}
use Rattle.word_sweeps.proofs.pairs.remove.Goals as goal

pub unit-face_unit-requires : goal.unit-face_unit-requires
unit-face_unit-requires c = let p = pow_four (length c.args.corner.now) c.requires.slots.few in omega (arith, c.requires.slots.small)

pub with_axis-requires-clause-slot : goal.with_axis-requires-clause-slot
with_axis-requires-clause-slot c = let p = pow_four (length c.args.corner.now) c.requires.slots.few in omega (arith, c.requires.slots.small)

pub word-requires : goal.word-requires
word-requires c = removal_placed c.args.words.now (slot_pair c.args.corner.now c.args.pair.now.slot c.args.pair.now.axis) c.len.ensures.words c.requires.free c.args.place
    (pair_place c.args.words.now c.args.corner.now c.args.pair.now.slot c.args.pair.now.axis c.requires.slots c.args.place c.requires.place)

pub word_after-word-requires-clause-fits : goal.word_after-word-requires-clause-fits
word_after-word-requires-clause-fits c = (removal_fits c.args.words.now (slot_pair c.args.corner.now c.args.pair.now.slot c.args.pair.now.axis) c.len.ensures.words c.requires.free
    c.args.place c.word.result (c.from-axis.result + 1) c.unit-face_unit.result c.unit-coface_unit.result
    (slot_removal c.args.words.now c.args.corner.now c.args.pair.now.slot c.args.pair.now.axis c.requires.slots
    c.args.place c.word.result (c.from-axis.result + 1) c.unit-face_unit.result c.unit-coface_unit.result
    c.requires.place c.word.ensures.value (omega (arith, c.from-axis.ensures)) c.unit-face_unit.ensures.value (c.unit-coface_unit.ensures.value ∙ ap (λ n. 16 ^ n) c.with_axis.ensures.sum))).small

pub put-requires-clause-place : goal.put-requires-clause-place
put-requires-clause-place c = removal_placed c.args.words.now (slot_pair c.args.corner.now c.args.pair.now.slot c.args.pair.now.axis) c.len.ensures.words c.requires.free c.args.place
    (pair_place c.args.words.now c.args.corner.now c.args.pair.now.slot c.args.pair.now.axis c.requires.slots c.args.place c.requires.place)

pub put-requires-clause-fits : goal.put-requires-clause-fits
put-requires-clause-fits c = rw c.word_after-word.ensures (removal_fits c.args.words.now (slot_pair c.args.corner.now c.args.pair.now.slot c.args.pair.now.axis) c.len.ensures.words c.requires.free
    c.args.place c.word.result (c.from-axis.result + 1) c.unit-face_unit.result c.unit-coface_unit.result
    (slot_removal c.args.words.now c.args.corner.now c.args.pair.now.slot c.args.pair.now.axis c.requires.slots
    c.args.place c.word.result (c.from-axis.result + 1) c.unit-face_unit.result c.unit-coface_unit.result
    c.requires.place c.word.ensures.value (omega (arith, c.from-axis.ensures)) c.unit-face_unit.ensures.value (c.unit-coface_unit.ensures.value ∙ ap (λ n. 16 ^ n) c.with_axis.ensures.sum)))

pub returns-clause-removed : goal.returns-clause-removed
returns-clause-removed c = c.put.ensures ∙ ap (λ v. with_word c.args.words.now c.args.place v) c.word_after-word.ensures
    ∙ removal_made c.args.words.now (slot_pair c.args.corner.now c.args.pair.now.slot c.args.pair.now.axis) c.len.ensures.words c.requires.free
    c.args.place c.word.result (c.from-axis.result + 1) c.unit-face_unit.result c.unit-coface_unit.result
    (slot_removal c.args.words.now c.args.corner.now c.args.pair.now.slot c.args.pair.now.axis c.requires.slots
    c.args.place c.word.result (c.from-axis.result + 1) c.unit-face_unit.result c.unit-coface_unit.result
    c.requires.place c.word.ensures.value (omega (arith, c.from-axis.ensures)) c.unit-face_unit.ensures.value (c.unit-coface_unit.ensures.value ∙ ap (λ n. 16 ^ n) c.with_axis.ensures.sum))
