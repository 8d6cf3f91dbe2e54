use Rattle.std.proofs.Common.{◌∙◌, ap, arith, length}
use Rattle.elem_cubes.specs.Cells.{cell_of, is_cell}
use Rattle.word_sweeps.proofs.FreeSlots.{made_some, pow_four, room}
use Rattle.word_sweeps.proofs.pairs.cells_of.Goals as goal

pub with_axis-coface_slot-requires-clause-slot : goal.with_axis-coface_slot-requires-clause-slot
with_axis-coface_slot-requires-clause-slot c = let p = pow_four (length c.args.corner.now) c.requires.slots.few in omega (arith, c.requires.slots.small)

pub unwrap-requires-2 : goal.unwrap-requires-2
unwrap-requires-2 c =
    let e = c.with_axis-coface_slot.ensures.sum in
    let r = room (length c.args.corner.now) c.args.pair.now.slot c.args.pair.now.axis c.requires.slots.small c.requires.slots.within c.requires.slots.point in
    made_some c.args.corner.now c.with_axis-coface_slot.result c.new-2.result c.new-2.ensures (omega arith)
    (ap (λ n. is_cell (cell_of c.args.corner.now n)) e ∙ c.requires.coface)
