use Rattle.std.proofs.Common.{◌∙◌, ap, arith, length}
use Rattle.elem_cubes.specs.KeepingLemmas.{length-cell_of}
use Rattle.word_sweeps.proofs.FreeSlots.{step_word}
use Rattle.word_sweeps.proofs.pairs.word_below.Goals as goal

pub moved_down-requires-clause-axis : goal.moved_down-requires-clause-axis
moved_down-requires-clause-axis c = let e = ap length c.requires.vertex ∙ length-cell_of c.args.corner.now 0 in omega (arith, c.requires.axis)

pub returns : goal.returns
returns c = step_word c.args.words.now c.args.corner.now c.args.axis c.word_near.result c.args.vertex.now c.moved_down.result (omega (arith, c.len.ensures.few, c.len.ensures.len)) c.requires.axis c.requires.vertex c.moved_down.ensures c.word_near.ensures
