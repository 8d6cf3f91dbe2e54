use Rattle.std.proofs.Common.{◌∙◌, ◌++◌, ap, map, List, ℕ}
use Rattle.elem_cubes.specs.Cells.{Factor}
use Rattle.cell_complex.specs.Numbering.{number_of}
use Rattle.excision.specs.Numbers.{face_numbers}
use Rattle.excision.proofs.Placing.{numbers_next, numbers_end}
use Rattle.excision.proofs.face_numbers.numbers_of.Goals as goal

pub loop-face-init : goal.loop-face-init
unfolding face_numbers
loop-face-init c = ap (λ (ns : List ℕ). ns ++ map (number_of c.args.cells.now) c.into_iter-face-iterator.result) c.new-numbers.ensures.items
    ∙ ap (λ (cs : List (List Factor)). map (number_of c.args.cells.now) cs) (c.into_iter-face-iterator.ensures.into_iter_gives ∙ c.closure-face-items.ensures)

pub loop-face-preserved : goal.loop-face-preserved
loop-face-preserved c = numbers_next (number_of c.args.cells.now) (face_numbers c.args.cells.now c.args.cell.now) c.loop-face.numbers.items c.push.new.self.items c.loop-face.face-iterator c.next.new.self c.in-Some.face c.number_or_count-number.result c.in-Some.ensures.steps c.number_or_count-number.ensures c.in_ok-push.ensures.items c.loop-face.invariant

pub returns : goal.returns
returns c = numbers_end (number_of c.args.cells.now) (face_numbers c.args.cells.now c.args.cell.now) c.loop-face.numbers.items c.loop-face.face-iterator c.in-None.ensures.steps.0 c.loop-face.invariant
