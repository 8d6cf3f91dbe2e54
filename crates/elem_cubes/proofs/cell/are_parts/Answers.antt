use Rattle.std.proofs.Common.{◌≡◌, ◌∙◌, ap, sym, arith, rules, ◌+◌, ◌/◌, ◌%◌, drop, get_or, pos, eqb, ◌&&◌}
use Rattle.std.specs.Int.{w32}
use Rattle.std.specs.Prelude.{FitsSigned}
use Rattle.std.proofs.lemmas.Int.{to_z-of_z}
use Rattle.elem_cubes.specs.Cells.{factor_of, cell_of}
use Rattle.elem_cubes.specs.Faces.{is_part, is_face}
use Rattle.elem_cubes.proofs.Making.{parts_step}
use Rattle.elem_cubes.proofs.cell.are_parts.Goals as goal

pub returns-then-not-is_part : goal.returns-then-not-is_part
returns-then-not-is_part c =
    let i = c.loop-i.i in
    let a = get_or c.args.ends.now i (pos 0) in
    let b = get_or c.args.other_ends.now i (pos 0) in
    let f : FitsSigned w32 a = search rules in
    let g : FitsSigned w32 b = search rules in
    let part : is_part (factor_of (eqb (c.loop-i.rest % 2) 1) a) (factor_of (eqb (c.loop-i.other_rest % 2) 1) b) ≡ c.is_part.result =
    sym (c.is_part.ensures ∙ λ x. is_part (factor_of (eqb (c.loop-i.rest % 2) 1) (to_z-of_z w32 a f x)) (factor_of (eqb (c.loop-i.other_rest % 2) 1) (to_z-of_z w32 b g x))) in
    sym (ap (λ v. v && is_face (cell_of (drop (i + 1) c.args.ends.now) (c.loop-i.rest / 2)) (cell_of (drop (i + 1) c.args.other_ends.now) (c.loop-i.other_rest / 2))) (part ∙ c.if-not-is_part.true))
    ∙ sym (parts_step c.args.ends.now c.args.other_ends.now c.loop-i.rest c.loop-i.other_rest i c.loop-i-test.true (omega arith))
    ∙ c.loop-i.invariant

pub loop-i-preserved : goal.loop-i-preserved
loop-i-preserved c =
    let i = c.loop-i.i in
    let a = get_or c.args.ends.now i (pos 0) in
    let b = get_or c.args.other_ends.now i (pos 0) in
    let f : FitsSigned w32 a = search rules in
    let g : FitsSigned w32 b = search rules in
    let part : is_part (factor_of (eqb (c.loop-i.rest % 2) 1) a) (factor_of (eqb (c.loop-i.other_rest % 2) 1) b) ≡ c.is_part.result =
    sym (c.is_part.ensures ∙ λ x. is_part (factor_of (eqb (c.loop-i.rest % 2) 1) (to_z-of_z w32 a f x)) (factor_of (eqb (c.loop-i.other_rest % 2) 1) (to_z-of_z w32 b g x))) in
    sym (ap (λ v. v && is_face (cell_of (drop (i + 1) c.args.ends.now) (c.loop-i.rest / 2)) (cell_of (drop (i + 1) c.args.other_ends.now) (c.loop-i.other_rest / 2))) (part ∙ c.if-not-is_part.false))
    ∙ sym (parts_step c.args.ends.now c.args.other_ends.now c.loop-i.rest c.loop-i.other_rest i c.loop-i-test.true (omega arith))
    ∙ c.loop-i.invariant
