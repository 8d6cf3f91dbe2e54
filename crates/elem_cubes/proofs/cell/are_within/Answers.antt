use Rattle.std.proofs.Common.{◌≡◌, ◌∙◌, ap, sym, rules, ◌+◌, ◌/◌, ◌%◌, drop, get_or, pos, eqb, ◌&&◌}
use Rattle.std.specs.Int.{w32}
use Rattle.std.specs.List.{list_all}
use Rattle.std.specs.Prelude.{FitsSigned}
use Rattle.std.proofs.lemmas.Int.{to_z-of_z}
use Rattle.elem_cubes.specs.Cells.{factor_of, is_within, cell_of}
use Rattle.elem_cubes.proofs.Making.{test_step}
use Rattle.elem_cubes.proofs.cell.are_within.Goals as goal

pub returns-then-not-is_within : goal.returns-then-not-is_within
returns-then-not-is_within c =
    let i = c.loop-end.end-index in
    let a = get_or c.args.ends.now i (pos 0) in
    let f : FitsSigned w32 a = search rules in
    let g : FitsSigned w32 c.args.least = search rules in
    let h : FitsSigned w32 c.args.greatest = search rules in
    let p = is_within c.args.least c.args.greatest in
    let one : p (factor_of (eqb (c.loop-end.rest % 2) 1) a) ≡ c.is_within.result =
    sym (c.is_within.ensures ∙ λ x. is_within (to_z-of_z w32 c.args.least g x) (to_z-of_z w32 c.args.greatest h x) (factor_of (eqb (c.loop-end.rest % 2) 1) (to_z-of_z w32 a f x))) in
    sym (ap (λ v. v && list_all p (cell_of (drop (i + 1) c.args.ends.now) (c.loop-end.rest / 2))) (one ∙ c.if-not-is_within.true))
    ∙ sym (test_step p c.args.ends.now c.loop-end.rest i c.loop-end-test.true)
    ∙ (λ x. list_all (is_within (sym (to_z-of_z w32 c.args.least g) x) (sym (to_z-of_z w32 c.args.greatest h) x)) (cell_of (drop i c.args.ends.now) c.loop-end.rest))
    ∙ c.loop-end.invariant
    ∙ (λ x. list_all (is_within (to_z-of_z w32 c.args.least g x) (to_z-of_z w32 c.args.greatest h x)) (cell_of c.args.ends.now c.args.axes))

pub loop-end-preserved : goal.loop-end-preserved
loop-end-preserved c =
    let i = c.loop-end.end-index in
    let a = get_or c.args.ends.now i (pos 0) in
    let f : FitsSigned w32 a = search rules in
    let g : FitsSigned w32 c.args.least = search rules in
    let h : FitsSigned w32 c.args.greatest = search rules in
    let p = is_within c.args.least c.args.greatest in
    let one : p (factor_of (eqb (c.loop-end.rest % 2) 1) a) ≡ c.is_within.result =
    sym (c.is_within.ensures ∙ λ x. is_within (to_z-of_z w32 c.args.least g x) (to_z-of_z w32 c.args.greatest h x) (factor_of (eqb (c.loop-end.rest % 2) 1) (to_z-of_z w32 a f x))) in
    (λ x. list_all (is_within (to_z-of_z w32 c.args.least g x) (to_z-of_z w32 c.args.greatest h x)) (cell_of (drop (i + 1) c.args.ends.now) (c.loop-end.rest / 2)))
    ∙ sym (ap (λ v. v && list_all p (cell_of (drop (i + 1) c.args.ends.now) (c.loop-end.rest / 2))) (one ∙ c.if-not-is_within.false))
    ∙ sym (test_step p c.args.ends.now c.loop-end.rest i c.loop-end-test.true)
    ∙ (λ x. list_all (is_within (sym (to_z-of_z w32 c.args.least g) x) (sym (to_z-of_z w32 c.args.greatest h) x)) (cell_of (drop i c.args.ends.now) c.loop-end.rest))
    ∙ c.loop-end.invariant
