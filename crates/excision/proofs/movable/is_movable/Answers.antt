use Rattle.std.proofs.Common.{◌≡◌, ◌∙◌, ℕ, true, refl, sym, length, subst}
use Rattle.std.specs.List.{list_all}
use Rattle.elem_cubes.specs.Cells.{is_wide}
use Rattle.excision.specs.Known.{Tells}
use Rattle.excision.specs.Left.{is_gone}
use Rattle.excision.proofs.Placing.{mask_told}
use Rattle.excision.proofs.Remembering.{tells, known_more}
use Rattle.excision.proofs.movable.is_movable.Goals as goal

pub returns-clause-known : goal.returns-clause-known
returns-clause-known g c =
    let p = g.row.P in
    let q = c.args.cell.now in
    let b = c.in_ok-answer.answer in
    let wide : list_all is_wide q ≡ true = sym c.is_full.ensures ∙ c.if-not-is_full.false in
    let told = tells p q (is_gone c.args.cells.now c.args.log.now.steps) b wide c.requires.closed c.in_ok-answer.ensures in
    let mask = sym (mask_told c.args.cells.now c.len.ensures.sorted c.args.log.now.steps (length c.args.log.now.complex.boundaries) q c.args.faces.now c.requires.complex.count c.requires.faces) ∙ c.in-Some.ensures in
    known_more p (length q) c.args.known.now c.insert.new.self c.in-Some.mask b c.requires.known (subst (λ (m : ℕ). Tells p (length q) m b) mask told) c.in_ok-insert.ensures.updates

pub returns-in-Some-copied-clause-movable : goal.returns-in-Some-copied-clause-movable
returns-in-Some-copied-clause-movable g c =
    let q = c.args.cell.now in
    let wide : list_all is_wide q ≡ true = sym c.is_full.ensures ∙ c.if-not-is_full.false in
    let mask = sym (mask_told c.args.cells.now c.len.ensures.sorted c.args.log.now.steps (length c.args.log.now.complex.boundaries) q c.args.faces.now c.requires.complex.count c.requires.faces) ∙ c.in-Some.ensures in
    c.requires.known c.in-Some.mask c.in-Some-copied.answer (sym (c.copied.ensures ∙ c.get.ensures.value) ∙ c.in-Some-copied.is) q (is_gone c.args.cells.now c.args.log.now.steps) refl wide c.requires.closed mask
