use Rattle.std.proofs.Common.{◌∙◌, ◌+◌, ◌*◌, ◌%◌, ◌<◌, ℕ, [], length, ap, arith}
use Rattle.std.proofs.lemmas.List.{get_or_default}
use Rattle.field_mod.proofs.Table.{two_le}
use Rattle.chains.specs.Terms.{coefficient, nth_chain}
use Rattle.chains.specs.ChainComplex.{boundary, incidence}
use Rattle.witness_sections.proofs.Testing.{through, none_iff}
use Rattle.witness_values.proofs.Imaging.{differ_iff}
use Rattle.witness_values.proofs.images.commutes.Goals as goal

pub returns : goal.returns
returns g c =
    let p = g.row.P in
    let i = c.args.cell in
    let us = c.args.images.now in
    let bs = c.args.range.now.boundaries in
    let inside : i < length us = omega (arith, c.requires.images, c.requires.cell) in
    let a = λ (h : ℕ). coefficient c.in_ok-image.image h in
    let b = λ (h : ℕ). coefficient c.in_ok-around.around h in
    through c.is_empty.ensures.empty (through (none_iff p c.add_scaled.new.self (λ h. a h + c.neg.result * b h) c.is_empty.ensures.normal c.in_ok-add_scaled.ensures.sum)
    (differ_iff p c.neg.result a b (λ h. boundary us (incidence c.args.domain.now.boundaries i) h) (λ h. boundary bs (nth_chain us i) h) (two_le p c.args.field.listed) c.neg.ensures.value
    (λ h. c.in_ok-image.ensures.sum h ∙ ap (λ vs. boundary us (coefficient vs) h % p) c.boundary.ensures.value)
    (λ h. c.in_ok-around.ensures h ∙ ap (λ vs. boundary bs (coefficient vs) h % p) (c.index-images-cell.is ∙ get_or_default us i c.index-images-cell.result [] inside))))
