use Rattle.std.proofs.Common.{◌≡◌, ◌∙◌, ◌%◌, ◌<◌, ℕ, [], length, get_or, sym, ap, subst, arith}
use Rattle.std.proofs.lemmas.Result.{IfOk-weaker}
use Rattle.std.proofs.lemmas.List.{get_or_default}
use native.Mathlib.Nat.{zero-mod}
use Rattle.chains.specs.Terms.{coefficient}
use Rattle.chains.specs.ChainComplex.{boundary}
use Rattle.witness_sections.specs.declared.section.Degree.{Degree}
use Rattle.witness_sections.specs.Readings.{projection_by, IsWholeDegree}
use Rattle.witness_sections.proofs.Judging.{projection_here, projection_past}
use Rattle.witness_sections.proofs.contractions.projection.Goals as goal

pub returns-then-degree-len : goal.returns-then-degree-len
returns-then-degree-len g c = λ h.
    let ds = c.args.section.now.degrees.items in
    let past = projection_past ds (get_or c.args.section.now.complex.degrees c.args.cell 0) c.args.cell h (omega (arith, c.if-degree-len.true, c.len.ensures, c.from-degree.ensures, c.degree.ensures.value)) in
    ap (λ ts. coefficient ts h) c.empty.ensures ∙ sym (ap (λ v. v % g.row.P) past ∙ zero-mod g.row.P)

pub returns : goal.returns
returns g c =
    let ds = c.args.section.now.degrees.items in
    let d = c.index-kept.result.now in
    let k = c.from-degree.result in
    let l : k < length ds = omega (arith, c.if-degree-len.false, c.len.ensures) in
    let w : IsWholeDegree (length c.args.section.now.complex.boundaries) d = subst (λ (e : Degree g.row.P). IsWholeDegree (length c.args.section.now.complex.boundaries) e) (sym c.index-kept.ensures) (c.requires.whole.degrees k d l) in
    let inside : c.args.cell < length d.at_cocycles.items = let n = w.at_cocycles in omega (arith, n, c.requires.cell) in
    IfOk-weaker c.combined.result
    (λ b. (h : ℕ) → coefficient b h ≡ boundary c.deref.result.now (coefficient c.index.result.now) h % g.row.P)
    (λ b. (h : ℕ) → coefficient b h ≡ projection_by ds (get_or c.args.section.now.complex.degrees c.args.cell 0) c.args.cell h % g.row.P)
    (λ b s h. s h ∙ ap (λ v. v % g.row.P) (ap (λ bs. boundary bs (coefficient c.index.result.now) h) c.deref.ensures.value
    ∙ ap (λ us. boundary d.cycles.items (coefficient us) h) (c.index.ensures ∙ get_or_default d.at_cocycles.items c.args.cell c.index.result.now [] inside)
    ∙ sym (projection_here ds k c.args.cell h d l c.index-kept.ensures)
    ∙ ap (λ n. projection_by ds n c.args.cell h) (c.from-degree.ensures ∙ c.degree.ensures.value)))
    c.combined.ensures.sum
