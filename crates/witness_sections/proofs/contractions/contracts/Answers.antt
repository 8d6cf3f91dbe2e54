use Rattle.std.proofs.Common.{◌↔◌, ◌∙◌, ◌+◌, ◌<◌, ℕ, [], length, get_or, ap, arith}
use Rattle.std.proofs.lemmas.Result.{IfOk-weaker}
use Rattle.std.proofs.lemmas.List.{get_or_default}
use Rattle.std.specs.Bool.{IsTrue}
use Rattle.field_mod.specs.Modular.{Same}
use Rattle.field_mod.proofs.Modular.{same_trans, same-add}
use Rattle.elem_cubes.proofs.Modular.{exact}
use Rattle.chains.specs.Terms.{coefficient, nth_chain}
use Rattle.chains.specs.ChainComplex.{boundary, incidence}
use Rattle.algebraic_reduction.specs.Reduction.{single}
use Rattle.witness_sections.specs.Readings.{ContractsBy, projection_by}
use Rattle.witness_sections.proofs.Parting.{reduced, same_iff}
use Rattle.witness_sections.proofs.contractions.contracts.Goals as goal

pub returns : goal.returns
returns g c =
    let p = g.row.P in
    let s = c.args.section.now in
    let i = c.args.cell in
    let hs = s.homotopies.items in
    let bs = s.complex.boundaries in
    let inside : i < length hs = let w = c.requires.whole.homotopies in omega (arith, w, c.requires.cell) in
    let first = λ (h : ℕ). reduced p (coefficient c.in_ok-projected.projected h) (projection_by s.degrees.items (get_or s.complex.degrees i 0) i h) (c.in_ok-projected.ensures h) in
    let second = λ (h : ℕ). same_trans (reduced p (coefficient c.in_ok-filled.filled h) (boundary bs (coefficient c.index.result.now) h) (c.in_ok-filled.ensures h))
    (exact p (ap (λ us. boundary bs (coefficient us) h) (c.index.ensures ∙ get_or_default hs i c.index.result.now [] inside))) in
    let third = λ (h : ℕ). same_trans (reduced p (coefficient c.in_ok-around.around h) (boundary c.deref.result.now (coefficient c.boundary.result.now) h) (c.in_ok-around.ensures.sum h))
    (exact p (ap (λ us. boundary us (coefficient c.boundary.result.now) h) c.deref.ensures.value ∙ ap (λ us. boundary hs (coefficient us) h) c.boundary.ensures.value)) in
    let both = same_iff p (λ h. coefficient c.in_ok-projected.projected h + (coefficient c.in_ok-filled.filled h + coefficient c.in_ok-around.around h))
    (λ h. projection_by s.degrees.items (get_or s.complex.degrees i 0) i h + (boundary bs (nth_chain hs i) h + boundary hs (incidence bs i) h))
    (single i) (λ h. same-add (first h) (same-add (second h) (third h))) in
    IfOk-weaker c.is_sum.result
    (λ b. IsTrue b ↔ ((h : ℕ) → Same p (coefficient c.in_ok-projected.projected h + (coefficient c.in_ok-filled.filled h + coefficient c.in_ok-around.around h)) (single i h)))
    (λ b. IsTrue b ↔ ContractsBy s i)
    (λ b e. ((λ t. both.to (e.0 t)), (λ w. e.1 (both.from w))))
    c.is_sum.ensures
