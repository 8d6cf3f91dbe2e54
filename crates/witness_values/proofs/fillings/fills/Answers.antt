use Rattle.std.proofs.Common.{◌↔◌, ◌∙◌, ◌+◌, ◌<◌, ℕ, [], length, ap, arith}
use Rattle.std.proofs.lemmas.Result.{IfOk-weaker}
use Rattle.std.proofs.lemmas.List.{get_or_default}
use Rattle.std.specs.Bool.{IsTrue}
use Rattle.field_mod.specs.Modular.{Same}
use Rattle.field_mod.proofs.Modular.{same_trans, same-add}
use Rattle.elem_cubes.proofs.Modular.{exact}
use Rattle.chains.specs.Terms.{coefficient, nth_chain}
use Rattle.chains.specs.ChainComplex.{boundary, incidence}
use Rattle.algebraic_reduction.specs.Reduction.{single}
use Rattle.witness_sections.proofs.Parting.{reduced, same_iff}
use Rattle.witness_values.specs.Fillings.{base, FillsBy}
use Rattle.witness_values.proofs.fillings.fills.Goals as goal

pub returns : goal.returns
returns g c =
    let p = g.row.P in
    let K = c.args.complex.now in
    let i = c.args.place in
    let hs = c.args.fillings.now in
    let bs = K.boundaries in
    let inside : i < length hs = omega (arith, c.requires.fillings, c.requires.place) in
    let second = λ (h : ℕ). same_trans (reduced p (coefficient c.in_ok-filled.filled h) (boundary bs (coefficient c.index-fillings-place.result) h) (c.in_ok-filled.ensures h))
    (exact p (ap (λ us. boundary bs (coefficient us) h) (c.index-fillings-place.is ∙ get_or_default hs i c.index-fillings-place.result [] inside))) in
    let third = λ (h : ℕ). same_trans (reduced p (coefficient c.in_ok-around.around h) (boundary hs (coefficient c.boundary.result.now) h) (c.in_ok-around.ensures.sum h))
    (exact p (ap (λ us. boundary hs (coefficient us) h) c.boundary.ensures.value)) in
    let both = same_iff p (λ h. coefficient c.in_ok-base.base h + (coefficient c.in_ok-filled.filled h + coefficient c.in_ok-around.around h))
    (λ h. base K.degrees c.args.vertex i h + (boundary bs (nth_chain hs i) h + boundary hs (incidence bs i) h))
    (single i) (λ h. same-add (c.in_ok-base.ensures h) (same-add (second h) (third h))) in
    IfOk-weaker c.is_sum.result
    (λ b. IsTrue b ↔ ((h : ℕ) → Same p (coefficient c.in_ok-base.base h + (coefficient c.in_ok-filled.filled h + coefficient c.in_ok-around.around h)) (single i h)))
    (λ b. IsTrue b ↔ FillsBy p K hs c.args.vertex i)
    (λ b e. ((λ t. both.to (e.0 t)), (λ w. e.1 (both.from w))))
    c.is_sum.ensures
