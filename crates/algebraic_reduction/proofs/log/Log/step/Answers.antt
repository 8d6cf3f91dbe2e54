use Rattle.std.proofs.Common.{arith, ap, ◌∙◌, sym, ◌<◌, ℕ, length, Some}
use Rattle.std.specs.Prelude.{slice_get}
use Rattle.std.proofs.lemmas.List.{get_or_default}
use Rattle.algebraic_reduction.specs.Kept.{KeptStep, no_step}
use Rattle.algebraic_reduction.specs.LogWords.{Reduced, pairs}
use Rattle.algebraic_reduction.proofs.KeptSteps.{length-steps_of, pairs_at}
use Rattle.algebraic_reduction.proofs.log.Log.step.Goals as goal

pub index-step-requires : goal.index-step-requires
index-step-requires g c =
    let ks = c.self.inside.parts.steps in
    omega (arith, c.requires, ap (λ (v : Reduced). length v.steps) (sym c.self.view_is), length-steps_of ks.items, ks.ok.0)

pub returns : goal.returns
returns g c =
    let ks = c.self.inside.parts.steps in
    let l : c.args.place < length ks.items = omega (arith, c.requires, ap (λ (v : Reduced). length v.steps) (sym c.self.view_is), length-steps_of ks.items) in
    ap (λ (v : Reduced). slice_get (pairs v.steps) c.args.place) (sym c.self.view_is)
    ∙ pairs_at ks.items c.args.place l
    ∙ ap (λ (k : KeptStep). Some (k.step.a, k.step.b)) (sym (c.index-step.ensures ∙ get_or_default ks.items c.args.place c.index-step.result.now no_step l))
    ∙ ap (λ (x : ℕ). Some (x, c.index-step.result.now.step.b)) (sym c.a.ensures)
    ∙ ap (λ (x : ℕ). Some (c.a.result, x)) (sym c.b.ensures)
