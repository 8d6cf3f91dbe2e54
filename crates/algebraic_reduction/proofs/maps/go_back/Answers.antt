use Rattle.std.proofs.Common.{arith, ap, sym, ◌∙◌, ◌≡◌, ◌<◌, take, ℕ, List, [], length, get_or, subst}
use Rattle.std.proofs.lemmas.List.{get_or_default}
use Rattle.field_mod.proofs.Table.{two_le}
use Rattle.chains.specs.Terms.{coefficient}
use Rattle.chains.specs.ChainComplex.{incidence}
use Rattle.algebraic_reduction.specs.Kept.{KeptStep, no_step, nth, b_at}
use Rattle.algebraic_reduction.specs.Maps.{HasDescended}
use Rattle.algebraic_reduction.proofs.Bridge.{grade}
use Rattle.algebraic_reduction.proofs.KeptSteps.{step_at}
use Rattle.algebraic_reduction.proofs.Including.{back_sum, back_inside}
use Rattle.algebraic_reduction.proofs.maps.go_back.Goals as goal

pub boundary-requires : goal.boundary-requires
boundary-requires g c =
    let p = c.args.parts.now in
    let l : c.args.place < length p.steps.items = omega (arith, c.requires.inside, c.requires.count) in
    let step : c.index.result.now ≡ nth p.steps.items c.args.place = c.index.ensures ∙ get_or_default p.steps.items c.args.place c.index.result.now no_step l in
    let eb : c.b-b.result ≡ b_at p.steps.items c.args.place = c.b-b.ensures ∙ ap (λ (k : KeptStep). k.step.b) step in
    let s = step_at g.row.P (length p.complex.boundaries) (grade p.complex.degrees) (two_le g.row.P c.args.field.listed) (incidence p.complex.boundaries) p.steps.items c.args.place c.requires.state.steps l in
    ((omega arith), ((omega arith), (omega (arith, eb, s.b_in))))

pub returns-clause-sum : goal.returns-clause-sum
returns-clause-sum g c =
    let p = c.args.parts.now in
    let d = c.in_ok-descended.descended in
    let l : c.args.place < length p.steps.items = omega (arith, c.requires.inside, c.requires.count) in
    let step : c.index.result.now ≡ nth p.steps.items c.args.place = c.index.ensures ∙ get_or_default p.steps.items c.args.place c.index.result.now no_step l in
    let eb : c.b-b.result ≡ b_at p.steps.items c.args.place = c.b-b.ensures ∙ ap (λ (k : KeptStep). k.step.b) step in
    back_sum g.row.P c.args.place c.args.count c.args.number c.neg.result p.complex p.places.items p.steps.items c.boundary.result.now d.left.items c.as_slice.result.now c.args.pending.now c.turn_back.new.pending l c.requires.below c.neg.ensures.value
    (c.boundary.ensures.value ∙ ap (λ (x : ℕ). get_or p.complex.boundaries x []) eb)
    (subst (λ (ts : List (ℕ × ℕ)). HasDescended g.row.P (incidence p.complex.boundaries) p.places.items (take c.args.place p.steps.items) (coefficient c.boundary.result.now) d.left.items ts) (sym c.as_slice.ensures) c.in_ok-descended.ensures)
    c.requires.inside c.in_ok-turn_back.ensures.sum

pub returns-clause-inside : goal.returns-clause-inside
returns-clause-inside g c =
    let p = c.args.parts.now in
    let d = c.in_ok-descended.descended in
    let l : c.args.place < length p.steps.items = omega (arith, c.requires.inside, c.requires.count) in
    let step : c.index.result.now ≡ nth p.steps.items c.args.place = c.index.ensures ∙ get_or_default p.steps.items c.args.place c.index.result.now no_step l in
    let eb : c.b-b.result ≡ b_at p.steps.items c.args.place = c.b-b.ensures ∙ ap (λ (k : KeptStep). k.step.b) step in
    back_inside g.row.P c.args.place c.args.count c.args.number c.neg.result p.complex p.places.items p.steps.items c.boundary.result.now d.left.items c.as_slice.result.now c.args.pending.now c.turn_back.new.pending l c.requires.below c.neg.ensures.value
    (c.boundary.ensures.value ∙ ap (λ (x : ℕ). get_or p.complex.boundaries x []) eb)
    (subst (λ (ts : List (ℕ × ℕ)). HasDescended g.row.P (incidence p.complex.boundaries) p.places.items (take c.args.place p.steps.items) (coefficient c.boundary.result.now) d.left.items ts) (sym c.as_slice.ensures) c.in_ok-descended.ensures)
    c.requires.inside c.in_ok-turn_back.ensures.inside
