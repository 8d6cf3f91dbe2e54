use Rattle.std.proofs.Common.{arith, ap, ◌∙◌, ℕ, List, ◌≡◌, ◌≢◌, ◌+◌, ◌*◌, ◌<◌, ◌%◌, length, subst}
use Rattle.std.proofs.lemmas.List.{get_or_default}
use Rattle.field_mod.specs.Modular.{Same}
use Rattle.field_mod.proofs.Table.{two_le}
use Rattle.chains.specs.Terms.{coefficient}
use Rattle.chains.specs.ChainComplex.{incidence}
use Rattle.algebraic_reduction.specs.Kept.{KeptStep, no_step, nth, a_at}
use Rattle.algebraic_reduction.proofs.Bridge.{grade, is_boundary}
use Rattle.algebraic_reduction.proofs.OneMore.{state_short}
use Rattle.algebraic_reduction.proofs.Spreading.{way_first, way_next, way_end}
use Rattle.algebraic_reduction.proofs.descending.descend.Goals as goal

pub descending-init : goal.descending-init
descending-init g c =
    let p = c.args.parts.now in
    let e = c.in_ok-spread.ensures in
    record {
      within = omega arith;
      way = way_first g.row.P c.args.bound (incidence p.complex.boundaries) p.places.items p.steps.items c.args.start.now c.new-left.result.items c.new-pending.result c.spread.new.left.items c.new-raised.result.items c.spread.new.pending c.new-left.ensures.items c.new-pending.ensures c.new-raised.ensures.items e.left e.dropped e.pending e.inside;
    }

pub index-step-requires : goal.index-step-requires
index-step-requires g c =
    let o = c.in-Some.ensures in
    let q = c.descending.invariant.way.inside c.in-Some.place (λ z. absurd (omega (arith, o.number, o.nonzero, z))) in
    omega (arith, q.1, c.requires.bounded, c.args.parts.now.steps.ok.0)

pub overflow_add-from : goal.overflow_add-from
overflow_add-from g c =
    let o = c.in-Some.ensures in
    let q = c.descending.invariant.way.inside c.in-Some.place (λ z. absurd (omega (arith, o.number, o.nonzero, z))) in
    let l = state_short g.row.P _ _ _ c.requires.state in
    omega (arith, q.1, l, c.requires.bounded)

pub descending-preserved : goal.descending-preserved
descending-preserved g c =
    let p = c.args.parts.now in
    let o = c.in-Some.ensures in
    let e = c.in_ok-spread-2.ensures in
    let i = c.in-Some.place in
    let stands : coefficient c.descending.pending i ≢ 0 = λ z. absurd (omega (arith, o.number, o.nonzero, z)) in
    let q = c.descending.invariant.way.inside i stands in
    let inside : i < length p.steps.items = omega (arith, q.1, c.requires.bounded) in
    let step : c.index-step.result.now ≡ nth p.steps.items i = c.index-step.ensures ∙ get_or_default p.steps.items i c.index-step.result.now no_step inside in
    let row : c.row.result.now ≡ (nth p.steps.items i).row = c.row.ensures.value ∙ ap (λ (k : KeptStep). k.row) step in
    let two = two_le g.row.P c.args.field.listed in
    record {
      within = omega (arith, q.1);
      way = way_next g.row.P (length p.complex.boundaries) (grade p.complex.degrees) two (incidence p.complex.boundaries) p.places.items p.steps.items c.args.bound c.requires.bounded (is_boundary g.row.P p.complex c.requires.state.complex) c.requires.state.steps c.requires.state.kept c.args.start.now c.descending.left.items c.descending.raised.items c.descending.pending c.take_first.new.self c.spread-in-Some.new.left.items c.push.new.self.items c.spread-in-Some.new.pending c.descending.from i c.in-Some.number c.mul-weight.result c.neg-scale.result c.descending.invariant.way o.number o.nonzero o.others o.later
          (c.mul-weight.ensures.value ∙ ap (λ v. (v * c.in-Some.number) % g.row.P) (c.inverse.ensures.value ∙ ap (λ (k : KeptStep). k.step.inverse) step))
          c.neg-scale.ensures.value
          c.in_ok-push.ensures.ok
          (λ h n. subst (λ (t : List (ℕ × ℕ)). Same g.row.P (coefficient c.spread-in-Some.new.left.items h) (coefficient c.descending.left.items h + c.neg-scale.result * coefficient t h)) row (e.left h n))
          e.dropped
          (λ j a b. subst (λ (t : List (ℕ × ℕ)). Same g.row.P (coefficient c.spread-in-Some.new.pending j) (coefficient c.take_first.new.self j + c.neg-scale.result * coefficient t (a_at p.steps.items j))) row (e.pending j a b))
          e.inside;
    }

pub returns : goal.returns
returns g c =
    let p = c.args.parts.now in
    way_end g.row.P (length p.complex.boundaries) (grade p.complex.degrees) (two_le g.row.P c.args.field.listed) (incidence p.complex.boundaries) p.places.items p.steps.items c.args.bound c.requires.bounded (is_boundary g.row.P p.complex c.requires.state.complex) c.requires.state.steps c.requires.state.kept c.args.start.now c.descending.left.items c.descending.raised.items c.descending.pending c.descending.from c.descending.invariant.way c.in_default.ensures.none
