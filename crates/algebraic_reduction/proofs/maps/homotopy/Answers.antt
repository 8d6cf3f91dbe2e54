use Rattle.std.proofs.Common.{arith, ap, sym, ◌∙◌, ◌≡◌, ◌≢◌, ◌+◌, ◌-◌, ◌*◌, ◌%◌, ◌<◌, ◌≤◌, ◌⊎◌, take, ℕ, List, length, subst}
use Rattle.std.proofs.lemmas.List.{get_or_default}
use Rattle.field_mod.specs.Modular.{Same, minus}
use Rattle.field_mod.proofs.Table.{two_le}
use Rattle.chains.specs.Terms.{coefficient}
use Rattle.chains.specs.ChainComplex.{incidence}
use Rattle.algebraic_reduction.specs.Kept.{KeptStep, no_step, nth, b_at}
use Rattle.algebraic_reduction.specs.Maps.{HasDescended, weight_at}
use Rattle.algebraic_reduction.proofs.Bridge.{grade, is_boundary}
use Rattle.algebraic_reduction.proofs.OneMore.{state_short}
use Rattle.algebraic_reduction.proofs.Residues.{reduced}
use Rattle.algebraic_reduction.proofs.Returning.{Returning, returning_next, returning_end}
use Rattle.algebraic_reduction.proofs.Including.{returning_begin}
use Rattle.algebraic_reduction.proofs.maps.homotopy.Goals as goal

pub overflow_cast-count : goal.overflow_cast-count
overflow_cast-count g c = let l = state_short g.row.P _ _ _ c.requires.state in omega (arith, c.len-count.ensures, c.args.parts.now.steps.ok.0, l)

pub returning-init : goal.returning-init
returning-init g c =
    let p = c.args.parts.now in
    let d = c.in_ok-descended.descended in
    let ec : c.len-count.result ≡ length p.steps.items = c.len-count.ensures ∙ p.steps.ok.0 in
    subst (λ (m : ℕ). Returning g.row.P (length p.complex.boundaries) (incidence p.complex.boundaries) p.steps.items (coefficient c.args.chain.now) c.new-terms.result.items c.turn_back.new.pending m) (sym ec)
    (returning_begin g.row.P (two_le g.row.P c.args.field.listed) c.len-count.result p.complex p.places.items p.steps.items c.requires.state c.args.chain.now d.left.items c.as_slice.result.now c.new-pending.result c.turn_back.new.pending c.new-terms.result.items ec
    (subst (λ (ts : List (ℕ × ℕ)). HasDescended g.row.P (incidence p.complex.boundaries) p.places.items (take c.len-count.result p.steps.items) (coefficient c.args.chain.now) d.left.items ts) (sym c.as_slice.ensures) c.in_ok-descended.ensures)
    c.new-pending.ensures c.new-terms.ensures.items c.in_ok-turn_back.ensures.sum c.in_ok-turn_back.ensures.inside)

pub returning-preserved : goal.returning-preserved
returning-preserved g c =
    let p = c.args.parts.now in
    let ks = p.steps.items in
    let ec : c.len-count.result ≡ length p.steps.items = c.len-count.ensures ∙ p.steps.ok.0 in
    let o = c.in-Some.ensures in
    let after = c.in-Some.after in
    let i : ℕ = c.len-count.result - 1 - c.in-Some.after in
    let q = c.returning.invariant.inside c.in-Some.after (λ z. absurd (omega (arith, o.number, o.nonzero, z))) in
    let l : c.len-count.result - 1 - c.in-Some.after < length p.steps.items = let a = q.1 in omega (arith, a, ec) in
    let step : c.index.result.now ≡ nth p.steps.items (c.len-count.result - 1 - c.in-Some.after) = c.index.ensures ∙ get_or_default p.steps.items (c.len-count.result - 1 - c.in-Some.after) c.index.result.now no_step l in
    returning_next g.row.P (length p.complex.boundaries) (grade p.complex.degrees) (two_le g.row.P c.args.field.listed) (incidence p.complex.boundaries) p.steps.items (is_boundary g.row.P p.complex c.requires.state.complex) c.requires.state.steps (coefficient c.args.chain.now) c.returning.terms.items c.returning.pending c.take_first.new.self c.push.new.self.items c.go_back.new.pending c.returning.bound c.in-Some.after c.in-Some.number (c.len-count.result - 1 - c.in-Some.after) c.b.result
    c.returning.invariant o.number o.nonzero o.others o.later
    (ap (λ (m : ℕ). m - 1 - c.in-Some.after) ec) (c.b.ensures ∙ ap (λ (k : KeptStep). k.step.b) step) c.in_ok-push.ensures.items
    (subst (λ (m : ℕ). (j : ℕ) → j < c.len-count.result - 1 - c.in-Some.after → Same g.row.P (coefficient c.go_back.new.pending (m - 1 - j)) (coefficient c.take_first.new.self (m - 1 - j) + minus g.row.P (c.in-Some.number * weight_at g.row.P (incidence p.complex.boundaries) p.steps.items (incidence p.complex.boundaries (b_at p.steps.items (c.len-count.result - 1 - c.in-Some.after))) j))) ec c.in_ok-go_back.ensures.sum)
    (subst (λ (m : ℕ). (k : ℕ) → coefficient c.go_back.new.pending k ≢ 0 → (coefficient c.take_first.new.self k ≢ 0) ⊎ ((m ≤ k + (c.len-count.result - 1 - c.in-Some.after)) × (k < m))) ec c.in_ok-go_back.ensures.inside)

pub returns : goal.returns
returns g c =
    let p = c.args.parts.now in
    returning_end g.row.P (length p.complex.boundaries) (grade p.complex.degrees) (two_le g.row.P c.args.field.listed) (incidence p.complex.boundaries) p.steps.items (is_boundary g.row.P p.complex c.requires.state.complex) c.requires.state.steps (coefficient c.args.chain.now) c.returning.terms.items c.returning.pending c.in_ok-sum.sum c.returning.bound c.returning.invariant c.in_default.ensures.none
    (λ h. reduced g.row.P _ _ (c.in_ok-sum.ensures.sum h ∙ ap (λ (t : List (ℕ × ℕ)). coefficient t h % g.row.P) c.deref.ensures.value))
