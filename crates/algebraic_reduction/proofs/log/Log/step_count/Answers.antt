use Rattle.std.proofs.Common.{arith, ap, ◌∙◌, sym, length, subst}
use Rattle.field_mod.proofs.Table.{two_le}
use Rattle.algebraic_reduction.specs.Kept.{steps_of}
use Rattle.algebraic_reduction.specs.Laws.{IsReduction}
use Rattle.algebraic_reduction.specs.LogWords.{Reduced}
use Rattle.algebraic_reduction.proofs.KeptSteps.{length-steps_of}
use Rattle.algebraic_reduction.proofs.OneMore.{state_short}
use Rattle.algebraic_reduction.proofs.Reductions.{steps_are_reductions}
use Rattle.algebraic_reduction.proofs.log.Log.step_count.Goals as goal

pub overflow_cast-result : goal.overflow_cast-result
overflow_cast-result g c = let ks = c.self.inside.parts.steps in omega (arith, state_short g.row.P _ _ _ c.self.invariant.state, ks.ok.0, c.len.ensures)

pub returns-clause-count : goal.returns-clause-count
returns-clause-count g c = let ks = c.self.inside.parts.steps in c.len.ensures ∙ ks.ok.0 ∙ sym (length-steps_of ks.items) ∙ ap (λ (v : Reduced). length v.steps) c.self.view_is

pub returns-clause-reduction : goal.returns-clause-reduction
returns-clause-reduction g c m =
    let p = c.self.inside.parts in
    subst (λ (v : Reduced). IsReduction g.row.P v.complex v.steps) c.self.view_is (steps_are_reductions g.row.P p.complex (steps_of p.steps.items) (two_le g.row.P m) c.self.invariant.state.complex c.self.invariant.state.steps)
