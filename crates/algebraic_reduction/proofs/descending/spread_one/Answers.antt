use Rattle.std.proofs.Common.{◌∙◌, sym, ap, ℕ, List, Option}
use Rattle.algebraic_reduction.specs.State.{place_at}
use Rattle.algebraic_reduction.proofs.MapSteps.{none_from}
use Rattle.algebraic_reduction.proofs.Spreading.{left_more, term_elsewhere, placed_apart}
use Rattle.algebraic_reduction.proofs.descending.spread_one.Goals as goal

pub returns-in_ok-push-clause-left : goal.returns-in_ok-push-clause-left
returns-in_ok-push-clause-left g c h e = left_more c.args.left.now.items c.push.new.self.items c.args.generator c.args.number h c.in_ok-push.ensures.ok

pub returns-in_ok-push-clause-dropped : goal.returns-in_ok-push-clause-dropped
returns-in_ok-push-clause-dropped g c h i e =
    let none = sym c.place_of.ensures ∙ none_from c.place_of.result c.is_none.result c.is_none.ensures c.if-is_none.true in
    left_more c.args.left.now.items c.push.new.self.items c.args.generator c.args.number h c.in_ok-push.ensures.ok
    ∙ sym (term_elsewhere c.args.generator c.args.number h _ (placed_apart c.deref.result.now c.args.generator h i none (ap (λ (ps : List (Option ℕ)). place_at ps h) c.deref.ensures.value ∙ e)))
