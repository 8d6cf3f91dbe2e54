use Rattle.std.proofs.Common.{arith, ap, ◌∙◌, sym, ℕ, List, length, subst}
use Rattle.algebraic_reduction.specs.State.{AreNames}
use Rattle.algebraic_reduction.proofs.OneMore.{written}
use Rattle.algebraic_reduction.proofs.naming.name_rows.Goals as goal

pub returns : goal.returns
returns g c =
    let l = ap (λ (xs : List (List ℕ)). length xs) c.deref_mut.ensures.value in
    let count = c.name_steps.auto.lists ∙ l ∙ c.in_ok-lists.ensures in
    subst (λ (ls : List (List ℕ)). AreNames g.row.P c.args.count c.args.steps.now ls) (sym (written c.in_ok-lists.lists.len c.name_steps.new.lists _ (c.in_ok-lists.lists.ok.0 ∙ sym l ∙ sym c.name_steps.auto.lists)))
    (record { count = count; named = λ i h q m nz. c.in_ok-name_steps.ensures i h q (omega (arith, m, count)) nz })
