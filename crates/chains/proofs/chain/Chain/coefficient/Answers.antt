use Rattle.std.proofs.Common.{ℕ, List, Ok, Err, ◌∙◌, sym, ap, rules, subst}
use Rattle.std.proofs.lemmas.List.Sorted.{answers_always}
use Rattle.chains.specs.Terms.{coefficient, IsNormal}
use Rattle.chains.proofs.Lookup.{looked_up}
use Rattle.chains.proofs.chain.Chain.coefficient.Goals as goal

pub returns-in-Ok-clause-value : goal.returns-in-Ok-clause-value
returns-in-Ok-clause-value g c =
    let by_key = c.in-Ok.ensures.position (λ (t : ℕ × ℕ). t.0) (answers_always _ _ _ (λ f a r h called. search rules)) in
    let e = c.as_slice-terms.ensures ∙ c.open-opened.ensures.opened in
    let normal = subst (λ (ts : List (ℕ × ℕ)). IsNormal g.row.P ts) (sym e) c.self.invariant.normal in
    let found = looked_up g.row.P _ c.args.generator normal (Ok c.in-Ok.place) c.in-Ok.ensures.bound by_key in
    sym (found.found).1 ∙ ap (λ ts. coefficient ts c.args.generator) (e ∙ c.self.view_is)

pub returns-in-Err-clause-value : goal.returns-in-Err-clause-value
returns-in-Err-clause-value g c =
    let by_key = c.in-Err.ensures.position (λ (t : ℕ × ℕ). t.0) (answers_always _ _ _ (λ f a r h called. search rules)) in
    let e = c.as_slice-terms.ensures ∙ c.open-opened.ensures.opened in
    let normal = subst (λ (ts : List (ℕ × ℕ)). IsNormal g.row.P ts) (sym e) c.self.invariant.normal in
    let found = looked_up g.row.P _ c.args.generator normal (Err c.in-Err.field-0) c.in-Err.ensures.bound by_key in
    sym (found.absent) ∙ ap (λ ts. coefficient ts c.args.generator) (e ∙ c.self.view_is)
