use Rattle.std.proofs.Common.{arith, ap, ◌∙◌, ◌≡◌, ◌≢◌, ◌<◌, ◌∷◌, ℕ, List}
use Rattle.chains.specs.Terms.{coefficient}
use Rattle.algebraic_reduction.proofs.NumbersKept.{some_weaker, first_taken, read_below, popped_numbers}
use Rattle.algebraic_reduction.proofs.numbers.Numbers.take_first.Goals as goal

pub invariant_of-self : goal.invariant_of-self
invariant_of-self g c = record {
  positive = c.self.invariant.positive;
  ordered = c.pop_first.ensures.ordered;
  numbers = popped_numbers g.row.P c.pop_first.result c.self.inside.kept c.pop_first.new.self c.pop_first.ensures.updates c.pop_first.ensures.unchanged c.self.invariant.numbers;
}

pub returns-clause-number : goal.returns-clause-number
returns-clause-number g c =
    let old = c.self.inside.kept.entries in
    let new = c.pop_first.new.self.entries in
    some_weaker c.pop_first.result (λ t. old ≡ t ∷ new) (λ t. t.1 ≡ coefficient c.args.self.now t.0)
    (λ t e. (first_taken old new t c.self.invariant.ordered e).0 ∙ ap (λ (es : List (ℕ × ℕ)). coefficient es t.0) c.self.view_is)
    c.pop_first.ensures.removal

pub returns-clause-below : goal.returns-clause-below
returns-clause-below g c =
    let old = c.self.inside.kept.entries in
    let new = c.pop_first.new.self.entries in
    some_weaker c.pop_first.result (λ t. old ≡ t ∷ new) (λ t. t.1 < g.row.P)
    (λ t e.
    let q = (first_taken old new t c.self.invariant.ordered e).0 in
    let b = read_below g.row.P c.self.inside.kept t.0 c.self.invariant.positive c.self.invariant.ordered c.self.invariant.numbers in
    omega arith)
    c.pop_first.ensures.removal

pub returns-clause-later : goal.returns-clause-later
returns-clause-later g c =
    let old = c.self.inside.kept.entries in
    let new = c.pop_first.new.self.entries in
    some_weaker c.pop_first.result (λ t. old ≡ t ∷ new) (λ t. (j : ℕ) → coefficient new j ≢ 0 → t.0 < j)
    (λ t e. (first_taken old new t c.self.invariant.ordered e).2)
    c.pop_first.ensures.removal
