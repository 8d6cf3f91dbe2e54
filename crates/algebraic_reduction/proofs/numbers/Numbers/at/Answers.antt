use Rattle.std.proofs.Common.{arith, ap, ◌∙◌, ℕ, List}
use Rattle.chains.specs.Terms.{coefficient}
use Rattle.algebraic_reduction.proofs.NumbersKept.{read, read_below}
use Rattle.algebraic_reduction.proofs.numbers.Numbers.at.Goals as goal

pub returns-clause-value : goal.returns-clause-value
returns-clause-value g c = read c.self.inside.kept c.args.place c.unwrap_or.result c.copied.result c.self.invariant.ordered c.unwrap_or.ensures (c.copied.ensures ∙ c.get.ensures.value) ∙ ap (λ (es : List (ℕ × ℕ)). coefficient es c.args.place) c.self.view_is

pub returns-clause-below : goal.returns-clause-below
returns-clause-below g c =
    let q = read c.self.inside.kept c.args.place c.unwrap_or.result c.copied.result c.self.invariant.ordered c.unwrap_or.ensures (c.copied.ensures ∙ c.get.ensures.value) in
    let b = read_below g.row.P c.self.inside.kept c.args.place c.self.invariant.positive c.self.invariant.ordered c.self.invariant.numbers in
    omega arith
