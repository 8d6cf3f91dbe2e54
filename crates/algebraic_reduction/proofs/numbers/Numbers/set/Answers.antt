use Rattle.std.proofs.Common.{ap, ◌∙◌, sym, ℕ, List, Some, None}
use Rattle.chains.specs.Terms.{coefficient}
use Rattle.algebraic_reduction.proofs.NumbersKept.{changed_here, changed_other}
use Rattle.algebraic_reduction.proofs.numbers.Numbers.set.Goals as goal

pub returns-then-number-eq0-clause-here : goal.returns-then-number-eq0-clause-here
returns-then-number-eq0-clause-here g c = changed_here c.self.inside.kept c.remove.new.self c.args.place None c.remove.ensures.ordered c.remove.ensures.updates ∙ sym c.if-number-eq0.true

pub returns-then-number-eq0-clause-others : goal.returns-then-number-eq0-clause-others
returns-then-number-eq0-clause-others g c j f = changed_other c.self.inside.kept c.remove.new.self c.args.place j None c.self.invariant.ordered c.remove.ensures.ordered c.remove.ensures.updates f ∙ ap (λ (es : List (ℕ × ℕ)). coefficient es j) c.self.view_is

pub returns-in_ok-insert-clause-here : goal.returns-in_ok-insert-clause-here
returns-in_ok-insert-clause-here g c = changed_here c.self.inside.kept c.insert.new.self c.args.place (Some c.args.number) c.in_ok-insert.ensures.ordered c.in_ok-insert.ensures.updates

pub returns-in_ok-insert-clause-others : goal.returns-in_ok-insert-clause-others
returns-in_ok-insert-clause-others g c j f = changed_other c.self.inside.kept c.insert.new.self c.args.place j (Some c.args.number) c.self.invariant.ordered c.in_ok-insert.ensures.ordered c.in_ok-insert.ensures.updates f ∙ ap (λ (es : List (ℕ × ℕ)). coefficient es j) c.self.view_is
