use Rattle.std.proofs.Common.{ap, ◌∙◌, ◌+◌, ◌%◌}
use Rattle.algebraic_reduction.proofs.NumbersKept.{added}
use Rattle.algebraic_reduction.proofs.numbers.Numbers.add.Goals as goal

pub returns-clause-sum : goal.returns-clause-sum
returns-clause-sum g c = added g.row.P c.args.place c.args.number c.add-sum.result c.args.self.now c.set.new.self (c.add-sum.ensures.value ∙ ap (λ v. (v + c.args.number) % g.row.P) c.at.ensures.value) c.in_ok-set.ensures.here c.in_ok-set.ensures.others
