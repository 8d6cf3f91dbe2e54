use Rattle.chains.specs.Terms.{coefficient}
use Rattle.algebraic_reduction.proofs.NumbersKept.{taken_more}
use Rattle.algebraic_reduction.proofs.numbers.chain_of.Goals as goal

pub taking-preserved : goal.taking-preserved
taking-preserved g c =
    let e = c.in-Some.ensures in
    taken_more g.row.P c.taking.terms.items c.push.new.self.items c.taking.rest c.take_first.new.self c.in-Some.term (coefficient c.args.numbers) e.number e.others e.later c.in_ok-push.ensures.items c.taking.invariant
