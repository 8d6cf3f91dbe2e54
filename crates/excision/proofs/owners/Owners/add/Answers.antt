use Rattle.std.proofs.Common.{◌<◌, length, get_or, arith}
use Rattle.excision.specs.Owners.{Names}
use Rattle.excision.proofs.Moved.{up_to}
use Rattle.excision.proofs.Parted.{at_all}
use Rattle.excision.proofs.owners.Owners.add.Goals as goal

pub loop-number-preserved : goal.loop-number-preserved
loop-number-preserved c = record {
  count = omega (arith, c.in_ok-push.ensures.count, c.loop-number.invariant.count);
  kept = λ n j w. c.in_ok-push.ensures.kept n j (c.loop-number.invariant.kept n j w);
  added = λ k l small. up_to (λ m. get_or c.args.numbers.now m 0 < length c.args.self.now → Names c.push.new.self (get_or c.args.numbers.now m 0) c.args.member) c.loop-number.number-index k l
      (λ lt s. c.in_ok-push.ensures.kept (get_or c.args.numbers.now k 0) c.args.member (c.loop-number.invariant.added k lt s))
      (λ s. c.in_ok-push.ensures.added)
      small;
}

pub returns-clause-added : goal.returns-clause-added
returns-clause-added c n w small = at_all (λ m. m < length c.args.self.now → Names c.loop-number.self m c.args.member) c.args.numbers.now c.loop-number.number-index (omega arith) c.loop-number.invariant.added n w small
