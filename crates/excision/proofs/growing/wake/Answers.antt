use Rattle.std.proofs.Common.{◌≡◌, ℕ, List, sym, arith, true, get_or, subst}
use Rattle.std.specs.List.{Contains}
use Rattle.excision.specs.Left.{is_one_of}
use Rattle.excision.specs.Owners.{Names}
use Rattle.excision.proofs.Moved.{up_to}
use Rattle.excision.proofs.Parted.{at_all, place_in}
use Rattle.excision.proofs.growing.wake.Goals as goal

pub of_number-requires : goal.of_number-requires
of_number-requires c = c.requires (get_or c.args.numbers.now c.loop-number.number-index 0) (place_in c.args.numbers.now c.loop-number.number-index c.loop-number-test.true)

pub loop-number-preserved : goal.loop-number-preserved
loop-number-preserved c = record {
  kept = λ j h. c.in_ok-wake_all.ensures.kept j (c.loop-number.invariant.kept j h);
  woken = λ k j l w. up_to (λ m. Names c.args.owners.now (get_or c.args.numbers.now m 0) j → is_one_of c.wake_all.new.waiting j ≡ true) c.loop-number.number-index k l
      (λ lt v. c.in_ok-wake_all.ensures.kept j (c.loop-number.invariant.woken k j lt v))
      (λ v. c.in_ok-wake_all.ensures.woken j (subst (λ (ns : List ℕ). Contains ns j) (sym c.of_number.ensures) v))
      w;
}

pub returns-clause-woken : goal.returns-clause-woken
returns-clause-woken c n j w = at_all (λ m. Names c.args.owners.now m j → is_one_of c.loop-number.waiting j ≡ true) c.args.numbers.now c.loop-number.number-index (omega arith) (λ k l v. c.loop-number.invariant.woken k j l v) n w
