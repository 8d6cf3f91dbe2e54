use Rattle.std.proofs.Common.{◌≡◌, arith, true}
use Rattle.excision.specs.Left.{is_one_of}
use Rattle.excision.proofs.Parted.{at_all}
use Rattle.excision.proofs.growing.wake_all.Goals as goal

pub returns-clause-woken : goal.returns-clause-woken
returns-clause-woken c = at_all (λ j. is_one_of c.loop-member.waiting j ≡ true) c.args.members.now c.loop-member.member-index (omega arith) c.loop-member.invariant.woken
