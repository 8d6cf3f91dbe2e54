use Rattle.std.proofs.Common.{arith}
use Rattle.std.proofs.lemmas.Nat.{one_shl}
use Rattle.word_sweeps.proofs.FreeSlots.{room}
use Rattle.word_sweeps.proofs.slots.with_axis.Goals as goal

pub returns-clause-few : goal.returns-clause-few
returns-clause-few c =
    let p = one_shl c.args.axis 8 (omega arith) in
    let q = room 4 c.args.slot c.args.axis c.requires.slot c.requires.axis c.requires.point in
    omega arith
