use Rattle.std.proofs.Common.{arith}
use Rattle.std.proofs.lemmas.Nat.{one_shl}
use Rattle.word_sweeps.proofs.FreeSlots.{pow_four}
use Rattle.word_sweeps.proofs.slots.slots.Goals as goal

pub returns-clause-few : goal.returns-clause-few
returns-clause-few c = let p = one_shl c.args.axes 8 (omega arith) in let q = pow_four c.args.axes c.requires in omega arith
