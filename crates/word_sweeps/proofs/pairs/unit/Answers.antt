use Rattle.std.proofs.Common.{◌*◌, ◌∙◌, arith}
use Rattle.std.proofs.lemmas.Nat.{one_shl}
use Rattle.word_sweeps.proofs.FreeSlots.{sixteen}
use Rattle.word_sweeps.proofs.pairs.unit.Goals as goal

pub returns-clause-value : goal.returns-clause-value
returns-clause-value c = one_shl (4 * c.args.slot) 64 (omega arith) ∙ sixteen c.args.slot
