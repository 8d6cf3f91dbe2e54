use Rattle.chain_lists.proofs.Gathering.{ColumnsTo}
use Rattle.chain_lists.proofs.transposes.transposed.Given as goal

abbrev pub invariant-loop-place : goal.invariant-loop-place
invariant-loop-place g l = ColumnsTo l.count l.chains l.gathered l.place
