use Rattle.chain_lists.proofs.Gathering.{ColumnTo}
use Rattle.chain_lists.proofs.transposes.put_column.Given as goal

abbrev pub invariant-loop-index : goal.invariant-loop-index
invariant-loop-index g l = ColumnTo l.column l.chain l.initial.gathered l.gathered l.index
