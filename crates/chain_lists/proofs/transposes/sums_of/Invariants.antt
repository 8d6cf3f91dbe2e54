use Rattle.chain_lists.proofs.Gathering.{SumsTo}
use Rattle.chain_lists.proofs.transposes.sums_of.Given as goal

abbrev pub invariant-loop-place : goal.invariant-loop-place
invariant-loop-place g l = SumsTo g.row.P l.gathered l.rows.items l.place
