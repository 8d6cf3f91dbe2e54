use Rattle.chain_files.proofs.Counting.{Counts}
use Rattle.chain_files.proofs.making.counts_of.Given as goal

abbrev pub invariant-loop-place : goal.invariant-loop-place
invariant-loop-place l = Counts l.degrees l.place l.top l.counts.items
