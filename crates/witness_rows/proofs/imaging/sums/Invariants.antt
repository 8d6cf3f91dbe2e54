use Rattle.witness_rows.proofs.Imaged.{SumsTo}
use Rattle.witness_rows.proofs.imaging.sums.Given as goal

abbrev pub invariant-loop-place : goal.invariant-loop-place
invariant-loop-place g l = SumsTo g.row.P l.images l.cycles l.all.items l.place
