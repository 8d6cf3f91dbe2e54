use Rattle.witness_rows.proofs.Judging.{RowsMeet}
use Rattle.witness_rows.proofs.rows.test_rows.Given as goal

abbrev pub invariant-loop-row : goal.invariant-loop-row
invariant-loop-row g l = RowsMeet g.row.P l.matrix l.rows l.cocycles l.row
