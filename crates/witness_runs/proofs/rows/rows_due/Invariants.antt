use Rattle.witness_runs.specs.Rows.{HasRows}
use Rattle.witness_runs.proofs.rows.rows_due.Given as goal

abbrev pub invariant-loop-line : goal.invariant-loop-line
invariant-loop-line l = HasRows l.modulus l.degree l.width l.line l.bytes l.entries.items l.rest
