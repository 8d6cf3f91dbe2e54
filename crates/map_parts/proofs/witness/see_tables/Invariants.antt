use Rattle.std.proofs.Common.{ℕ, ◌<◌}
use Rattle.leray_conley.specs.Tables.{IsTable}
use Rattle.witness_writing.specs.Runs.{table_at}
use Rattle.map_parts.proofs.witness.see_tables.Given as goal

abbrev pub invariant-loop-place : goal.invariant-loop-place
invariant-loop-place g l = (k : ℕ) → k < l.place → IsTable g.row.P (table_at l.matrices k)
