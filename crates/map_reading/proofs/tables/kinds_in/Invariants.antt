use Rattle.map_lines.proofs.KindTables.{AreKindsOf}
use Rattle.map_reading.proofs.tables.kinds_in.Given as goal

abbrev pub invariant-loop-cell : goal.invariant-loop-cell
invariant-loop-cell l = AreKindsOf l.all l.value l.cell l.place l.kinds.items
