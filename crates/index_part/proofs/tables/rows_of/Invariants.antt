use Rattle.std.proofs.Common.{[], map}
use Rattle.index_part.specs.Filled.{IsFilled}
use Rattle.index_part.specs.Tables.{IsRowOf}
use Rattle.index_part.proofs.tables.rows_of.Given as goal

abbrev pub invariant-loop-i : goal.invariant-loop-i
invariant-loop-i g l = IsFilled [] (IsRowOf g.row.P l.matrix) l.i (map (λ row. row.items) l.rows.items)
