use Rattle.std.proofs.Common.{◌+◌}
use Rattle.leray_conley.specs.Products.{identity}
use Rattle.leray_conley.specs.Rows.{IsRowOf}
use Rattle.leray_conley.specs.Splitting.{beside}
use Rattle.leray_conley.specs.Tables.{entry}
use Rattle.leray_conley.proofs.matrix.Matrix.widened_row.Given as goal

abbrev pub invariant-loop-j : goal.invariant-loop-j
invariant-loop-j g l = IsRowOf (l.self.columns + l.j) (beside l.self.columns (entry l.self) identity l.i) l.row
