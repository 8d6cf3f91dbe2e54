use Rattle.std.proofs.Common.{◌+◌}
use Rattle.leray_conley.specs.Echelons.{IsReduction}
use Rattle.leray_conley.specs.Products.{identity}
use Rattle.leray_conley.specs.Splitting.{beside}
use Rattle.leray_conley.specs.Tables.{entry}
use Rattle.leray_conley.proofs.matrix.Matrix.reduce.Given as goal

abbrev pub invariant-loop-i : goal.invariant-loop-i
invariant-loop-i g l = IsReduction g.row.P (l.self.columns + l.extra) l.i (beside l.self.columns (entry l.self) identity) l.echelon.rows.items l.echelon.pivots.items
