use Rattle.leray_conley.specs.Splitting.{beside}
use Rattle.leray_conley.specs.Tables.{entry}
use Rattle.leray_conley.proofs.Filling.{IsFilled}
use Rattle.leray_conley.proofs.matrix.Matrix.side_by_side.Given as goal

abbrev pub invariant-loop-k : goal.invariant-loop-k
invariant-loop-k g l = IsFilled g.row.P l.columns l.k (beside l.self.columns (entry l.self) (entry l.other)) l.entries.items
