use Rattle.leray_conley.specs.Products.{transpose}
use Rattle.leray_conley.specs.Tables.{entry}
use Rattle.leray_conley.proofs.Filling.{IsFilled}
use Rattle.leray_conley.proofs.matrix.Matrix.transposed.Given as goal

abbrev pub invariant-loop-k : goal.invariant-loop-k
invariant-loop-k g l = IsFilled g.row.P l.columns l.k (transpose (entry l.self)) l.entries.items
