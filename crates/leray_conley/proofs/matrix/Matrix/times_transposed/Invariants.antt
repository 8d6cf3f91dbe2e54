use Rattle.std.proofs.Common.{◌%◌}
use Rattle.leray_conley.specs.Products.{product, transpose}
use Rattle.leray_conley.specs.Tables.{entry}
use Rattle.leray_conley.proofs.Filling.{IsFilled}
use Rattle.leray_conley.proofs.matrix.Matrix.times_transposed.Given as goal

abbrev pub invariant-loop-k : goal.invariant-loop-k
invariant-loop-k g l = IsFilled g.row.P l.columns l.k (λ i j. product l.self.columns (entry l.self) (transpose (entry l.other)) i j % g.row.P) l.entries.items
