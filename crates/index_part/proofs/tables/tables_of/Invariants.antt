use Rattle.std.proofs.Common.{[]}
use Rattle.induced_map.specs.Matrices.{nth}
use Rattle.index_part.specs.Filled.{IsFilled}
use Rattle.index_part.specs.Tables.{AreRowsOf}
use Rattle.index_part.proofs.tables.tables_of.Given as goal

abbrev pub invariant-loop-matrix : goal.invariant-loop-matrix
invariant-loop-matrix g l = IsFilled [] (λ k. AreRowsOf g.row.P (nth l.matrices k)) l.matrix-index l.tables.items
