use Rattle.induced_map.specs.Matrices.{nth}
use Rattle.index_part.specs.Filled.{IsFilled}
use Rattle.index_part.specs.Tables.{IsRankOf}
use Rattle.index_part.proofs.tables.ranks_of.Given as goal

abbrev pub invariant-loop-matrix : goal.invariant-loop-matrix
invariant-loop-matrix g l = IsFilled 0 (λ k. IsRankOf g.row.P (nth l.matrices k)) l.matrix-index l.ranks.items
