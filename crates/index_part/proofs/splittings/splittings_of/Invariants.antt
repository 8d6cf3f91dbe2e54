use Rattle.induced_map.specs.Matrices.{nth}
use Rattle.index_part.specs.Filled.{IsFilled}
use Rattle.index_part.specs.Made.{AreLerayRowsOf}
use Rattle.index_part.specs.Right.{no_leray}
use Rattle.index_part.proofs.splittings.splittings_of.Given as goal

abbrev pub invariant-loop-matrix : goal.invariant-loop-matrix
invariant-loop-matrix g l = IsFilled no_leray (λ k. AreLerayRowsOf g.row.P (nth l.matrices k)) l.matrix-index l.all.items
