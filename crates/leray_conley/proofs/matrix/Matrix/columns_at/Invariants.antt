use Rattle.std.proofs.Common.{get_or}
use Rattle.leray_conley.specs.Tables.{entry}
use Rattle.leray_conley.proofs.Filling.{IsFilled}
use Rattle.leray_conley.proofs.matrix.Matrix.columns_at.Given as goal

abbrev pub invariant-loop-k : goal.invariant-loop-k
invariant-loop-k g l = IsFilled g.row.P l.width l.k (λ i k. entry l.self i (get_or l.places k 0)) l.entries.items
