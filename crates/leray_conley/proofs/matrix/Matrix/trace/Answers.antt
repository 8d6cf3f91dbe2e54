use Rattle.std.proofs.Common.{ℕ}
use Rattle.leray_conley.specs.Tables.{entry}
use Rattle.leray_conley.proofs.Totals.{total_next}
use Rattle.leray_conley.proofs.matrix.Matrix.trace.Goals as goal

pub loop-i-preserved : goal.loop-i-preserved
loop-i-preserved g c = record { below = c.add-sum.ensures.below; value = total_next g.row.P c.loop-i.i c.loop-i.sum c.add-sum.result (λ (i : ℕ). entry c.args.self.now i i) c.loop-i.invariant.value (cc) }
