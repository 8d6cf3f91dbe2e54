use Rattle.std.proofs.Common.{◌<◌, ◌≢◌, ℕ, get_or}
use Rattle.leray_conley.proofs.echelon.Echelon.row_of.Given as goal

abbrev pub invariant-loop-k : goal.invariant-loop-k
invariant-loop-k g l = (q : ℕ) → q < l.k → get_or l.self.pivots.items q 0 ≢ l.column
