use Rattle.std.proofs.Common.{◌≡◌, ◌<◌, ℕ, length, get_or}
use Rattle.field_mod.specs.Modular.{Same}
use Rattle.leray_conley.specs.Echelons.{cell, kernel_matrix}
use Rattle.leray_conley.proofs.echelon.Echelon.kernel_column.Given as goal

abbrev pub invariant-loop-k : goal.invariant-loop-k
invariant-loop-k g l = record {
  len : length l.vector.items ≡ l.n;
  below : (j : ℕ) → j < l.n → get_or l.vector.items j 0 < g.row.P;
  value : (j : ℕ) → j < l.n → Same g.row.P (get_or l.vector.items j 0) (kernel_matrix g.row.P l.k (cell l.self.rows.items) (λ i. get_or l.self.pivots.items i 0) j l.c);
}
