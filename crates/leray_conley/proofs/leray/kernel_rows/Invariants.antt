use Rattle.std.proofs.Common.{◌≡◌, ◌+◌, ◌*◌, ◌<◌, ℕ, length, get_or}
use Rattle.field_mod.specs.Modular.{Same}
use Rattle.leray_conley.specs.Echelons.{cell, kernel_matrix}
use Rattle.leray_conley.proofs.leray.kernel_rows.Given as goal

abbrev pub invariant-loop-t : goal.invariant-loop-t
invariant-loop-t g l = record {
  count : length l.entries.items ≡ l.t * l.size;
  below : (q : ℕ) → q < length l.entries.items → get_or l.entries.items q 0 < g.row.P;
  value : (q i : ℕ) → q < l.t → i < l.size → Same g.row.P (get_or l.entries.items (q * l.size + i) 0) (kernel_matrix g.row.P (length l.echelon.rows.items) (cell l.echelon.rows.items) (λ k. get_or l.echelon.pivots.items k 0) i (get_or l.free q 0));
}
