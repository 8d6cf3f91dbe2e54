use Rattle.std.proofs.Common.{◌≡◌, ◌<◌, ℕ, length, get_or}
use Rattle.field_mod.specs.Modular.{Same}
use Rattle.leray_conley.specs.Echelons.{along, cell}
use Rattle.leray_conley.specs.Kernels.{IsInKernel}
use Rattle.leray_conley.proofs.echelon.clear_row.Given as goal

abbrev pub invariant-loop-k : goal.invariant-loop-k
invariant-loop-k g l = record {
  len : length l.row ≡ length l.initial.row;
  cleared : (i : ℕ) → i < l.k → Same g.row.P (get_or l.row (get_or l.echelon.pivots.items i 0) 0) 0;
  kernel : (v : ℕ → ℕ) → IsInKernel g.row.P (length l.echelon.rows.items) (length l.initial.row) (cell l.echelon.rows.items) v → Same g.row.P (along (length l.initial.row) (λ j. get_or l.row j 0) v) (along (length l.initial.row) (λ j. get_or l.initial.row j 0) v);
}
