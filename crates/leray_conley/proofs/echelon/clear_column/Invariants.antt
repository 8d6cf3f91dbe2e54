use Rattle.std.proofs.Common.{◌≡◌, ◌<◌, ◌≤◌, ◌+◌, ◌*◌, ℕ, length, get_or, []}
use Rattle.field_mod.specs.Modular.{Same, minus}
use Rattle.leray_conley.specs.Echelons.{cell}
use Rattle.leray_conley.proofs.echelon.clear_column.Given as goal

abbrev pub invariant-loop-k : goal.invariant-loop-k
invariant-loop-k g l = record {
  len : length l.rows.items ≡ length l.initial.rows.items;
  widths : (i : ℕ) → i < length l.initial.rows.items → length (get_or l.rows.items i []) ≡ length l.row;
  done : (i j : ℕ) → i < l.k → j < length l.row → Same g.row.P (cell l.rows.items i j) (cell l.initial.rows.items i j + minus g.row.P (cell l.initial.rows.items i l.c) * get_or l.row j 0);
  left : (i : ℕ) → l.k ≤ i → get_or l.rows.items i [] ≡ get_or l.initial.rows.items i [];
}
