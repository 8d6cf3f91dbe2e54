use Rattle.std.proofs.Common.{length, drop, ◌-◌, ◌+◌, ◌≤◌}
use Rattle.cell_points.proofs.Unions.{Merging}
use Rattle.cell_points.proofs.places.union.Given as goal

abbrev pub invariant-merge : goal.invariant-merge
invariant-merge l = record {
  merging : Merging l.left l.right l.all.items (drop l.i l.left) (drop l.j l.right);
  left : l.i ≤ length l.left;
  right : l.j ≤ length l.right;
}

abbrev pub decreases-merge : goal.decreases-merge
decreases-merge l = (length l.left - l.i) + (length l.right - l.j)
