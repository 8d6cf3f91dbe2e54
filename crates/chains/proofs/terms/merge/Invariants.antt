use Rattle.std.proofs.Common.{◌+◌, ◌-◌, ◌≤◌, ◌<◌, drop, length}
use Rattle.chains.proofs.Merging.{Merging}
use Rattle.chains.proofs.terms.merge.Given as goal

abbrev pub invariant-both : goal.invariant-both
invariant-both g l = record {
  left_in : l.i ≤ length l.left;
  right_in : l.j ≤ length l.right;
  merging : Merging g.row.P l.scale l.left l.right l.merged.items (drop l.i l.left) (drop l.j l.right);
}

abbrev pub decreases-both : goal.decreases-both
decreases-both g l = (length l.left - l.i) + (length l.right - l.j)

abbrev pub invariant-left : goal.invariant-left
invariant-left g l = record {
  left_in : l.i ≤ length l.left;
  right_in : l.j ≤ length l.right;
  ended : l.i < length l.left → length l.right ≤ l.j;
  merging : Merging g.row.P l.scale l.left l.right l.merged.items (drop l.i l.left) (drop l.j l.right);
}

abbrev pub decreases-left : goal.decreases-left
decreases-left g l = length l.left - l.i

abbrev pub invariant-right : goal.invariant-right
invariant-right g l = record {
  left_in : length l.left ≤ l.i;
  right_in : l.j ≤ length l.right;
  merging : Merging g.row.P l.scale l.left l.right l.merged.items (drop l.i l.left) (drop l.j l.right);
}

abbrev pub decreases-right : goal.decreases-right
decreases-right g l = length l.right - l.j
