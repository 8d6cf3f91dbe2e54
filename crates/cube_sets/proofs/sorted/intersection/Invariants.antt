use Rattle.std.proofs.Common.{length, drop, ◌++◌, ◌-◌, ◌+◌, ◌≡◌, ◌≤◌}
use Rattle.cube_sets.specs.Sorted.{intersection_of}
use Rattle.cube_sets.proofs.sorted.intersection.Given as goal

abbrev pub invariant-merge : goal.invariant-merge
invariant-merge g l = record {
  kept : l.both.items ++ intersection_of g.T.Ord.cmp (drop l.i l.left) (drop l.j l.right) ≡ intersection_of g.T.Ord.cmp l.left l.right;
  left : l.i ≤ length l.left;
  right : l.j ≤ length l.right;
}

abbrev pub decreases-merge : goal.decreases-merge
decreases-merge g l = (length l.left - l.i) + (length l.right - l.j)
