use Rattle.std.proofs.Common.{length, drop, ◌++◌, ◌-◌, ◌+◌, ◌≡◌, ◌≤◌}
use Rattle.cube_sets.specs.Sorted.{union_of}
use Rattle.cube_sets.proofs.sorted.union.Given as goal

abbrev pub invariant-merge : goal.invariant-merge
invariant-merge g l = record {
  kept : l.all.items ++ union_of g.T.Ord.cmp (drop l.i l.left) (drop l.j l.right) ≡ union_of g.T.Ord.cmp l.left l.right;
  few : length l.all.items ≤ l.limit;
  left : l.i ≤ length l.left;
  right : l.j ≤ length l.right;
}

abbrev pub decreases-merge : goal.decreases-merge
decreases-merge g l = (length l.left - l.i) + (length l.right - l.j)
