use Rattle.std.proofs.Common.{◌∙◌, sym, ◌≤◌, ◌⊎◌, length, inl, inr, arith}
use Rattle.cube_sets.proofs.Steps.{meet_less, meet_equal, meet_greater, meet_end}
use Rattle.cube_sets.proofs.sorted.intersection.Goals as goal
use Rattle.cube_sets.proofs.sorted.intersection.Goals.{then-merge-test+else-j-right, else-merge-test}

pub merge-preserved-in-Less : goal.merge-preserved-in-Less
merge-preserved-in-Less g c = record {
  kept = meet_less g.T.Ord.cmp g.met.T.Ord.total c.args.left.now c.args.right.now c.merge.both.items c.merge.i c.merge.j _ _ c.merge-test.true c.if-j-right.true
      c.index-left-i.is c.index-right-j.is (sym c.in-Less.ensures) c.requires.right ∙ c.merge.invariant.kept;
  left = omega arith;
  right = omega arith;
}

pub merge-preserved-in-Equal : goal.merge-preserved-in-Equal
merge-preserved-in-Equal g c = record {
  kept = rw c.in_ok-push-in-Equal.ensures.items
      (meet_equal g.T.Ord.cmp g.met.T.Ord.total c.args.left.now c.args.right.now c.merge.both.items c.merge.i c.merge.j _ _ c.merge-test.true c.if-j-right.true
      c.index-left-i.is c.index-right-j.is (sym c.in-Equal.ensures) c.requires.left ∙ c.merge.invariant.kept);
  left = omega arith;
  right = omega arith;
}

pub merge-preserved : goal.merge-preserved
merge-preserved g c = record {
  kept = meet_greater g.T.Ord.cmp g.met.T.Ord.total c.args.left.now c.args.right.now c.merge.both.items c.merge.i c.merge.j _ _ c.merge-test.true c.if-j-right.true
      c.index-left-i.is c.index-right-j.is (sym c.in-Greater.ensures) c.requires.left ∙ c.merge.invariant.kept;
  left = omega arith;
  right = omega arith;
}

pub returns : goal.returns
returns g c =
    let ends : (length c.args.left.now ≤ c.merge.i) ⊎ (length c.args.right.now ≤ c.merge.j) =
    elim c.merge-test.branch [ then-merge-test+else-j-right w ↦ inr w.if-j-right.false | else-merge-test w ↦ inl w.merge-test.false ] in
    meet_end g.T.Ord.cmp g.met.T.Ord.total c.args.left.now c.args.right.now c.merge.both.items _ c.merge.i c.merge.j ends c.merge.invariant.kept
