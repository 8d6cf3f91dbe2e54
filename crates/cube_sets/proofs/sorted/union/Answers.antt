use Rattle.std.proofs.Common.{◌≡◌, ◌∙◌, sym, ap, ◌++◌, ◌≤◌, ◌<◌, ◌⊎◌, length, drop, inl, inr, arith, length-append}
use Rattle.cube_sets.specs.Sorted.{union_of}
use Rattle.cube_sets.proofs.Steps.{merge_less, merge_equal, merge_greater, longer, rest_is}
use Rattle.cube_sets.proofs.sorted.union.Goals as goal
use Rattle.cube_sets.proofs.sorted.union.Goals.{then-merge-test+else-j-right, else-merge-test}

pub returns-then-len-limit-clause-more : goal.returns-then-len-limit-clause-more
returns-then-len-limit-clause-more g c =
    let l : length c.merge.all.items < length (union_of g.T.Ord.cmp c.args.left.now c.args.right.now) =
    longer g.T.Ord.cmp g.met.T.Ord.total (drop c.merge.i c.args.left.now) c.args.right.now c.merge.all.items _ c.merge.j c.if-j-right.true c.merge.invariant.kept in
    omega arith

pub merge-preserved-in-Less : goal.merge-preserved-in-Less
merge-preserved-in-Less g c = record {
  kept = rw c.in_ok-push-in-Less.ensures.items
      (merge_less g.T.Ord.cmp g.met.T.Ord.total c.args.left.now c.args.right.now c.merge.all.items c.merge.i c.merge.j _ _ c.merge-test.true c.if-j-right.true
      c.index-left-i.is c.index-right-j.is (sym c.in-Less.ensures) c.requires.left c.requires.right ∙ c.merge.invariant.kept);
  few = rw c.in_ok-push-in-Less.ensures.items (omega (arith, length-append c.merge.all.items));
  left = omega arith;
  right = omega arith;
}

pub merge-preserved-in-Equal : goal.merge-preserved-in-Equal
merge-preserved-in-Equal g c = record {
  kept = rw c.in_ok-push-in-Equal.ensures.items
      (merge_equal g.T.Ord.cmp g.met.T.Ord.total c.args.left.now c.args.right.now c.merge.all.items c.merge.i c.merge.j _ _ c.merge-test.true c.if-j-right.true
      c.index-left-i.is c.index-right-j.is (sym c.in-Equal.ensures) c.requires.left c.requires.right ∙ c.merge.invariant.kept);
  few = rw c.in_ok-push-in-Equal.ensures.items (omega (arith, length-append c.merge.all.items));
  left = omega arith;
  right = omega arith;
}

pub merge-preserved : goal.merge-preserved
merge-preserved g c = record {
  kept = rw c.in_ok-push-in-Greater.ensures.items
      (merge_greater g.T.Ord.cmp g.met.T.Ord.total c.args.left.now c.args.right.now c.merge.all.items c.merge.i c.merge.j _ _ c.merge-test.true c.if-j-right.true
      c.index-left-i.is c.index-right-j.is (sym c.in-Greater.ensures) c.requires.left c.requires.right ∙ c.merge.invariant.kept);
  few = rw c.in_ok-push-in-Greater.ensures.items (omega (arith, length-append c.merge.all.items));
  left = omega arith;
  right = omega arith;
}

pub returns-then-limit-len-clause-more : goal.returns-then-limit-len-clause-more
returns-then-limit-len-clause-more g c =
    let ends : (length c.args.left.now ≤ c.merge.i) ⊎ (length c.args.right.now ≤ c.merge.j) =
    elim c.merge-test.branch [ then-merge-test+else-j-right w ↦ inr w.if-j-right.false | else-merge-test w ↦ inl w.merge-test.false ] in
    let is : c.merge.all.items ++ c.rest_of-rest.result.now ≡ union_of g.T.Ord.cmp c.args.left.now c.args.right.now =
    rest_is g.T.Ord.cmp g.met.T.Ord.total c.args.left.now c.args.right.now c.merge.all.items _ _ c.merge.i c.merge.j ends c.requires.left c.rest_of-rest.ensures.left c.rest_of-rest.ensures.right c.merge.invariant.kept in
    omega (arith, ap length is, length-append c.merge.all.items c.rest_of-rest.result.now)

pub returns-clause-all : goal.returns-clause-all
returns-clause-all g c =
    let ends : (length c.args.left.now ≤ c.merge.i) ⊎ (length c.args.right.now ≤ c.merge.j) =
    elim c.merge-test.branch [ then-merge-test+else-j-right w ↦ inr w.if-j-right.false | else-merge-test w ↦ inl w.merge-test.false ] in
    let is : c.merge.all.items ++ c.rest_of-rest.result.now ≡ union_of g.T.Ord.cmp c.args.left.now c.args.right.now =
    rest_is g.T.Ord.cmp g.met.T.Ord.total c.args.left.now c.args.right.now c.merge.all.items _ _ c.merge.i c.merge.j ends c.requires.left c.rest_of-rest.ensures.left c.rest_of-rest.ensures.right c.merge.invariant.kept in
    (c.in_ok-extend_from_slice.ensures.items ∙ is, omega (arith, c.in_ok-extend_from_slice.ensures.len))
