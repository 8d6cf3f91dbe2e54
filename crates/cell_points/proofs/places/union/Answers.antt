use Rattle.std.proofs.Common.{arith, sym}
use Rattle.cell_points.proofs.Unions.{at_less, at_equal, at_greater}
use Rattle.cell_points.proofs.places.union.Goals as goal

pub merge-preserved-in-Less : goal.merge-preserved-in-Less
merge-preserved-in-Less c = record {
  merging = rw c.in_ok-push-in-Less.ensures.items
      (at_less c.args.left.now c.args.right.now c.merge.all.items c.merge.i c.merge.j _ _ c.merge-test.true c.if-j-right.true c.index-left-i.is c.index-right-j.is c.merge.invariant.merging (sym c.in-Less.ensures));
  left = omega arith;
  right = omega arith;
}

pub merge-preserved-in-Equal : goal.merge-preserved-in-Equal
merge-preserved-in-Equal c = record {
  merging = rw c.in_ok-push-in-Equal.ensures.items
      (at_equal c.args.left.now c.args.right.now c.merge.all.items c.merge.i c.merge.j _ _ c.merge-test.true c.if-j-right.true c.index-left-i.is c.index-right-j.is c.merge.invariant.merging (sym c.in-Equal.ensures));
  left = omega arith;
  right = omega arith;
}

pub merge-preserved : goal.merge-preserved
merge-preserved c = record {
  merging = rw c.in_ok-push-in-Greater.ensures.items
      (at_greater c.args.left.now c.args.right.now c.merge.all.items c.merge.i c.merge.j _ _ c.merge-test.true c.if-j-right.true c.index-left-i.is c.index-right-j.is c.merge.invariant.merging (sym c.in-Greater.ensures));
  left = omega arith;
  right = omega arith;
}
