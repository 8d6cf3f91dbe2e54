use Rattle.std.proofs.Common.{arith}
use Rattle.field_mod.proofs.Table.{two_le}
use Rattle.chains.proofs.Merging.{merge_left_at, merge_right_at, merge_both_at, merge_end_at}
use Rattle.chains.proofs.terms.merge.Goals as goal

pub both-preserved-then-left-i : goal.both-preserved-then-left-i
both-preserved-then-left-i g c = record {
  left_in = omega arith;
  right_in = omega arith;
  merging = merge_left_at _ _ _ _ _ _ _ _ c.both.invariant.merging (omega arith) (λ l. c.if-left-i.true) c.in_ok-push_term.ensures;
}

pub both-preserved-then-right-j : goal.both-preserved-then-right-j
both-preserved-then-right-j g c = record {
  left_in = omega arith;
  right_in = omega arith;
  merging = merge_right_at _ _ _ _ _ _ _ _ _ (omega (arith, two_le g.row.P c.args.field.listed)) c.both.invariant.merging c.if-j-right.true (λ l. c.if-right-j.true) c.mul.ensures.value c.in_ok-push_term-2.ensures;
}

pub both-preserved : goal.both-preserved
both-preserved g c = record {
  left_in = omega arith;
  right_in = omega arith;
  merging = merge_both_at _ _ _ _ _ _ _ _ _ _ (omega (arith, two_le g.row.P c.args.field.listed)) c.both.invariant.merging (omega arith) c.if-j-right.true (omega arith) c.mul-else-right-j.ensures.value c.add-number.ensures.value c.in_ok-push_term-3.ensures;
}

pub left-preserved : goal.left-preserved
left-preserved g c = record {
  left_in = omega arith;
  right_in = omega arith;
  ended = λ l. c.left.invariant.ended (omega arith);
  merging = merge_left_at _ _ _ _ _ _ _ _ c.left.invariant.merging (omega arith) (λ l. let e = c.left.invariant.ended c.left-test.true in absurd (omega arith)) c.in_ok-push_term-4.ensures;
}

pub right-preserved : goal.right-preserved
right-preserved g c = record {
  left_in = omega arith;
  right_in = omega arith;
  merging = merge_right_at _ _ _ _ _ _ _ _ _ (omega (arith, two_le g.row.P c.args.field.listed)) c.right.invariant.merging c.right-test.true (λ l. let h = c.left-test.false in absurd (omega arith)) c.mul-in-right.ensures.value c.in_ok-push_term-5.ensures;
}

pub returns-clause-normal : goal.returns-clause-normal
returns-clause-normal g c = (merge_end_at _ _ _ _ _ _ _ (omega (arith, two_le g.row.P c.args.field.listed)) c.right.invariant.merging c.right.invariant.left_in c.right-test.false).0

pub returns-clause-sum : goal.returns-clause-sum
returns-clause-sum g c = (merge_end_at _ _ _ _ _ _ _ (omega (arith, two_le g.row.P c.args.field.listed)) c.right.invariant.merging c.right.invariant.left_in c.right-test.false).1
