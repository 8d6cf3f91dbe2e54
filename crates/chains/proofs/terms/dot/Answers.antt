use Rattle.std.proofs.Common.{arith, refl}
use Rattle.field_mod.proofs.Table.{two_le}
use Rattle.chains.proofs.Dotting.{dot_start, dot_left_at, dot_right_at, dot_both_at, dot_left_number, dot_right_number, dot_ended, dot_ended_right}
use Rattle.chains.proofs.terms.dot.Goals as goal

pub both-init : goal.both-init
both-init g c = dot_start _ _ _ _ c.requires.left c.requires.right refl (omega (arith, two_le g.row.P c.args.field.listed))

pub both-preserved-then-left-i : goal.both-preserved-then-left-i
both-preserved-then-left-i g c = dot_left_at _ _ _ _ _ _ c.both.invariant c.both-test.true c.if-j-right.true c.if-left-i.true

pub both-preserved-then-right-j : goal.both-preserved-then-right-j
both-preserved-then-right-j g c = dot_right_at _ _ _ _ _ _ c.both.invariant c.both-test.true c.if-j-right.true c.if-right-j.true

pub mul-requires : goal.mul-requires
mul-requires g c = ((omega arith), (dot_left_number _ _ _ _ _ _ c.both.invariant c.both-test.true, dot_right_number _ _ _ _ _ _ c.both.invariant c.if-j-right.true))

pub add-sum-requires : goal.add-sum-requires
add-sum-requires g c = ((omega arith), (c.both.invariant.below, c.mul.ensures.below))

pub both-preserved : goal.both-preserved
both-preserved g c = dot_both_at _ _ _ _ _ _ _ _ c.both.invariant c.both-test.true c.if-j-right.true (omega arith) c.mul.ensures.value c.add-sum.ensures.value c.add-sum.ensures.below

pub returns-else-j-right-clause-value : goal.returns-else-j-right-clause-value
returns-else-j-right-clause-value g c = dot_ended_right _ _ _ _ _ _ c.both.invariant c.if-j-right.false

pub returns-after-both-clause-value : goal.returns-after-both-clause-value
returns-after-both-clause-value g c = dot_ended _ _ _ _ _ _ c.both.invariant c.both-test.false
