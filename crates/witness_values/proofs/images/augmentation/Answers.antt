use Rattle.std.proofs.Common.{arith}
use Rattle.witness_values.proofs.Imaging.{augmentation_more}
use Rattle.witness_values.proofs.images.augmentation.Goals as goal

pub loop-place-preserved : goal.loop-place-preserved
loop-place-preserved g c = record {
  below = c.add-sum.ensures.below;
  value = augmentation_more g.row.P c.args.chain.now c.term-number.result c.loop-place.place c.loop-place.sum c.add-sum.result (omega (arith, c.loop-place-test.true, c.len-place-end.ensures.count)) c.term-number.ensures.value c.loop-place.invariant.value c.add-sum.ensures.value;
}
