use Rattle.std.proofs.Common.{arith, ap, length, length-append}
use Rattle.chain_selector.proofs.Reading.{none_more}
use Rattle.chain_selector.proofs.selector.no_images.Goals as goal

pub loop-index-preserved : goal.loop-index-preserved
loop-index-preserved g c = record {
  count = omega (arith, simp length-append at (ap length c.in_ok-push.ensures.items), c.loop-index.invariant.count);
  none = none_more _ _ c.loop-index.invariant.none c.in_ok-push.ensures.items;
}
