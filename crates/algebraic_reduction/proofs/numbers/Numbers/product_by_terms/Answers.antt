use Rattle.std.proofs.Common.{arith, ◌<◌, length}
use Rattle.algebraic_reduction.proofs.NumbersKept.{product_more}
use Rattle.algebraic_reduction.proofs.numbers.Numbers.product_by_terms.Goals as goal

pub loop-index-preserved : goal.loop-index-preserved
loop-index-preserved g c =
    let l : c.loop-index.index < length c.args.chain.now = omega (arith, c.loop-index-test.true, c.len-index-end.ensures.count) in
    record {
      below = c.add-sum.ensures.below;
      value = product_more g.row.P c.loop-index.sum c.add-sum.result c.mul.result c.at.result c.loop-index.index c.args.chain.now c.args.self.now c.term-place.result l c.term-place.ensures.value c.at.ensures.value c.mul.ensures.value c.add-sum.ensures.value c.loop-index.invariant.value;
    }
