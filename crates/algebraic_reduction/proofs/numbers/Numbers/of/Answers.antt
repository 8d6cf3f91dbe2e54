use Rattle.std.proofs.Common.{arith, ◌<◌, length}
use Rattle.algebraic_reduction.proofs.NumbersKept.{filled_more}
use Rattle.algebraic_reduction.proofs.numbers.Numbers.of.Goals as goal

pub loop-index-preserved : goal.loop-index-preserved
loop-index-preserved g c =
    let l : c.loop-index.index < length c.args.chain.now = omega (arith, c.loop-index-test.true, c.len-index-end.ensures.count) in
    filled_more g.row.P c.args.chain.now c.loop-index.numbers c.add.new.self c.loop-index.index c.term-place.result l c.term-place.ensures.value c.loop-index.invariant c.in_ok-add.ensures.sum
