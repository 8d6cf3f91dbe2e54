use Rattle.std.proofs.Common.{arith, ◌<◌, length}
use Rattle.chain_lists.proofs.Gathering.{column_next, column_skip}
use Rattle.chain_lists.proofs.transposes.put_column.Goals as goal
use Rattle.chain_lists.proofs.transposes.put_column.Goals.{then-generator-len+in_ok-push, else-generator-len}

pub loop-index-preserved : goal.loop-index-preserved
loop-index-preserved g c =
    let l : c.loop-index.index < length c.args.chain.now = omega (arith, c.loop-index-test.true, c.len-index-end.ensures.count) in
    let t = c.term-generator.result in
    let e = c.term-generator.ensures.value in
    elim c.if-generator-len.branch [
      | then-generator-len+in_ok-push w ↦ rw w.gathered-is (column_next c.args.column c.args.chain.now c.args.gathered.now c.loop-index.gathered w.push.new.self t c.loop-index.index l e w.in_ok-push.ensures.count w.in_ok-push.ensures.here w.in_ok-push.ensures.others c.loop-index.invariant)
      | else-generator-len w ↦ rw w.gathered-is (column_skip c.args.column c.args.chain.now c.args.gathered.now c.loop-index.gathered t c.loop-index.index l e (omega (arith, w.if-generator-len.false, c.len.ensures)) c.loop-index.invariant)
    ]
