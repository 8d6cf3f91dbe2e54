use Rattle.std.proofs.Common.{arith, refl, get_or}
use Rattle.chain_files.proofs.Counting.{counts_more, counts_skip}
use Rattle.chain_files.proofs.making.counts_of.Goals.{then-degree-len, else-degree-len}
use Rattle.chain_files.proofs.making.counts_of.Goals as goal

pub loop-place-preserved : goal.loop-place-preserved
loop-place-preserved c =
    let degree = get_or c.args.degrees.now c.loop-place.place 0 in
    elim c.if-degree-len.branch [
      | then-degree-len w ↦
          let more = counts_more c.args.degrees.now c.loop-place.place c.args.top c.loop-place.counts.items c.loop-place.invariant c.loop-place-test.true degree refl
          w.index_mut.result.now w.index_mut.ensures.value (omega (arith, w.if-degree-len.true, c.len.ensures)) in
          rw w.counts-is more
      | else-degree-len w ↦
          let skip = counts_skip c.args.degrees.now c.loop-place.place c.args.top c.loop-place.counts.items c.loop-place.invariant c.loop-place-test.true degree refl
          (omega (arith, w.if-degree-len.false, c.len.ensures)) in
          rw w.counts-is skip
    ]
