use Rattle.std.proofs.Common.{◌∙◌}
use Rattle.map_reading.proofs.Stages.{counted, passed}
use Rattle.map_reading.proofs.matrices.count_in.Goals as goal
use Rattle.map_reading.proofs.matrices.count_in.Goals.{then-cycles-place+in_ok-count, else-cycles-place}

pub loop-place-preserved : goal.loop-place-preserved
loop-place-preserved g c =
    elim c.if-cycles-place.branch [
      | then-cycles-place+in_ok-count w ↦
          w.count-is ∙ w.in_ok-count.ensures.1 ∙ counted c.args.degree c.args.cycles.now c.loop-place.place c.loop-place.count c.index-cycles-place.result c.loop-place-test.true w.if-cycles-place.true c.loop-place.invariant
      | else-cycles-place w ↦
          w.count-is ∙ passed c.args.degree c.args.cycles.now c.loop-place.place c.loop-place.count c.index-cycles-place.result c.loop-place-test.true w.if-cycles-place.false c.loop-place.invariant
    ]
