use Rattle.report.proofs.MoreLines.{cycle_more}
use Rattle.report.proofs.lines.put_cycles.Goals as goal

pub loop-place-preserved : goal.loop-place-preserved
loop-place-preserved g c = cycle_more g.G.Generator.text c.args.degree c.loop-place.place c.args.cycles.now c.index-cycles-place.result _ _ _ c.loop-place-test.true c.index-cycles-place.is (c.in_ok-put_cycle_line.ensures) c.loop-place.invariant
