use Rattle.report.specs.ReportText.{shown_cycles}
use Rattle.report.proofs.MoreLines.{degree_more}
use Rattle.report.proofs.lines.put_groups.Goals as goal

pub loop-degree-preserved : goal.loop-degree-preserved
loop-degree-preserved g c = degree_more g.G.Generator.text c.args.shown.now.modulus c.loop-degree.degree c.args.dimensions.now (shown_cycles c.args.shown.now c.args.cycles.now) c.printed_in-printed.result.now _ _ _ c.loop-degree-test.true c.printed_in-printed.ensures c.in_ok-put_degree.ensures c.loop-degree.invariant
