use Rattle.witness_sections.proofs.Parting.{one_degree}
use Rattle.witness_sections.proofs.section.read_degrees.Goals as goal

pub loop-degree-preserved : goal.loop-degree-preserved
loop-degree-preserved g c = one_degree c.args.cells.now c.args.to.now c.args.part.now c.loop-degree.degree c.loop-degree.degrees.items c.push.new.self.items c.in_ok-read.read c.in_ok-push.ensures.items c.in_ok-read.ensures c.loop-degree.invariant
