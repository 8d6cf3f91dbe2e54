use Rattle.acyclic_values.proofs.Making.{left_alone}
use Rattle.acyclic_values.proofs.contraction.hole_beside.Goals as goal

pub returns-in-None-clause-ok : goal.returns-in-None-clause-ok
returns-in-None-clause-ok g c = left_alone g.row.P c.args.log.now c.args.vertex c.step_count-steps.ensures.steps c.requires.vertex c.in-None.ensures.none
