use Rattle.field_mod.proofs.Table.{two_le}
use Rattle.acyclic_values.proofs.Making.{contracted}
use Rattle.acyclic_values.proofs.contraction.contraction_to.Goals as goal

pub returns-clause-ok : goal.returns-clause-ok
returns-clause-ok g c = λ cells cl ck.
    contracted g.row.P cells c.args.log c.args.vertex c.in_ok-homotopies.homotopies.items (two_le g.row.P c.args.field.listed) cl ck c.in_ok-hole_beside.ensures.ok c.in_ok-homotopies.ensures
