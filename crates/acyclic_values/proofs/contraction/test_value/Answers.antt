use Rattle.field_mod.proofs.Table.{two_le}
use Rattle.acyclic_values.proofs.Making.{no_cells, alone_acyclic}
use Rattle.acyclic_values.proofs.contraction.test_value.Goals as goal

pub returns-in-None-clause-err : goal.returns-in-None-clause-err
returns-in-None-clause-err g c =
    no_cells g.row.P c.args.value.now c.in_ok-log.log (two_le g.row.P c.args.field.listed) (record { sorted = c.requires.sorted.sorted; closed = c.requires.closed })
    c.in_ok-log.ensures.complex c.step_count-steps.ensures.steps c.in-None.ensures.none

pub returns-clause-ok : goal.returns-clause-ok
returns-clause-ok g c =
    alone_acyclic g.row.P c.args.value.now c.in_ok-log.log c.in-Some.vertex (two_le g.row.P c.args.field.listed) (record { sorted = c.requires.sorted.sorted; closed = c.requires.closed })
    c.in_ok-log.ensures.complex c.in_ok-hole_beside-in-Some.ensures.ok
