use Rattle.map_lines.specs.Matrices.{size_in}
use Rattle.map_reading.proofs.Stages.{end_read, matrices_stop, ends_otherwise}
use Rattle.map_reading.proofs.whole.matrices_due.Goals as goal

pub returns-in-Ok-end_due-clause-ok : goal.returns-in-Ok-end_due-clause-ok
returns-in-Ok-end_due-clause-ok g c =
    end_read g.row.P c.args.top (size_in c.args.range.now) (size_in c.args.domain.now) c.args.bytes.now c.in-Some.behind.now c.in-Some.ensures c.in-Ok.rows.items c.in-Ok.rest.now
    c.in-Ok.ensures.ok c.in-Ok-end_due.ensures.ok

pub returns-in-Err-end_due-clause-err : goal.returns-in-Err-end_due-clause-err
returns-in-Err-end_due-clause-err g c =
    ends_otherwise g.row.P c.args.top (size_in c.args.range.now) (size_in c.args.domain.now) c.args.bytes.now c.in-Some.behind.now c.in-Some.ensures c.in-Ok.rows.items c.in-Ok.rest.now
    c.in-Err-end_due.stop c.in-Ok.ensures.ok c.in-Err-end_due.ensures.err

pub returns-in-Err-clause-err : goal.returns-in-Err-clause-err
returns-in-Err-clause-err g c =
    matrices_stop g.row.P c.args.top (size_in c.args.range.now) (size_in c.args.domain.now) c.args.bytes.now c.in-Some.behind.now c.in-Some.ensures c.in-Err.stop c.in-Err.ensures.err
