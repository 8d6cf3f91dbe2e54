use Rattle.map_reading.proofs.Stages.{values_stop}
use Rattle.map_reading.proofs.whole.values_due.Goals as goal

pub returns-in-Ok-clause-ok : goal.returns-in-Ok-clause-ok
returns-in-Ok-clause-ok g c = record {
  behind = c.in-Some.behind.now;
  split = c.in-Some.ensures;
  cells = c.in-Ok.ensures.ok;
}

pub returns-in-Some-clause-err : goal.returns-in-Some-clause-err
returns-in-Some-clause-err g c =
    values_stop g.row.P c.args.cube_map.now.named c.args.domain.now.cells c.args.range.now.cells c.args.bytes.now c.in-Some.behind.now c.in-Err.stop c.in-Some.ensures c.in-Err.ensures.err
