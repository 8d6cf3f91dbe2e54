use Rattle.map_reading.proofs.Stages.{domain_stops, range_stops}
use Rattle.map_reading.proofs.whole.pairs_due.Goals as goal

pub returns-in-Ok-read_section-clause-ok : goal.returns-in-Ok-read_section-clause-ok
returns-in-Ok-read_section-clause-ok g c = record {
  middle = c.in-Ok.behind.now;
  first = c.in-Ok.ensures.ok;
  second = c.in-Ok-read_section.ensures.ok;
}

pub returns-in-Err-read_section-clause-err : goal.returns-in-Err-read_section-clause-err
returns-in-Err-read_section-clause-err g c =
    range_stops g.row.P c.args.top c.args.x.now.cells c.args.a.now.cells c.args.y.now.cells c.args.b.now.cells c.args.bytes.now c.in-Ok.domain c.in-Ok.behind.now c.in-Err-read_section.stop
    c.in-Ok.ensures.ok c.in-Err-read_section.ensures.err

pub returns-in-Err-clause-err : goal.returns-in-Err-clause-err
returns-in-Err-clause-err g c =
    domain_stops g.row.P c.args.top c.args.x.now.cells c.args.a.now.cells c.args.y.now.cells c.args.b.now.cells c.args.bytes.now c.in-Err.stop c.in-Err.ensures.err
