use Rattle.grid_files.specs.Scanning.{listed}
use Rattle.map_files.proofs.Readings.{leads_both, leads_err}
use Rattle.map_files.proofs.reader.Reader.take_both.Goals as goal

pub returns-in-Ok : goal.returns-in-Ok
returns-in-Ok c = λ m o reads.
    leads_both m o c.args.self.now.start (listed c.args.first) (listed c.args.second) c.take_any.new.self _ _ (c.in-Ok.ensures m o reads) c.take_any-in-Ok.ensures

pub returns-in-Err : goal.returns-in-Err
returns-in-Err c = λ m o reads.
    leads_err m o c.args.self.now.start (listed c.args.first) (listed c.args.second) c.take_any.new.self c.take_any.new.self _ (c.in-Err.ensures m o reads)
