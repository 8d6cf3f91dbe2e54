use Rattle.grid_files.specs.Scanning.{listed}
use Rattle.grid_files.proofs.Readings.{leads_both, leads_err}
use Rattle.grid_files.proofs.reader.Reader.take_both.Goals as goal

pub returns-in-Ok : goal.returns-in-Ok
returns-in-Ok c = λ set o reads.
    leads_both c.args.self.now.gathered.kind set o c.args.self.now.start (listed c.args.first) (listed c.args.second) c.take_any.new.self _ _ (c.in-Ok.ensures set o reads) c.take_any-in-Ok.ensures

pub returns-in-Err : goal.returns-in-Err
returns-in-Err c = λ set o reads.
    leads_err c.args.self.now.gathered.kind set o c.args.self.now.start (listed c.args.first) (listed c.args.second) c.take_any.new.self c.take_any.new.self _ (c.in-Err.ensures set o reads)
