use Rattle.std.proofs.Common.{refl}
use Rattle.grid_files.proofs.Finishing.{empty_gathered}
use Rattle.grid_files.proofs.reader.Reader.new.Goals as goal

pub returns-clause-reads : goal.returns-clause-reads
returns-clause-reads c = record {
  gathered = empty_gathered (record { kind = c.args.kind; dimension = 0; cells = c.new.result }) refl c.new.ensures;
  opening = tt;
  fitting = refl;
}
