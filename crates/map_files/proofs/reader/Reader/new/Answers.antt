use Rattle.std.proofs.Common.{refl}
use Rattle.map_files.proofs.Finishing.{empty_gathered}
use Rattle.map_files.proofs.reader.Reader.new.Goals as goal

pub returns-clause-reads : goal.returns-clause-reads
returns-clause-reads c = record {
  gathered = empty_gathered (record { dimension = 0; parts = c.new.result }) refl c.new.ensures.cubes c.new.ensures.pairs;
  opening = tt;
  values = c.new-2.ensures;
  fitting = refl;
}
