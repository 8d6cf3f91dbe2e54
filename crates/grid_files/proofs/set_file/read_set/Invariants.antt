use Rattle.grid_files.proofs.SetFiles.{IsReading}
use Rattle.grid_files.proofs.set_file.read_set.Given as goal

abbrev pub invariant-loop-place : goal.invariant-loop-place
invariant-loop-place l = IsReading l.fn.kind l.bytes l.reader l.carry l.place
