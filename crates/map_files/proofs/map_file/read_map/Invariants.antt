use Rattle.map_files.proofs.MapFiles.{IsReading}
use Rattle.map_files.proofs.map_file.read_map.Given as goal

abbrev pub invariant-loop-place : goal.invariant-loop-place
invariant-loop-place l = IsReading l.bytes l.reader l.carry l.place
