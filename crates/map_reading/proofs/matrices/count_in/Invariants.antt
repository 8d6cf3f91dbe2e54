use Rattle.std.proofs.Common.{◌≡◌, take}
use Rattle.map_lines.specs.Matrices.{size_in}
use Rattle.map_reading.proofs.matrices.count_in.Given as goal

abbrev pub invariant-loop-place : goal.invariant-loop-place
invariant-loop-place g l = l.count ≡ size_in (take l.place l.cycles) l.degree
