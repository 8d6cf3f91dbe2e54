use Rattle.std.proofs.Common.{◌≡◌, take, map}
use Rattle.cell_points.specs.Places.{cut}
use Rattle.cell_points.proofs.cutting.cut_all.Given as goal

abbrev pub invariant-loop-place : goal.invariant-loop-place
invariant-loop-place l = l.all.items ≡ map (cut l.others) (take l.place-index l.places)
