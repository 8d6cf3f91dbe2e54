use Rattle.std.proofs.Common.{◌≡◌, take, map}
use Rattle.cell_points.specs.Places.{lowered}
use Rattle.cell_points.proofs.places.lowered_all.Given as goal

abbrev pub invariant-loop-place : goal.invariant-loop-place
invariant-loop-place l = l.all.items ≡ map (lowered l.axis) (take l.place-index l.places)
