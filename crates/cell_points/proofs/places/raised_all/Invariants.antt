use Rattle.std.proofs.Common.{◌≡◌, take}
use Rattle.cell_points.specs.Places.{raised_all}
use Rattle.cell_points.proofs.places.raised_all.Given as goal

abbrev pub invariant-loop-place : goal.invariant-loop-place
invariant-loop-place l = l.all.items ≡ raised_all l.axis (take l.place-index l.places)
