use Rattle.std.proofs.Common.{◌≡◌, take, length}
use Rattle.cell_points.specs.Places.{firsts_from, cells_of_places}
use Rattle.cell_points.proofs.places.firsts_of.Given as goal

abbrev pub invariant-loop-place : goal.invariant-loop-place
invariant-loop-place l = record {
  made : l.firsts.items ≡ firsts_from 0 (take l.place-index l.places);
  next : l.first ≡ length (cells_of_places (take l.place-index l.places));
}
