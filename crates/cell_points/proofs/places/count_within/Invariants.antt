use Rattle.std.proofs.Common.{◌≡◌, ◌≤◌, take, length}
use Rattle.cell_points.specs.Places.{cells_of_places}
use Rattle.cell_points.proofs.places.count_within.Given as goal

abbrev pub invariant-loop-place : goal.invariant-loop-place
invariant-loop-place l = record {
  counted : l.count ≡ length (cells_of_places (take l.place-index l.places));
  few : l.count ≤ l.limit;
}
