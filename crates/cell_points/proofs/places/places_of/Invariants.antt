use Rattle.std.proofs.Common.{◌≡◌, take, ◌-◌, ◌≤◌}
use Rattle.elem_cubes.specs.Cells.{lower_of}
use Rattle.elem_cubes.specs.Laws.{cell_at}
use Rattle.cell_points.proofs.Grouping.{IsGrouped}
use Rattle.cell_points.proofs.places.places_of.Given as goal

abbrev pub invariant-loop-i : goal.invariant-loop-i
invariant-loop-i l = record {
  grouped : IsGrouped (take l.i l.cells) l.places.items l.group;
  last : l.group.corner ≡ lower_of (cell_at l.cells (l.i - 1));
  some : 1 ≤ l.i;
}
