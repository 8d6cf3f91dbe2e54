use Rattle.std.proofs.Common.{◌≡◌, ◌≤◌, ◌<◌, ◌-◌, ◌^◌, length, drop, Some}
use Rattle.elem_cubes.specs.Cells.{cell_of}
use Rattle.grid_files.specs.Items.{cell_between}
use Rattle.grid_files.proofs.whole_cube.axes_between.Given as goal

abbrev pub invariant-loop-i : goal.invariant-loop-i
invariant-loop-i l = record {
  between : cell_between (drop l.i l.lows) (drop l.i l.highs) ≡ Some (cell_of (drop l.i l.lows) l.axes);
  room : l.axes < 2 ^ (length l.lows - l.i);
  within : l.i ≤ length l.lows;
}

abbrev pub decreases-loop-i : goal.decreases-loop-i
decreases-loop-i l = l.i
