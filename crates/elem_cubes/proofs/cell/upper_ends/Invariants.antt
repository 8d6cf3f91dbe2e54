use Rattle.std.proofs.Common.{◌≡◌, ◌++◌, take, drop, length}
use Rattle.elem_cubes.specs.Cells.{cell_of, upper_of}
use Rattle.elem_cubes.proofs.cell.upper_ends.Given as goal

abbrev pub invariant-loop-i : goal.invariant-loop-i
invariant-loop-i l = record {
  here : take l.i l.uppers ++ upper_of (cell_of (drop l.i l.ends) l.rest) ≡ upper_of (cell_of l.ends l.fn.axes);
  long : length l.uppers ≡ length l.ends;
}
