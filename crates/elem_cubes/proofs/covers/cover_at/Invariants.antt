use Rattle.std.proofs.Common.{◌≡◌, ◌++◌, take, drop, length}
use Rattle.elem_cubes.specs.Covers.{cover_at}
use Rattle.elem_cubes.proofs.covers.cover_at.Given as goal

abbrev pub invariant-loop-i : goal.invariant-loop-i
invariant-loop-i l = record {
  here : take l.i l.cover ++ cover_at (drop l.i l.cell) l.rest ≡ cover_at l.cell l.fn.place;
  long : length l.cover ≡ length l.cell;
}
