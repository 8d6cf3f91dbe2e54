use Rattle.std.proofs.Common.{◌≡◌, ◌++◌, take, drop, length}
use Rattle.elem_cubes.specs.Walks.{face_at}
use Rattle.elem_cubes.proofs.closure.face_at.Given as goal

abbrev pub invariant-loop-i : goal.invariant-loop-i
invariant-loop-i l = record {
  here : take l.i l.face ++ face_at (drop l.i l.cell) l.rest ≡ face_at l.cell l.fn.place;
  further : drop l.i l.face ≡ drop l.i l.cell;
  long : length l.face ≡ length l.cell;
}
