use Rattle.std.proofs.Common.{◌≡◌, ℕ, ◌<◌, length, false}
use Rattle.excision.specs.Left.{is_one_of}
use Rattle.elem_cubes.specs.Laws.{cell_at}
use Rattle.excision.specs.Left.{is_left}
use Rattle.face_reduction.specs.Cofaces.{CountCofaces}
use Rattle.face_reduction.specs.Logs.{IsCollapse, IsFreeFace}
use Rattle.face_reduction.proofs.Taking.{left_count}
use Rattle.face_reduction.proofs.collapsing.collapse.Given as goal

abbrev pub invariant-pairs : goal.invariant-pairs
invariant-pairs g l = record {
  complex : l.log.complex ≡ l.fn.log.complex;
  collapse : IsCollapse l.cells l.fn.log.steps l.log.steps;
  tallies : CountCofaces l.log.complex l.log.steps l.tallies.items;
  idle : (k : ℕ) → k < length l.cells → is_one_of l.waiting k ≡ false → ¬ IsFreeFace (is_left l.cells l.log.steps) (cell_at l.cells k);
}

abbrev pub decreases-pairs : goal.decreases-pairs
decreases-pairs g l = left_count (length l.cells) l.log.steps
