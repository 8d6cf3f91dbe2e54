use Rattle.std.proofs.Common.{◌≡◌, ℕ, ◌<◌, length, false}
use Rattle.excision.specs.Left.{is_one_of}
use Rattle.elem_cubes.specs.Laws.{cell_at}
use Rattle.excision.specs.Left.{is_left}
use Rattle.face_reduction.specs.Logs.{IsFreeFace}
use Rattle.face_reduction.proofs.free_pairs.next_free.Given as goal

abbrev pub invariant-looking : goal.invariant-looking
invariant-looking g l = (k : ℕ) → k < length l.cells → is_one_of l.waiting k ≡ false → ¬ IsFreeFace (is_left l.cells l.log.steps) (cell_at l.cells k)

abbrev pub decreases-looking : goal.decreases-looking
decreases-looking g l = length l.waiting
