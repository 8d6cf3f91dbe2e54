use Rattle.std.proofs.Common.{◌≡◌, ℕ, ◌<◌, length, false}
use Rattle.excision.specs.Left.{is_one_of}
use Rattle.elem_cubes.specs.Laws.{cell_at}
use Rattle.excision.specs.Known.{AreKnown}
use Rattle.excision.specs.Left.{is_gone, IsMovableInto}
use Rattle.excision.proofs.growing.next_movable.Given as goal

abbrev pub invariant-looking : goal.invariant-looking
invariant-looking g l = record {
  known : AreKnown g.row.P l.x.dimension l.known;
  idle : (j : ℕ) → j < length l.x.cells → is_one_of l.waiting j ≡ false → ¬ IsMovableInto g.row.P (is_gone l.cells l.log.steps) (cell_at l.x.cells j);
}

abbrev pub decreases-looking : goal.decreases-looking
decreases-looking g l = length l.waiting
