use Rattle.std.proofs.Common.{◌≡◌, ◌++◌, ℕ, ◌<◌, length, false}
use Rattle.excision.specs.Left.{is_one_of}
use Rattle.elem_cubes.specs.Laws.{cell_at}
use Rattle.cell_complex.specs.Growth.{IsMovable, IsGrowth}
use Rattle.excision.specs.Known.{AreKnown}
use Rattle.excision.specs.Taking.{TakeFaces}
use Rattle.excision.proofs.Counting.{missing_count}
use Rattle.excision.proofs.growing.grow.Given as goal

abbrev pub invariant-moves : goal.invariant-moves
invariant-moves g l = record {
  complex : l.log.complex ≡ l.fn.log.complex;
  growth : IsGrowth g.row.P l.x.cells l.a.cells l.cubes;
  taken : TakeFaces l.cells l.cubes l.log.steps;
  known : AreKnown g.row.P l.x.dimension l.known;
  idle : (j : ℕ) → j < length l.x.cells → is_one_of l.waiting j ≡ false → ¬ IsMovable g.row.P (l.a.cells ++ l.cubes) (cell_at l.x.cells j);
}

abbrev pub decreases-moves : goal.decreases-moves
decreases-moves g l = missing_count (l.a.cells ++ l.cubes) l.x.cells
