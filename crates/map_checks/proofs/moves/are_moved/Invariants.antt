use Rattle.std.proofs.Common.{◌≡◌, ℕ, ◌<◌}
use Rattle.elem_cubes.specs.Laws.{cell_at}
use Rattle.cell_complex.specs.Moved.{moved}
use Rattle.map_checks.proofs.moves.are_moved.Given as goal

abbrev pub invariant-loop-i : goal.invariant-loop-i
invariant-loop-i l = (k : ℕ) → k < l.i → cell_at l.to k ≡ moved l.by (cell_at l.from k)
