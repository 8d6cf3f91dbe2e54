use Rattle.std.proofs.Common.{◌≢◌, ℕ, ◌<◌}
use Rattle.elem_cubes.specs.Cells.{dimension_of}
use Rattle.elem_cubes.specs.Laws.{cell_at}
use Rattle.chain_selector.proofs.filling.first_vertex.Given as goal

abbrev pub invariant-loop-number : goal.invariant-loop-number
invariant-loop-number l = (k : ℕ) → k < l.number → dimension_of (cell_at l.value k) ≢ 0
