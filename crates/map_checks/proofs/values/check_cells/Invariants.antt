use Rattle.std.proofs.Common.{ℕ, ◌<◌}
use Rattle.elem_cubes.specs.Laws.{cell_at}
use Rattle.map_checks.specs.Faults.{IsAcyclicAt}
use Rattle.map_checks.proofs.values.check_cells.Given as goal

abbrev pub invariant-loop-number : goal.invariant-loop-number
invariant-loop-number g l = (k : ℕ) → k < l.number → IsAcyclicAt g.row.P l.map.named l.domain.cells (cell_at l.cells k)
