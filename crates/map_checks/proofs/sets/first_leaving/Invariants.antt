use Rattle.std.proofs.Common.{ℕ, ◌<◌}
use Rattle.elem_cubes.specs.Laws.{cell_at}
use Rattle.map_checks.specs.Faults.{together, Leaves}
use Rattle.map_checks.proofs.sets.first_leaving.Given as goal

abbrev pub invariant-loop-cube : goal.invariant-loop-cube
invariant-loop-cube l = (k : ℕ) → k < l.cube-index → Leaves l.map.named (together l.y.cells l.b.cells) (cell_at l.cubes k) → ⊥
