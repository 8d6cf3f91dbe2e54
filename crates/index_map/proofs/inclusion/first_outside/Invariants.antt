use Rattle.std.proofs.Common.{ℕ, ◌<◌}
use Rattle.std.specs.List.{Contains}
use Rattle.elem_cubes.specs.Laws.{cell_at}
use Rattle.map_checks.specs.Faults.{together}
use Rattle.index_map.proofs.inclusion.first_outside.Given as goal

abbrev pub invariant-loop-cube : goal.invariant-loop-cube
invariant-loop-cube l = (k : ℕ) → k < l.cube-index → (Contains (together l.y.cells l.b.cells) (cell_at l.cubes k) → ⊥) → ⊥
