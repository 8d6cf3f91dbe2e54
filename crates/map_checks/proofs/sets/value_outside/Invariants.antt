use Rattle.std.proofs.Common.{ℕ, ◌<◌}
use Rattle.std.specs.List.{Contains}
use Rattle.elem_cubes.specs.Laws.{cell_at}
use Rattle.map_checks.specs.Faults.{together}
use Rattle.map_checks.proofs.sets.value_outside.Given as goal

abbrev pub invariant-loop-value : goal.invariant-loop-value
invariant-loop-value l = (k : ℕ) → k < l.value-index → (Contains (together l.y.cells l.b.cells) (cell_at l.values k) → ⊥) → ⊥
