use Rattle.std.proofs.Common.{◌≡◌, ℕ, ◌<◌, false}
use Rattle.elem_cubes.specs.Laws.{cell_at}
use Rattle.cube_maps.specs.CubeMaps.{names}
use Rattle.map_checks.proofs.sets.first_unnamed.Given as goal

abbrev pub invariant-loop-cube : goal.invariant-loop-cube
invariant-loop-cube l = (k : ℕ) → k < l.cube-index → names l.map.named (cell_at l.cubes k) ≡ false → ⊥
