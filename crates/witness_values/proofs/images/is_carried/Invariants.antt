use Rattle.std.proofs.Common.{ℕ, ◌<◌, ◌-◌, get_or}
use Rattle.std.specs.List.{Contains}
use Rattle.elem_cubes.specs.Laws.{cell_at}
use Rattle.witness_values.proofs.images.is_carried.Given as goal

abbrev pub invariant-loop-place : goal.invariant-loop-place
invariant-loop-place g l = (k : ℕ) → k < l.place → Contains l.value (cell_at l.cells ((get_or l.chain k (0, 0)).0 - 1))
