use Rattle.std.proofs.Common.{◌≡◌, ◌+◌, suc, map, take}
use Rattle.elem_cubes.specs.Cells.{dimension_of}
use Rattle.map_reading.proofs.tables.kinds_over.Given as goal

abbrev pub invariant-loop-place : goal.invariant-loop-place
invariant-loop-place l = l.kinds.items ≡ map (λ q. suc (dimension_of q + 1)) (take l.place l.value)
