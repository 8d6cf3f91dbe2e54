use Rattle.std.proofs.Common.{◌≡◌, ◌+◌, suc, map, take}
use Rattle.elem_cubes.specs.Cells.{dimension_of}
use Rattle.witness_reading.proofs.cells.wanted_of.Given as goal

abbrev pub invariant-loop-place : goal.invariant-loop-place
invariant-loop-place l = l.wanted.items ≡ map (λ q. suc (dimension_of q + 1)) (take l.place l.kept)
