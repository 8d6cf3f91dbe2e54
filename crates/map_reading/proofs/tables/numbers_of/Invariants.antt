use Rattle.std.proofs.Common.{◌≡◌, suc, map, take}
use Rattle.cell_complex.specs.Numbering.{number_of}
use Rattle.map_reading.proofs.tables.numbers_of.Given as goal

abbrev pub invariant-loop-place : goal.invariant-loop-place
invariant-loop-place l = l.numbers.items ≡ map (λ q. suc (number_of l.all q)) (take l.place l.value)
