use Rattle.std.proofs.Common.{◌≡◌, ◌+◌, map, min, take}
use Rattle.section_reading.proofs.cocycles.kinds_of_degrees.Given as goal

abbrev pub invariant-loop-degree : goal.invariant-loop-degree
invariant-loop-degree l = l.kinds.items ≡ map (λ d. min (d + 1) 255) (take l.degree-index l.degrees)
