use Rattle.std.proofs.Common.{◌≡◌, take}
use Rattle.section_reading.specs.Section.{degrees_of}
use Rattle.section_reading.proofs.cocycles.degrees_of_cycles.Given as goal

abbrev pub invariant-loop-place : goal.invariant-loop-place
invariant-loop-place g l = l.degrees.items ≡ degrees_of (take l.place l.cycles)
