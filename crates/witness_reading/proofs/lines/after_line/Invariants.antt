use Rattle.std.proofs.Common.{◌≡◌, drop, take}
use Rattle.witness_laws.specs.Lines.{lines_of, lines_behind}
use Rattle.witness_reading.proofs.lines.after_line.Given as goal

abbrev pub invariant-loop-place : goal.invariant-loop-place
invariant-loop-place l = lines_of l.bytes ≡ lines_behind (drop l.place l.bytes) (take l.place l.bytes)
