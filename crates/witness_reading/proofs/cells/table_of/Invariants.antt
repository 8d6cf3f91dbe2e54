use Rattle.std.proofs.Common.{◌≡◌, map, take}
use Rattle.witness_reading.specs.Kinds.{kind_among}
use Rattle.witness_reading.proofs.cells.table_of.Given as goal

abbrev pub invariant-loop-place : goal.invariant-loop-place
invariant-loop-place l = l.table.items ≡ map (kind_among l.kept) (take l.place l.all)
