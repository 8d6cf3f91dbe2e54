use Rattle.std.proofs.Common.{◌≡◌, ◌++◌}
use Rattle.witness_laws.specs.Lines.{each}
use Rattle.witness_writing.specs.Runs.{cell_text}
use Rattle.witness_writing.proofs.values.put_values.Given as goal

abbrev pub invariant-loop-place : goal.invariant-loop-place
invariant-loop-place g l = l.to.items ≡ l.initial.to.items ++ each l.place (cell_text l.map.named l.domain.cells l.range.cells l.part)
