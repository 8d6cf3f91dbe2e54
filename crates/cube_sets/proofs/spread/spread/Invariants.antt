use Rattle.std.proofs.Common.{◌≡◌, ◌≤◌, length}
use Rattle.cube_sets.specs.Changes.{spread}
use Rattle.cube_sets.proofs.spread.spread.Given as goal

abbrev pub invariant-loop-axis : goal.invariant-loop-axis
invariant-loop-axis l = record {
  kept : l.all.items ≡ spread l.changes.0 l.changes.1 l.axis l.cells;
  few : length l.all.items ≤ l.limit;
}
