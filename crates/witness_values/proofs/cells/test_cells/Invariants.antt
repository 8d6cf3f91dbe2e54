use Rattle.std.proofs.Common.{◌≡◌, ◌+◌}
use Rattle.witness_values.specs.Cells.{cell_line_count}
use Rattle.witness_values.proofs.Looping.{FirstPassed}
use Rattle.witness_values.proofs.cells.test_cells.Given as goal

abbrev pub invariant-loop-cell : goal.invariant-loop-cell
invariant-loop-cell g l = record {
  count : l.next ≡ l.line + cell_line_count l.part l.cell;
  passed : FirstPassed l.sides l.map.named l.set.cells l.part l.cell l.line l.next;
}
