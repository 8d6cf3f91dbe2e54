use Rattle.std.proofs.Common.{◌≡◌, ◌≤◌, ◌+◌, ◌-◌, length, take, drop, not}
use Rattle.std.specs.List.{prefix_len}
use Rattle.elem_cubes.specs.Walks.{is_wide_as, is_turned}
use Rattle.elem_cubes.proofs.faces.next_axis.Given as goal

abbrev pub invariant-loop-axis : goal.invariant-loop-axis
invariant-loop-axis l = record {
  within : l.axis ≤ length l.cell;
  same : l.axis + prefix_len (is_wide_as (not l.wide)) (drop l.axis l.cell) ≡ l.from + prefix_len (is_wide_as (not l.wide)) (drop l.from l.cell);
  signed : l.turned ≡ is_turned (take l.axis l.cell);
}

abbrev pub decreases-loop-axis : goal.decreases-loop-axis
decreases-loop-axis l = length l.cell - l.axis
