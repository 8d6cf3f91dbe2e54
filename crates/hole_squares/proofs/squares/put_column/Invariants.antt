-- The squares of the rows so far are added.
use Rattle.std.proofs.Common.{◌≡◌, ◌++◌}
use Rattle.hole_squares.specs.Columns.{column}
use Rattle.hole_squares.proofs.squares.put_column.Given as goal

abbrev pub invariant-loop-y : goal.invariant-loop-y
invariant-loop-y l = l.to.items ≡ l.fn.to.items ++ column l.x l.y
