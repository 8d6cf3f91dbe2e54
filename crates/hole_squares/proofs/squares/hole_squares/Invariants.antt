-- The squares of the columns so far are made.
use Rattle.std.proofs.Common.{◌≡◌, ◌+◌, ◌*◌}
use Rattle.hole_squares.specs.Columns.{columns}
use Rattle.hole_squares.proofs.squares.hole_squares.Given as goal

abbrev pub invariant-loop-x : goal.invariant-loop-x
invariant-loop-x l = l.squares.items ≡ columns (2 * l.n + 1) l.x
