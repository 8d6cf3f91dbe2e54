-- What the loop of `pour_front` keeps, and what it counts down.
use Rattle.std.proofs.Common.{◌≡◌, length, take, ◌-◌, ◌≤◌}
use Rattle.std.specs.Io.KnownBytes.{Appends}
use Rattle.outside.proofs.real.pour_front.Given as goal

abbrev pub invariant-loop-sent : goal.invariant-loop-sent
invariant-loop-sent g l = record {
  within : l.sent ≤ length l.piece;
  gained : Appends (g.T.Write.contents l.fn.stream) (g.T.Write.contents l.stream) (take l.sent l.piece);
  errors : l.errors ≡ l.fn.errors;
}

abbrev pub decreases-loop-sent : goal.decreases-loop-sent
decreases-loop-sent g l = length l.initial.piece - l.sent
