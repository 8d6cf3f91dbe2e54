-- What the loop of `fill_front` keeps, and what it counts down.
use Rattle.std.proofs.Common.{◌≡◌, length, take, ◌-◌, ◌≤◌}
use Rattle.std.specs.Io.KnownBytes.{Consumes}
use Rattle.outside.proofs.real.fill_front.Given as goal

abbrev pub invariant-loop-filled : goal.invariant-loop-filled
invariant-loop-filled g l = record {
  within : l.filled ≤ length l.buf;
  taken : Consumes (g.T.Read.remaining l.fn.file) (g.T.Read.remaining l.file) (take l.filled l.buf);
  errors : l.errors ≡ l.fn.errors;
}

abbrev pub decreases-loop-filled : goal.decreases-loop-filled
decreases-loop-filled g l = length l.initial.buf - l.filled
