use Rattle.std.proofs.Common.{◌≡◌, ℕ, ◌<◌, get_or}
use Rattle.std.specs.Prelude.{pos, ◌+ℤ◌}
use Rattle.map_checks.proofs.moves.are_ends_moved.Given as goal

abbrev pub invariant-loop-i : goal.invariant-loop-i
invariant-loop-i l = (k : ℕ) → k < l.i → get_or l.from k (pos 0) +ℤ get_or l.by k (pos 0) ≡ get_or l.to k (pos 0)
