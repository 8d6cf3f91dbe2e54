use Rattle.std.proofs.Common.{◌≡◌, ℕ, ◌<◌, get_or, map, []}
use Rattle.cell_complex.specs.Moved.{moved}
use Rattle.map_checks.proofs.moves.all_moved.Given as goal

abbrev pub invariant-loop-i : goal.invariant-loop-i
invariant-loop-i l = (k : ℕ) → k < l.i → get_or l.to k [] ≡ map (moved l.by) (get_or l.from k [])
