use Rattle.std.proofs.Common.{◌≡◌, ◌≤◌, ◌*◌, length}
use Rattle.field_mod.specs.Sums.{total}
use Rattle.witness_laws.specs.Parts.{value_at}
use Rattle.witness_limits.specs.Limits.{square}
use Rattle.witness_limits.specs.Maps.{given_of_map}
use Rattle.witness_limits.proofs.sizes.squares.Given as goal

abbrev pub invariant-loop-i : goal.invariant-loop-i
invariant-loop-i l =
    (l.size ≡ total l.i (λ j. square (length (value_at (given_of_map l.map) j))))
    × (l.size ≤ l.i * 16777216)
