use Rattle.std.proofs.Common.{ℕ, ◌<◌, ◌≤◌}
use Rattle.induced_map.specs.Matrices.{entries_in}
use Rattle.induced_map.proofs.entries.first_too_large.Given as goal

abbrev pub invariant-loop-degree : goal.invariant-loop-degree
invariant-loop-degree g l = (k : ℕ) → k < l.degree → entries_in l.domain l.range k ≤ 16777216
