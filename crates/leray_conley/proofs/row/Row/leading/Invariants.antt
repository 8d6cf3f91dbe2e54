use Rattle.std.proofs.Common.{◌≡◌, ◌<◌, ℕ, get_or}
use Rattle.leray_conley.proofs.row.Row.leading.Given as goal

abbrev pub invariant-loop-j : goal.invariant-loop-j
invariant-loop-j g l = (q : ℕ) → q < l.j → get_or l.self-inside.entries.items q 0 ≡ 0
