use Rattle.std.proofs.Common.{◌≡◌, ◌*◌, ◌%◌, ◌<◌, ◌≤◌, ℕ}
use Rattle.field_mod.proofs.field.Field.inv.Given as goal

abbrev pub invariant-loop-b : goal.invariant-loop-b
invariant-loop-b g l = (k : ℕ) → 1 ≤ k → k < l.b → (k * l.a) % g.row.P ≡ 1 → ⊥
