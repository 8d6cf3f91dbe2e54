use Rattle.std.proofs.Common.{◌≡◌, ◌-◌, ◌+◌, ℕ, length, map}
use Rattle.homology_basis.specs.Bases.{in_degree}
use Rattle.homology_basis.proofs.classes.Classes.make_room.Given as goal

abbrev pub invariant-loop-alloc : goal.invariant-loop-alloc
invariant-loop-alloc g l = (k : ℕ) → in_degree (map (λ cs. cs.items) l.self-inside.by_degree.items) k ≡ in_degree (map (λ cs. cs.items) l.initial.self-inside.by_degree.items) k

abbrev pub decreases-loop-alloc : goal.decreases-loop-alloc
decreases-loop-alloc g l = l.degree + 1 - length l.self-inside.by_degree.items
