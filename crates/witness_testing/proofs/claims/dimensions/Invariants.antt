use Rattle.std.proofs.Common.{◌≡◌, length, map, [], ◌∷◌}
use Rattle.witness_laws.specs.Lines.{each}
use Rattle.witness_types.specs.Parts.{beside, degrees_of}
use Rattle.witness_testing.proofs.claims.dimensions.Given as goal

abbrev pub invariant-loop-degree : goal.invariant-loop-degree
invariant-loop-degree g l = l.counts.items ≡ map length (each l.degree (λ k. beside k (degrees_of l.part.cycles.items) (map (λ z. z.1) l.part.cycles.items) ∷ []))
