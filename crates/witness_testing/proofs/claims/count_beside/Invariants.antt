use Rattle.std.proofs.Common.{◌≡◌, length, take, map}
use Rattle.witness_types.specs.Parts.{beside, degrees_of}
use Rattle.witness_testing.proofs.claims.count_beside.Given as goal

abbrev pub invariant-loop-place : goal.invariant-loop-place
invariant-loop-place g l = l.count ≡ length (beside l.degree (take l.place (degrees_of l.cycles)) (take l.place (map (λ z. z.1) l.cycles)))
