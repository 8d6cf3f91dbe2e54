use Rattle.std.proofs.Common.{length, ◌-◌}
use Rattle.cube_maps.proofs.Steps.{IsCollecting}
use Rattle.cube_maps.proofs.parts.first_values.Given as goal

abbrev pub invariant-loop-at : goal.invariant-loop-at
invariant-loop-at l = IsCollecting l.pairs l.cube l.from l.at l.values.items

abbrev pub decreases-loop-at : goal.decreases-loop-at
decreases-loop-at l = length l.pairs - l.at
