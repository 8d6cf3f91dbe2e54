use Rattle.cube_maps.proofs.Steps.{IsGrouping}
use Rattle.cube_maps.proofs.parts.entries.Given as goal

abbrev pub invariant-loop-cube : goal.invariant-loop-cube
invariant-loop-cube l = IsGrouping l.cubes l.pairs l.entries.items l.cube-index l.at
