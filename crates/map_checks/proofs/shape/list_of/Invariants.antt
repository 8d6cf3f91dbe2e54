use Rattle.std.proofs.Common.{◌≡◌, take}
use Rattle.map_checks.proofs.shape.list_of.Given as goal

abbrev pub invariant-loop-cube : goal.invariant-loop-cube
invariant-loop-cube l = l.list ≡ take l.cube-index l.cubes
