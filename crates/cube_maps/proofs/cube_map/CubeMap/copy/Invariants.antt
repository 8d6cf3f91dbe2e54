use Rattle.std.proofs.Common.{◌≡◌, take}
use Rattle.cube_maps.proofs.cube_map.CubeMap.copy.Given as goal

abbrev pub invariant-loop-entry : goal.invariant-loop-entry
invariant-loop-entry l = l.entries.items ≡ take l.entry-index l.self.named
