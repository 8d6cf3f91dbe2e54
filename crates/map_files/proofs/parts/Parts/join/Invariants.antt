use Rattle.std.proofs.Common.{List, take}
use Rattle.cube_maps.specs.CubeMaps.{Naming}
use Rattle.map_files.specs.Elements.{changed, joined}
use Rattle.map_files.specs.Kept.{IsKept}
use Rattle.map_files.proofs.parts.Parts.join.Given as goal

abbrev pub invariant-loop-value : goal.invariant-loop-value
invariant-loop-value l = (named : List Naming) → IsKept l.fn.self named → IsKept l.self (changed l.cube (joined (take l.value-index l.values)) named)
