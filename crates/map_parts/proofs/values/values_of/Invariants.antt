use Rattle.std.proofs.Common.{map}
use Rattle.map_parts.specs.Values.{AreFiledContractions}
use Rattle.map_parts.proofs.values.values_of.Given as goal

abbrev pub invariant-loop-place : goal.invariant-loop-place
invariant-loop-place g l = AreFiledContractions g.row.P l.cube_map.named l.domain.cells l.range.cells l.place l.vertices.items (map (λ v. v.items) l.contractions.items)
