use Rattle.std.proofs.Common.{map}
use Rattle.map_lines.proofs.Growing.{AreCells}
use Rattle.map_reading.proofs.cells.read_cells.Given as goal

abbrev pub invariant-loop-place : goal.invariant-loop-place
invariant-loop-place g l = AreCells g.row.P l.cube_map.named l.domain.cells l.range.cells l.place l.bytes l.parts.vertices.items (map (λ v. v.items) l.parts.contractions.items) l.parts.images.items l.rest
