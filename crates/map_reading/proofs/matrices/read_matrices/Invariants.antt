use Rattle.map_lines.specs.Matrices.{size_in}
use Rattle.map_lines.proofs.Growing.{AreMatricesRead}
use Rattle.map_reading.proofs.matrices.read_matrices.Given as goal

abbrev pub invariant-loop-degree : goal.invariant-loop-degree
invariant-loop-degree g l = AreMatricesRead g.row.P l.top (size_in l.range) (size_in l.domain) l.degree l.bytes l.matrices.items l.rest
