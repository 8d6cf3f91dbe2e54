use Rattle.std.proofs.Common.{◌≡◌, ◌%◌, ◌<◌}
use Rattle.leray_conley.specs.Products.{trace}
use Rattle.leray_conley.specs.Tables.{entry}
use Rattle.leray_conley.proofs.matrix.Matrix.trace.Given as goal

abbrev pub invariant-loop-i : goal.invariant-loop-i
invariant-loop-i g l = record { below : l.sum < g.row.P; value : l.sum ≡ trace l.i (entry l.self) % g.row.P }
