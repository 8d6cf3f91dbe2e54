use Rattle.leray_conley.specs.Echelons.{AreFree}
use Rattle.leray_conley.proofs.echelon.Echelon.free_columns.Given as goal

abbrev pub invariant-loop-column : goal.invariant-loop-column
invariant-loop-column g l = AreFree l.column l.self.pivots.items l.free.items
