use Rattle.std.proofs.Common.{◌≡◌, ◌-◌, ◌<◌}
use Rattle.leray_conley.specs.Products.{AreSame, power}
use Rattle.leray_conley.specs.Tables.{entry}
use Rattle.leray_conley.proofs.matrix.Matrix.raise.Given as goal

abbrev pub invariant-loop-exponent : goal.invariant-loop-exponent
invariant-loop-exponent g l = record {
  rows : l.current.rows ≡ l.self.rows;
  columns : l.current.columns ≡ l.self.rows;
  positive : 0 < l.exponent;
  value : AreSame g.row.P l.self.rows l.self.rows (entry l.current) (power l.self.rows (entry l.self) l.exponent);
}

abbrev pub decreases-loop-exponent : goal.decreases-loop-exponent
decreases-loop-exponent g l = l.size - l.exponent
