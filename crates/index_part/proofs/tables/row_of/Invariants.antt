use Rattle.std.proofs.Common.{◌≡◌, ◌<◌}
use Rattle.leray_conley.specs.Tables.{entry}
use Rattle.index_part.specs.Filled.{IsFilled}
use Rattle.index_part.proofs.tables.row_of.Given as goal

abbrev pub invariant-loop-j : goal.invariant-loop-j
invariant-loop-j g l = IsFilled 0 (λ j v. (v ≡ entry l.matrix l.i j) × (v < g.row.P)) l.j l.row.items
