use Rattle.std.proofs.Common.{◌≡◌, ◌<◌, ℕ}
use Rattle.chains.specs.Terms.{coefficient}
use Rattle.leray_conley.specs.Tables.{entry}
use Rattle.witness_rows.proofs.rows.agrees.Given as goal

abbrev pub invariant-loop-column : goal.invariant-loop-column
invariant-loop-column g l = (s : ℕ) → s < l.column → entry l.matrix l.row s ≡ coefficient l.values s
