use Rattle.std.proofs.Common.{◌≡◌, ◌++◌, [], ◌∷◌}
use Rattle.leray_conley.specs.Tables.{entry}
use Rattle.witness_laws.specs.Lines.{each, numbers_text}
use Rattle.witness_lines.proofs.parts.put_entries.Given as goal

abbrev pub invariant-loop-column : goal.invariant-loop-column
invariant-loop-column g l = l.to.items ≡ l.initial.to.items ++ numbers_text (each l.column (λ s. entry l.matrix l.row s ∷ []))
