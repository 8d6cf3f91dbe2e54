use Rattle.std.proofs.Common.{◌≡◌, ◌++◌}
use Rattle.witness_laws.specs.Lines.{each, row_line}
use Rattle.witness_types.specs.Rows.{row_of}
use Rattle.witness_writing.proofs.matrices.put_rows.Given as goal

abbrev pub invariant-loop-row : goal.invariant-loop-row
invariant-loop-row g l = l.to.items ≡ l.initial.to.items ++ each l.row (λ r. row_line l.degree (row_of l.matrix r))
