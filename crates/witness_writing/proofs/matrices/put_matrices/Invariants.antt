use Rattle.std.proofs.Common.{◌≡◌, ◌++◌}
use Rattle.witness_laws.specs.Lines.{each}
use Rattle.witness_writing.specs.Runs.{matrix_text, table_at}
use Rattle.witness_writing.proofs.matrices.put_matrices.Given as goal

abbrev pub invariant-loop-degree : goal.invariant-loop-degree
invariant-loop-degree g l = l.to.items ≡ l.initial.to.items ++ each l.degree (λ k. matrix_text k (table_at l.matrices k))
