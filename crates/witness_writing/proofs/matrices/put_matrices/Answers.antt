use Rattle.std.proofs.Common.{ap}
use Rattle.witness_writing.specs.Runs.{matrix_text, table_at}
use Rattle.witness_writing.proofs.Filling.{grown, found_at}
use Rattle.witness_writing.proofs.matrices.put_matrices.Goals as goal

pub loop-degree-preserved : goal.loop-degree-preserved
loop-degree-preserved g c =
    grown c.loop-degree.degree (λ k. matrix_text k (table_at c.args.matrices.now k)) _ _ _ _ c.in_ok-put_matrix.ensures
    (ap (matrix_text c.loop-degree.degree) (found_at c.args.matrices.now c.loop-degree.degree _ _ c.loop-degree-test.true c.index-matrices-degree.is)) c.loop-degree.invariant
