use Rattle.std.proofs.Common.{refl}
use Rattle.witness_laws.specs.Lines.{row_line}
use Rattle.witness_types.specs.Rows.{row_of}
use Rattle.witness_writing.proofs.Filling.{grown}
use Rattle.witness_writing.proofs.matrices.put_rows.Goals as goal

pub loop-row-preserved : goal.loop-row-preserved
loop-row-preserved g c = grown c.loop-row.row (λ r. row_line c.args.degree (row_of c.args.matrix.now r)) _ _ _ _ c.in_ok-put_row_line.ensures refl c.loop-row.invariant
