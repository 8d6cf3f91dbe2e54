use Rattle.std.proofs.Common.{List, arith, subst, sym}
use Rattle.leray_conley.specs.Tables.{Table}
use Rattle.witness_runs.specs.Rows.{StopsRows}
use Rattle.map_lines.specs.Matrices.{size_in, row_lines, HasMatrix}
use Rattle.map_lines.proofs.Growing.{AreMatricesRead, no_matrices, one_matrix, matrix_stops}
use Rattle.map_reading.proofs.Stages.{of_size, all_read}
use Rattle.map_reading.proofs.matrices.read_matrices.Goals as goal

pub loop-degree-init : goal.loop-degree-init
loop-degree-init g c =
    subst (λ (l : List Table). AreMatricesRead g.row.P c.args.top (size_in c.args.range.now) (size_in c.args.domain.now) 0 c.args.bytes.now l c.args.bytes.now) (sym c.new-matrices.ensures.items)
    (no_matrices g.row.P c.args.top (size_in c.args.range.now) (size_in c.args.domain.now) c.args.bytes.now)

pub loop-degree-preserved : goal.loop-degree-preserved
loop-degree-preserved g c =
    one_matrix g.row.P c.args.top (size_in c.args.range.now) (size_in c.args.domain.now) c.loop-degree.degree c.args.bytes.now c.loop-degree.matrices.items c.loop-degree.rest.now c.in-Ok.matrix c.in-Ok.behind.now
    c.keep_matrix.new.matrices.items c.in_ok-keep_matrix-in-Ok.ensures c.loop-degree.invariant
    (of_size (λ h w. HasMatrix g.row.P c.loop-degree.degree h w c.loop-degree.rest.now c.in-Ok.matrix c.in-Ok.behind.now) c.in-Some-Some.height c.in-Some-Some.width
    (size_in c.args.range.now c.loop-degree.degree) (size_in c.args.domain.now c.loop-degree.degree) c.in-Some-Some.ensures c.in-Some-Some.ensures' c.in-Ok.ensures.ok)

pub returns-in-Err-clause-err : goal.returns-in-Err-clause-err
returns-in-Err-clause-err g c =
    matrix_stops g.row.P c.args.top (size_in c.args.range.now) (size_in c.args.domain.now) c.loop-degree.degree c.args.bytes.now c.loop-degree.matrices.items c.loop-degree.rest.now c.in-Err.stop (omega arith)
    c.loop-degree.invariant
    (of_size (λ h w. StopsRows g.row.P c.loop-degree.degree w (row_lines h w) c.loop-degree.rest.now c.in-Err.stop) c.in-Some-Some.height c.in-Some-Some.width
    (size_in c.args.range.now c.loop-degree.degree) (size_in c.args.domain.now c.loop-degree.degree) c.in-Some-Some.ensures c.in-Some-Some.ensures' c.in-Err.ensures.err)

pub returns-clause-ok : goal.returns-clause-ok
returns-clause-ok g c =
    all_read g.row.P c.args.top (size_in c.args.range.now) (size_in c.args.domain.now) c.args.bytes.now c.loop-degree.degree c.loop-degree.matrices.items c.loop-degree.rest.now (omega arith) c.loop-degree.invariant
