use Rattle.std.proofs.Common.{◌≡◌, ◌≤◌, suc, arith}
use Rattle.std.proofs.lemmas.Result.{err_from_is_err_and}
use Rattle.witness_testing.proofs.Rows.{degrees_more, degrees_fault, degrees_passed}
use Rattle.witness_testing.proofs.matrices.test_matrices.Goals as goal

pub returns-in_err-next-clause-err : goal.returns-in_err-next-clause-err
returns-in_err-next-clause-err g c =
    let l : c.loop-degree.degree ≤ c.args.top = omega (arith, c.loop-degree-test.true, c.from-degree-end.ensures) in
    let p = err_from_is_err_and c.from_residual.result c.from_residual.ensures.1 in
    rw (p.1, p.2) (degrees_fault c.args.domain.now c.args.range.now c.args.kept.now c.args.images.now c.args.top c.args.part.now c.args.map.now c.loop-degree.degree c.args.line c.loop-degree.next c.in_err-next.field-0.0 l c.loop-degree.invariant.passed c.in_err-next.ensures.err)

pub loop-degree-preserved : goal.loop-degree-preserved
loop-degree-preserved g c = record {
  room = omega (arith, c.loop-degree.invariant.room, c.in_ok-next.ensures.next);
  passed = degrees_more c.args.domain.now c.args.range.now c.args.kept.now c.args.images.now c.args.top c.args.part.now c.args.map.now c.loop-degree.degree c.args.line c.loop-degree.next c.in_ok-next.next c.loop-degree.invariant.passed c.in_ok-next.ensures.ok;
}

pub returns-clause-ok : goal.returns-clause-ok
returns-clause-ok g c =
    let e : c.loop-degree.degree ≡ suc c.args.top = omega (arith, c.loop-degree-test.false, c.loop-degree.auto.degree-end, c.from-degree-end.ensures) in
    degrees_passed c.args.domain.now c.args.range.now c.args.kept.now c.args.images.now c.args.top c.args.part.now c.args.map.now c.loop-degree.degree c.args.line c.loop-degree.next e c.loop-degree.invariant.passed
