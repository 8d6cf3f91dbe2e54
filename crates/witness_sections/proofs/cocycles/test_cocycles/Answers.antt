use Rattle.std.proofs.Common.{◌<◌, length, arith}
use Rattle.std.proofs.lemmas.Result.{err_from_is_err_and}
use Rattle.witness_sections.specs.Readings.{cocycles_in}
use Rattle.witness_sections.proofs.Loops.{degrees_more, degrees_fault, degrees_passed, count_more, count_room, count_below}
use Rattle.witness_sections.proofs.cocycles.test_cocycles.Goals as goal

pub test_cocycles_in-requires : goal.test_cocycles_in-requires
test_cocycles_in-requires g c =
    let ds = c.args.section.now.degrees.items in
    let k = c.loop-degree.degree in
    let l : k < length ds = omega (arith, c.loop-degree-test.true, c.len-degree-end.ensures) in
    let r = count_room ds k c.args.line c.loop-degree.next l c.loop-degree.invariant.left in
    let b = count_below ds k in ((omega arith), ((omega arith), (l, (c.requires.whole, ((omega (arith, r, c.requires.room)), omega (arith, b, c.requires.few))))))

pub returns-in_err-next-clause-err : goal.returns-in_err-next-clause-err
returns-in_err-next-clause-err g c =
    let p = err_from_is_err_and c.from_residual.result c.from_residual.ensures.1 in
    rw (p.1, p.2) (degrees_fault c.args.section.now cocycles_in c.loop-degree.degree c.args.line c.loop-degree.next c.in_err-next.field-0.0 (omega (arith, c.loop-degree-test.true, c.len-degree-end.ensures)) c.loop-degree.invariant.passed c.in_err-next.ensures.err)

pub loop-degree-preserved : goal.loop-degree-preserved
loop-degree-preserved g c = record {
  left = count_more c.args.section.now.degrees.items c.loop-degree.degree c.args.line c.loop-degree.next c.in_ok-next.next (omega (arith, c.loop-degree-test.true, c.len-degree-end.ensures)) c.in_ok-next.ensures.next c.loop-degree.invariant.left;
  passed = degrees_more c.args.section.now cocycles_in c.loop-degree.degree c.args.line c.loop-degree.next c.in_ok-next.next c.loop-degree.invariant.passed c.in_ok-next.ensures.ok;
}

pub returns-clause-ok : goal.returns-clause-ok
returns-clause-ok g c = degrees_passed c.args.section.now cocycles_in c.loop-degree.degree c.args.line c.loop-degree.next (omega (arith, c.loop-degree-test.false, c.loop-degree.auto.degree-end, c.len-degree-end.ensures)) c.loop-degree.invariant.passed
