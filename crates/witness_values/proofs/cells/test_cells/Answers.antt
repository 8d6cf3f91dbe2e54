use Rattle.std.proofs.Common.{◌<◌, length, arith}
use Rattle.std.proofs.lemmas.Result.{err_from_is_err_and}
use Rattle.witness_values.proofs.Looping.{first_more, first_fault, all_passed, count_next, count_room}
use Rattle.witness_values.proofs.cells.test_cells.Goals as goal

pub test_cell-requires : goal.test_cell-requires
test_cell-requires g c =
    let l : c.loop-cell.cell < length c.args.sides.now.domain = omega (arith, c.loop-cell-test.true, c.len-cell-end.ensures.count) in
    let r = count_room c.args.part.now c.loop-cell.cell (length c.args.sides.now.domain) c.args.line c.loop-cell.next l c.loop-cell.invariant.count in
    ((omega arith), ((omega arith), ((omega arith), (l, (c.requires.witness, omega (arith, r, c.requires.room))))))

pub returns-in_err-next-clause-err : goal.returns-in_err-next-clause-err
returns-in_err-next-clause-err g c =
    let p = err_from_is_err_and c.from_residual.result c.from_residual.ensures.1 in
    rw (p.1, p.2) (first_fault c.args.sides.now c.args.map.now.named c.args.set.now.cells c.args.part.now c.loop-cell.cell c.args.line c.loop-cell.next c.in_err-next.field-0.0 (omega (arith, c.loop-cell-test.true, c.len-cell-end.ensures.count)) c.loop-cell.invariant.passed c.in_err-next.ensures.err)

pub loop-cell-preserved : goal.loop-cell-preserved
loop-cell-preserved g c = record {
  count = count_next c.args.part.now c.loop-cell.cell c.args.line c.loop-cell.next c.in_ok-next.next c.loop-cell.invariant.count c.in_ok-next.ensures.next;
  passed = first_more c.args.sides.now c.args.map.now.named c.args.set.now.cells c.args.part.now c.loop-cell.cell c.args.line c.loop-cell.next c.in_ok-next.next c.loop-cell.invariant.passed c.in_ok-next.ensures.ok;
}

pub returns-clause-ok : goal.returns-clause-ok
returns-clause-ok g c = all_passed c.args.sides.now c.args.map.now.named c.args.set.now.cells c.args.part.now c.loop-cell.cell c.args.line c.loop-cell.next (omega (arith, c.loop-cell-test.false, c.loop-cell.auto.cell-end, c.len-cell-end.ensures.count)) c.loop-cell.invariant.passed
