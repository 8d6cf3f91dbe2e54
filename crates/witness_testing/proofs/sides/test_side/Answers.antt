use Rattle.std.proofs.Common.{◌<◌, ◌^◌, length, arith}
use Rattle.std.proofs.lemmas.Result.{err_from_is_err_and}
use Rattle.witness_testing.proofs.Sided.{cycles_few, lines_few, side_passed, side_fault}
use Rattle.witness_testing.proofs.sides.test_side.Goals as goal

pub returns-in_err-next-clause-err : goal.returns-in_err-next-clause-err
returns-in_err-next-clause-err g c =
    let p = err_from_is_err_and c.from_residual-in_err-next.result c.from_residual-in_err-next.ensures.1 in
    rw (p.1, p.2) (side_fault c.args.x.now.cells c.args.a.now.cells c.args.top c.args.part.now c.in_ok-section.section c.in_ok-section.ensures.section c.args.line c.in_err-next.field-0.0 c.in_err-next.ensures.err)

pub returns-clause-ok : goal.returns-clause-ok
returns-clause-ok g c = side_passed c.args.x.now.cells c.args.a.now.cells c.args.top c.args.part.now c.in_ok-section.section c.in_ok-section.ensures.section c.args.line c.in_ok-next.next c.in_ok-next.ensures.ok

pub returns-clause-next : goal.returns-clause-next
returns-clause-next g c =
    let few : length c.args.part.now.cycles.items < 2 ^ 32 = omega (arith, c.if-len.false, c.len.ensures) in
    let e = lines_few c.args.x.now.cells c.args.a.now.cells c.args.top c.args.part.now c.in_ok-section.section c.in_ok-section.ensures.section few in
    omega (arith, e, c.in_ok-next.ensures.next)

pub test_section-requires : goal.test_section-requires
test_section-requires g c =
    ((omega arith), ((omega arith), (c.in_ok-section.ensures.whole, ((let few : length c.args.part.now.cycles.items < 2 ^ 32 = omega (arith, c.if-len.false, c.len.ensures) in let e = lines_few c.args.x.now.cells c.args.a.now.cells c.args.top c.args.part.now c.in_ok-section.section c.in_ok-section.ensures.section few in omega (arith, e, c.requires.room)), (let e = cycles_few c.args.x.now.cells c.args.a.now.cells c.args.top c.args.part.now c.in_ok-section.section c.in_ok-section.ensures.section in omega (arith, e, c.if-len.false, c.len.ensures))))))
