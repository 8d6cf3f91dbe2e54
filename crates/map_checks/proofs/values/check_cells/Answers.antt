use Rattle.std.proofs.Common.{◌≡◌, true, arith, rules}
use Rattle.field_mod.proofs.Table.{two_le}
use Rattle.cube_sets.specs.Closures.{is_cell_of}
use Rattle.map_checks.proofs.Hollow.{first_hollow, read, cell_there, acyclic_more, acyclic_all}
use Rattle.map_checks.proofs.values.check_cells.Goals as goal

pub check_value-requires : goal.check_value-requires
check_value-requires g c =
    let h : is_cell_of c.args.domain.now.cells c.cell_near-cell.result ≡ true = cell_there c.args.domain.now.cells c.args.cells.now c.requires.cells c.loop-number.number c.cell_near-cell.result (omega (arith, c.len-number-end.ensures.count, c.loop-number-test.true)) (read c.args.cells.now c.loop-number.number c.cell_near-cell.result (omega (arith, c.len-number-end.ensures.count, c.loop-number-test.true)) c.cell_near-cell.ensures) in
    search rules

pub loop-number-preserved : goal.loop-number-preserved
loop-number-preserved g c =
    acyclic_more g.row.P c.args.map.now.named c.args.domain.now.cells c.args.cells.now c.loop-number.number c.cell_near-cell.result (omega (arith, c.len-number-end.ensures.count, c.loop-number-test.true)) (read c.args.cells.now c.loop-number.number c.cell_near-cell.result (omega (arith, c.len-number-end.ensures.count, c.loop-number-test.true)) c.cell_near-cell.ensures) c.in_default.ensures.ok c.loop-number.invariant

pub returns-in-Err-clause-err : goal.returns-in-Err-clause-err
returns-in-Err-clause-err g c =
    first_hollow g.row.P c.args.map.now.named c.args.domain.now.cells (two_le g.row.P c.args.field.listed) c.args.cells.now c.requires.cells c.loop-number.number c.cell_near-cell.result (omega (arith, c.len-number-end.ensures.count, c.loop-number-test.true)) (read c.args.cells.now c.loop-number.number c.cell_near-cell.result (omega (arith, c.len-number-end.ensures.count, c.loop-number-test.true)) c.cell_near-cell.ensures)
    c.loop-number.invariant c.in-Err.fault c.in-Err.ensures.err

pub returns-clause-ok : goal.returns-clause-ok
returns-clause-ok g c = acyclic_all g.row.P c.args.map.now.named c.args.domain.now.cells c.args.cells.now c.requires.cells (λ k l. c.loop-number.invariant k (omega (arith, c.len-number-end.ensures.count)))
