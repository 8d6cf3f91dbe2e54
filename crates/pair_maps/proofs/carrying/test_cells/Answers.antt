use Rattle.std.proofs.Common.{inl, refl, ap, ◌∙◌, arith, Err}
use Rattle.cell_complex.specs.CellCount.{cell_count}
use Rattle.pair_maps.proofs.Cells.{cells_counted}
use Rattle.pair_maps.proofs.carrying.test_cells.Goals as goal

pub returns-in-Ok-clause-few : goal.returns-in-Ok-clause-few
returns-in-Ok-clause-few c =
    let n = cells_counted c.in_ok-whole.whole.cells in
    let e = ap cell_count c.in_ok-whole.ensures.cells in
    omega (arith, n, e, c.in-Ok.ensures.few)

pub returns-in-Err-TooMany-clause-fault : goal.returns-in-Err-TooMany-clause-fault
returns-in-Err-TooMany-clause-fault c =
    let n = cells_counted c.in_ok-whole.whole.cells in
    let e = ap cell_count c.in_ok-whole.ensures.cells in
    let m = c.closure_within.ensures.many (c.in-Err-TooMany.is ∙ ap (λ fault. Err fault) c.in-Err-TooMany.field-0-is) in
    inl ((omega (arith, n, e, m)), refl)
