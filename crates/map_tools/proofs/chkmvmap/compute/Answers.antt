use Rattle.std.proofs.lemmas.Result.{err_from_is_err_and}
use Rattle.map_tools.proofs.Computing.{values_refused, values_computed}
use Rattle.map_tools.proofs.chkmvmap.compute.Goals as goal

pub returns-in_err-count : goal.returns-in_err-count
returns-in_err-count c =
    let p = err_from_is_err_and c.from_residual.result c.from_residual.ensures.1 in
    rw (p.1, p.2) (values_refused c.args.modulus c.args.input.now c.in_err-count.field-0.0 c.acyclic_cells.ensures.table c.in_err-count.ensures.counted)

pub returns : goal.returns
returns c = values_computed c.args.modulus c.args.input.now c.in_ok-count.count c.answer.result c.acyclic_cells.ensures.table c.in_ok-count.ensures.counted.1 c.in_ok-count.ensures.counted.0 c.answer.ensures.right c.answer.ensures.fault
