use Rattle.std.proofs.Common.{ap, ◌∙◌, length}
use Rattle.std.proofs.lemmas.Result.{err_from_is_err_and}
use Rattle.cell_complex.specs.CellCount.{cell_count}
use Rattle.cube_sets.specs.Closures.{cells_of}
use Rattle.pair_maps.proofs.Cells.{cells_counted}
use Rattle.map_tools.proofs.chkmvmap.acyclic_cells_over.Goals as goal

pub returns-in_err-carrier : goal.returns-in_err-carrier
returns-in_err-carrier g c =
    let p = err_from_is_err_and c.from_residual.result c.from_residual.ensures.1 in
    rw (p.1, p.2) c.in_err-carrier.ensures.fault

pub returns : goal.returns
returns g c = (
  c.len.ensures.count ∙ ap length c.domain_cells.ensures ∙ cells_counted c.in_ok-carrier.carrier.domain ∙ ap cell_count c.in_ok-carrier.ensures.carrier.domain,
  c.in_ok-carrier.ensures.allowed,
)
