use Rattle.std.proofs.Common.{◌-◌, arith, ap, subst, length, List}
use Rattle.field_mod.proofs.Table.{two_le}
use Rattle.elem_cubes.specs.Cells.{Factor, dimension_of}
use Rattle.cell_complex.specs.Boundaries.{IsBoundaryAmong}
use Rattle.chain_selector.specs.Renumbered.{IsRenumbered}
use Rattle.chain_selector.proofs.Values.{closed_value}
use Rattle.chain_selector.proofs.Settling.{facets_are_kept, facets_in_domain}
use Rattle.chain_selector.proofs.Fillings.{right_filling, filling_is}
use Rattle.chain_selector.proofs.selector.Selector.filled_image.Goals as goal

pub sum_of_images-requires : goal.sum_of_images-requires
sum_of_images-requires g c =
    let b = subst (λ (cells : List (List Factor)). IsBoundaryAmong g.row.P cells c.args.cell.now c.in_ok-boundary.boundary) c.domain_cells.ensures c.in_ok-boundary.ensures in
    ((omega arith), ((omega arith), ((omega arith), (facets_in_domain g.row.P c.args.self.now c.args.cell.now c.in_ok-boundary.boundary b, facets_are_kept g.row.P c.args.self.now c.args.cell.now c.in_ok-boundary.boundary c.requires.faces b))))

pub renumbered-requires : goal.renumbered-requires
renumbered-requires g c = ((omega arith), ((omega arith), λ h past. c.in_ok-around.ensures.within h (omega (arith, past, ap length c.range_cells.ensures))))

pub filling_of-requires : goal.filling_of-requires
filling_of-requires g c = (
  (omega arith),
  (
    (omega arith),
    (
      closed_value g.row.P c.args.self.now.carrying c.dimension-dimension.ensures.selection.carrier c.args.cell.now c.requires.domain c.args.value.now c.requires.value,
      c.in_ok-cycle.ensures.within,
    ),
  ),
)

pub renumbered-requires-2 : goal.renumbered-requires-2
renumbered-requires-2 g c =
    let f = filling_is g.row.P c.args.self.now c.dimension-dimension.ensures.selection (omega (arith, two_le g.row.P c.args.field.listed)) c.args.cell.now c.requires.domain c.args.value.now c.requires.value
    (dimension_of c.args.cell.now - 1) (omega (arith, c.requires.higher)) c.requires.faces c.in_ok-boundary.boundary c.in_ok-around.around c.in_ok-cycle.cycle
    (subst (λ (cells : List (List Factor)). IsBoundaryAmong g.row.P cells c.args.cell.now c.in_ok-boundary.boundary) c.domain_cells.ensures c.in_ok-boundary.ensures)
    c.in_ok-around.ensures
    (subst (λ (cells : List (List Factor)). IsRenumbered g.row.P cells c.args.value.now c.in_ok-around.around c.in_ok-cycle.cycle) c.range_cells.ensures c.in_ok-cycle.ensures)
    c.in_ok-filling.filling c.in_ok-filling.ensures in
    ((omega arith), ((omega arith), f.within))

pub returns : goal.returns
returns g c =
    right_filling g.row.P c.args.self.now c.dimension-dimension.ensures.selection (omega (arith, two_le g.row.P c.args.field.listed)) c.args.cell.now c.requires.domain c.args.value.now c.requires.value
    (dimension_of c.args.cell.now - 1) (omega (arith, c.requires.higher)) c.requires.faces c.in_ok-boundary.boundary c.in_ok-around.around c.in_ok-cycle.cycle
    (subst (λ (cells : List (List Factor)). IsBoundaryAmong g.row.P cells c.args.cell.now c.in_ok-boundary.boundary) c.domain_cells.ensures c.in_ok-boundary.ensures)
    c.in_ok-around.ensures
    (subst (λ (cells : List (List Factor)). IsRenumbered g.row.P cells c.args.value.now c.in_ok-around.around c.in_ok-cycle.cycle) c.range_cells.ensures c.in_ok-cycle.ensures)
    c.in_ok-filling.filling c.in_ok-image.image c.in_ok-filling.ensures
    (subst (λ (cells : List (List Factor)). IsRenumbered g.row.P c.args.value.now cells c.in_ok-filling.filling c.in_ok-image.image) c.range_cells-2.ensures c.in_ok-image.ensures)
