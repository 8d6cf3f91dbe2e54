use Rattle.std.proofs.Common.{arith}
use Rattle.induced_map.proofs.Restricting.{in_domain, restricted_by}
use Rattle.induced_map.proofs.images.image_of.Goals as goal

pub image_of_chain-requires : goal.image_of_chain-requires
image_of_chain-requires g c =
    ((omega arith), ((omega arith), ((omega arith), in_domain g.row.P c.args.selector.now c.args.domain_cells.now c.domain_cells.result.now c.args.chain.now c.in_ok-cycle.cycle c.domain_cells.ensures c.in_ok-cycle.ensures)))

pub returns-clause-image : goal.returns-clause-image
returns-clause-image g c =
    restricted_by g.row.P c.image_of_chain.new.self c.dimension-dimension.ensures.selection c.args.selector.now c.args.domain_cells.now c.args.range_cells.now c.domain_cells.result.now c.range_cells.result.now
    c.args.chain.now c.in_ok-cycle.cycle c.in_ok-image.image c.in_ok-restricted.restricted c.image_of_chain.ensures.extends c.image_of_chain.ensures.one_map c.in_ok-image.ensures.kept c.requires.cells c.domain_cells.ensures c.range_cells.ensures
    c.in_ok-cycle.ensures c.in_ok-image.ensures.value c.in_ok-restricted.ensures
