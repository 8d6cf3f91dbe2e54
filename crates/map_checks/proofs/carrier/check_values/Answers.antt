use Rattle.std.proofs.Common.{ap, arith, length}
use Rattle.cube_sets.specs.Closures.{cells_of}
use Rattle.map_checks.proofs.Keeping.{few_domain, few_range, cells_few, carrier_of, first_fault}
use Rattle.map_checks.proofs.carrier.check_values.Goals as goal

pub union-requires-clause-few : goal.union-requires-clause-few
union-requires-clause-few g c =
    few_domain c.args.map.now c.args.x.now c.args.a.now c.args.y.now c.args.b.now c.len-x_members.ensures.set c.len-a_members.ensures.set c.len-y_members.ensures.set c.len-b_members.ensures.set
    c.requires.dimensions c.requires.domain c.requires.range

pub union-requires-2-clause-few : goal.union-requires-2-clause-few
union-requires-2-clause-few g c =
    few_range c.args.map.now c.args.x.now c.args.a.now c.args.y.now c.args.b.now c.len-x_members.ensures.set c.len-a_members.ensures.set c.len-y_members.ensures.set c.len-b_members.ensures.set
    c.requires.dimensions c.requires.domain c.requires.range

pub all_cells-requires : goal.all_cells-requires
all_cells-requires g c = omega (arith, ap (λ l. length (cells_of l)) c.in_ok-domain.ensures.cells, cells_few c.args.x.now.cells c.args.a.now.cells, c.requires.domain)

pub all_cells-requires-2 : goal.all_cells-requires-2
all_cells-requires-2 g c = omega (arith, ap (λ l. length (cells_of l)) c.in_ok-range.ensures.cells, cells_few c.args.y.now.cells c.args.b.now.cells, c.requires.range)

pub returns-in-Err-check_cells-clause-err : goal.returns-in-Err-check_cells-clause-err
returns-in-Err-check_cells-clause-err g c =
    first_fault g.row.P c.args.map.now.named c.args.x.now.cells c.args.a.now.cells c.args.y.now.cells c.args.b.now.cells c.in_ok-domain.domain.cells c.in_default.ensures.ok c.in_ok-domain.ensures.cells
    c.in-Err-check_cells.fault c.in-Err-check_cells.ensures.err

pub invariant_of-result : goal.invariant_of-result
invariant_of-result g c = (
  carrier_of c.args.map.now c.args.x.now c.args.a.now c.args.y.now c.args.b.now c.len-x_members.ensures.set c.len-a_members.ensures.set c.len-y_members.ensures.set c.len-b_members.ensures.set
      c.requires.dimensions c.requires.domain c.requires.range g.row.P c.max-dimension.result c.in_ok-map.map.named c.in_ok-domain.domain.cells c.in_ok-range.range.cells
      (ap (λ m. m.named) c.in_ok-map.ensures) c.in_ok-domain.ensures.cells c.in_ok-range.ensures.cells
      (omega (arith, c.max-dimension.ensures, c.max.ensures, c.dimension.ensures.dimension, c.dimension-2.ensures.dimension, c.dimension-3.ensures.dimension, c.in_ok-domain.ensures.dimension, c.in_ok-range.ensures.dimension))
      c.in_default.ensures.ok c.in_default-check_cells.ensures.ok,
  c.in_ok-domain_cells.ensures,
  c.in_ok-range_cells.ensures,
)

pub returns-clause-carrier : goal.returns-clause-carrier
returns-clause-carrier g c = (invariant_of-result g c).0
