use Rattle.std.proofs.Common.{◌∙◌, ap, arith, length, sym}
use Rattle.cube_sets.specs.Closures.{cells_of}
use Rattle.map_parts.proofs.Selecting.{cellwise_over}
use Rattle.map_parts.proofs.part.over_pairs.Goals as goal

pub over_cells-requires : goal.over_cells-requires
over_cells-requires g c = (
  (omega arith),
  (
    (omega arith),
    (
      (omega arith),
      (
        (omega (arith, ap length (ap cells_of c.in_ok-domain.ensures), c.requires.few)),
        (
          (omega (arith, ap length (ap cells_of c.in_ok-range.ensures), c.requires.range_few)),
          (c.requires.carrying.map, (c.requires.carrying.domain ∙ sym c.in_ok-domain.ensures, c.requires.carrying.range ∙ sym c.in_ok-range.ensures)),
        ),
      ),
    ),
  ),
)

pub returns : goal.returns
returns g c = cellwise_over g.row.P c.args.cube_map.now.named c.in_ok-domain.domain.cells c.in_ok-range.range.cells _ _ _ _ _ c.in_ok-domain.ensures c.in_ok-range.ensures c.in_ok-made.ensures
