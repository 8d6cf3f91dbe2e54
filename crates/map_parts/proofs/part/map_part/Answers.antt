use Rattle.std.proofs.Common.{refl}
use Rattle.map_parts.proofs.part.map_part.Goals as goal

pub returns : goal.returns
returns g c = record {
  order = c.in_ok-range.ensures.order;
  tables = record { range = c.in_ok-range.ensures.tables; cells = c.in_ok-made.ensures; matrices = refl };
}
