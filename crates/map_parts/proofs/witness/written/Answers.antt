use Rattle.std.proofs.Common.{arith}
use Rattle.map_parts.proofs.witness.written.Goals as goal

pub write_witness-text-requires : goal.write_witness-text-requires
write_witness-text-requires g c = (
  (omega arith),
  (
    (omega arith),
    (
      (omega arith),
      ((c.requires.alike, c.requires.faultless), (c.requires.limits, (c.requires.order, (c.requires.range_order, c.requires.parts)))),
    ),
  ),
)

pub returns : goal.returns
returns g c = c.in_ok-text.ensures
