use Rattle.std.proofs.Common.{arith}
use Rattle.field_mod.proofs.Table.{inverse_below}
use Rattle.field_mod.proofs.field.Field.inv.Goals as goal

pub unreachable-requires : goal.unreachable-requires
unreachable-requires g c =
    let w = inverse_below g.row.P c.args.a c.args.self.listed c.requires.nonzero c.requires.reduced in
    c.loop-b.invariant w.0 w.1 (omega arith) w.3
