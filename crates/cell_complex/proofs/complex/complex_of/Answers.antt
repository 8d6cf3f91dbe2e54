use Rattle.std.proofs.Common.{arith}
use Rattle.field_mod.proofs.Table.{is_field}
use Rattle.cell_complex.proofs.Numbering.{parts_are_complex}
use Rattle.cell_complex.proofs.complex.complex_of.Goals as goal

pub of-requires : goal.of-requires
of-requires g c =
    ((omega arith), ((omega arith), parts_are_complex g.row.P c.args.cells.now c.in_ok-degrees.degrees.items c.in_ok-degrees.boundaries.items (omega (arith, (is_field g.row.P c.args.field.listed).above_one)) c.requires c.in_ok-degrees.ensures.degrees c.in_ok-degrees.ensures.boundaries.0 c.in_ok-degrees.ensures.boundaries.1 c.in_ok-degrees.ensures.sorted.few))
