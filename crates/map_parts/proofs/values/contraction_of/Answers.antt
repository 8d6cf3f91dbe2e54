use Rattle.std.proofs.Common.{subst}
use Rattle.field_mod.proofs.Table.{two_le}
use Rattle.acyclic_values.specs.Faults.{IsValueFault}
use Rattle.map_checks.proofs.Hollow.{hole_hollow}
use Rattle.map_parts.proofs.values.contraction_of.Goals as goal

pub unreachable-requires : goal.unreachable-requires
unreachable-requires g c =
    let p = g.row.P in
    let value = c.args.value.now in
    hole_hollow p value c.in-Err-Hole.field-0-0 (two_le p c.args.field.listed) (subst (IsValueFault p value) c.in-Err-Hole.field-0-is c.in-Err-Hole.ensures.err) c.requires.acyclic
