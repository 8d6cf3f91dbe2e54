use Rattle.std.proofs.Common.{false}
use Rattle.field_mod.proofs.Table.{two_le}
use Rattle.homology_basis.proofs.Unique.{same_cycles}
use Rattle.homology_basis.proofs.Whole.{by_cycles}
use Rattle.homology_basis.proofs.making.cycle_basis.Goals as goal

pub invariant_of-result : goal.invariant_of-result
invariant_of-result g c = by_cycles g.row.P c.args.log.complex c.args.log.steps false (two_le g.row.P c.args.field.listed) c.in_ok-classes.ensures.complex c.in_ok-classes.ensures.reduction c.requires c.in_ok-classes.classes c.in_ok-classes.ensures.classes

pub returns-clause-basis : goal.returns-clause-basis
returns-clause-basis g c = by_cycles g.row.P c.args.log.complex c.args.log.steps false (two_le g.row.P c.args.field.listed) c.in_ok-classes.ensures.complex c.in_ok-classes.ensures.reduction c.requires c.in_ok-classes.classes c.in_ok-classes.ensures.classes

pub returns-clause-same : goal.returns-clause-same
returns-clause-same g c b e d k = same_cycles g.row.P _ b (two_le g.row.P c.args.field.listed) e
    (by_cycles g.row.P c.args.log.complex c.args.log.steps false (two_le g.row.P c.args.field.listed) c.in_ok-classes.ensures.complex c.in_ok-classes.ensures.reduction c.requires c.in_ok-classes.classes c.in_ok-classes.ensures.classes) d k
