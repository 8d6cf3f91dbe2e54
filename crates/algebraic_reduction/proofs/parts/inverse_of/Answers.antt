use Rattle.field_mod.proofs.Table.{two_le}
use Rattle.algebraic_reduction.proofs.Residues.{unit_square}
use Rattle.algebraic_reduction.proofs.parts.inverse_of.Goals as goal

pub returns-then-number-clause-value : goal.returns-then-number-clause-value
returns-then-number-clause-value g c = unit_square g.row.P c.args.number (two_le g.row.P c.args.field.listed) c.if-number.true
