use Rattle.field_mod.proofs.Table.{two_le}
use Rattle.witness_sections.proofs.Testing.{through, one_iff}
use Rattle.chains.specs.Terms.{coefficient}
use Rattle.chains.specs.ChainComplex.{boundary}
use Rattle.witness_sections.proofs.tests.is_dual.Goals as goal

pub returns : goal.returns
returns g c = through c.is_single.ensures.single (one_iff g.row.P c.args.generator c.in_ok-sum.sum (boundary c.args.chains.now (coefficient c.args.coefficients.now)) (two_le g.row.P c.args.field.listed) c.ranges.generator.fits c.is_single.ensures.normal c.in_ok-sum.ensures.sum)
