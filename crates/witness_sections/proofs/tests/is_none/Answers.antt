use Rattle.witness_sections.proofs.Testing.{through, none_iff}
use Rattle.chains.specs.Terms.{coefficient}
use Rattle.chains.specs.ChainComplex.{boundary}
use Rattle.witness_sections.proofs.tests.is_none.Goals as goal

pub returns : goal.returns
returns g c = through c.is_empty.ensures.empty (none_iff g.row.P c.in_ok-sum.sum (boundary c.args.chains.now (coefficient c.args.coefficients.now)) c.is_empty.ensures.normal c.in_ok-sum.ensures.sum)
