use Rattle.witness_laws.proofs.Outcomes.{tables_have_one_outcome}
use Rattle.witness_laws.proofs.laws.tables_have_one_outcome.Goals as goal

pub returns : goal.returns
returns c = tables_have_one_outcome
