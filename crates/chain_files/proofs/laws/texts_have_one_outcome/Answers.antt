use Rattle.chain_files.proofs.Outcomes.{one_outcome}
use Rattle.chain_files.proofs.laws.texts_have_one_outcome.Goals as goal

pub returns : goal.returns
returns c = one_outcome
