use Rattle.chain_files.proofs.Squares.{one_outcome}
use Rattle.chain_files.proofs.laws.values_have_one_outcome.Goals as goal

pub returns : goal.returns
returns c = one_outcome
