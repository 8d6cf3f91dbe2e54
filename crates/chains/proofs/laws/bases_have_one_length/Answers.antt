use Rattle.chains.proofs.Exchange.{one_length}
use Rattle.chains.proofs.Numbered.{one_length_numbered}
use Rattle.chains.proofs.laws.bases_have_one_length.Goals as goal

pub returns-clause-any : goal.returns-clause-any
returns-clause-any c = one_length

pub returns-clause-numbered : goal.returns-clause-numbered
returns-clause-numbered c = one_length_numbered
