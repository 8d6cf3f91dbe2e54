use Rattle.chains.proofs.Systems.{null_of_boundary}
use Rattle.chains.proofs.laws.fillings_are_of_next_degree.Goals as goal

pub returns : goal.returns
returns c = null_of_boundary
