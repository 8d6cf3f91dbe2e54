use Rattle.chains.proofs.Numbered.{cycle_of_null}
use Rattle.chains.proofs.laws.null_chains_are_cycles.Goals as goal

pub returns : goal.returns
returns c = cycle_of_null
