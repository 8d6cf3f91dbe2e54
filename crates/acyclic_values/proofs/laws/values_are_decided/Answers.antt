use Rattle.acyclic_values.proofs.Deciding.{values_are_decided}
use Rattle.acyclic_values.proofs.laws.values_are_decided.Goals as goal

pub returns : goal.returns
returns c = values_are_decided
