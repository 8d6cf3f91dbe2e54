use Rattle.acyclic_values.proofs.Reducing.{reductions_exist}
use Rattle.acyclic_values.proofs.laws.reductions_exist.Goals as goal

pub returns : goal.returns
returns c = reductions_exist
