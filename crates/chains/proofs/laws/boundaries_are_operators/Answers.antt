use Rattle.chains.proofs.Numbered.{is_boundary_operator}
use Rattle.chains.proofs.laws.boundaries_are_operators.Goals as goal

pub returns : goal.returns
returns c = is_boundary_operator
