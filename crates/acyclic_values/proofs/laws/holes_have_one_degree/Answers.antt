use Rattle.acyclic_values.proofs.Deciding.{holes_have_one_degree}
use Rattle.acyclic_values.proofs.laws.holes_have_one_degree.Goals as goal

pub returns : goal.returns
returns c = holes_have_one_degree
