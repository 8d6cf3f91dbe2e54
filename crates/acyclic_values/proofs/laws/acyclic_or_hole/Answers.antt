use Rattle.acyclic_values.proofs.Deciding.{acyclic_or_hole}
use Rattle.acyclic_values.proofs.laws.acyclic_or_hole.Goals as goal

pub returns : goal.returns
returns c = acyclic_or_hole
