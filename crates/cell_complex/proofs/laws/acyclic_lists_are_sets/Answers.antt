use Rattle.cell_complex.proofs.laws.acyclic_lists_are_sets.Goals as goal
use Rattle.cell_complex.proofs.Alike.{lists_and_sets}

pub returns : goal.returns
returns c = lists_and_sets
