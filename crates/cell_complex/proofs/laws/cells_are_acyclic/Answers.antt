use Rattle.cell_complex.proofs.laws.cells_are_acyclic.Goals as goal
use Rattle.cell_complex.proofs.Meeting.{cells_are_acyclic}

pub returns : goal.returns
returns c = cells_are_acyclic
