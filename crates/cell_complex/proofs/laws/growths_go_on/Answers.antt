use Rattle.cell_complex.proofs.laws.growths_go_on.Goals as goal
use Rattle.cell_complex.proofs.Going.{go_on}

pub returns : goal.returns
returns c = go_on
