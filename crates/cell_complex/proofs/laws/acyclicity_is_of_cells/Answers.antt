use Rattle.cell_complex.proofs.laws.acyclicity_is_of_cells.Goals as goal
use Rattle.cell_complex.proofs.Alike.{of_cells}

pub returns : goal.returns
returns c = of_cells
