use Rattle.index_map.proofs.Inverting.{index_matrices_solve_inclusions}
use Rattle.index_map.proofs.laws.index_matrices_solve_inclusions.Goals as goal

pub returns : goal.returns
returns c = index_matrices_solve_inclusions
