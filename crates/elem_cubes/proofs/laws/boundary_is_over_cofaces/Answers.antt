use Rattle.elem_cubes.proofs.Signs.{sum_over_cofaces}
use Rattle.elem_cubes.proofs.laws.boundary_is_over_cofaces.Goals as goal

pub returns : goal.returns
returns c = sum_over_cofaces
