use Rattle.elem_cubes.proofs.Boundaries.{boundary_twice}
use Rattle.elem_cubes.proofs.laws.boundary_of_boundary_is_zero.Goals as goal

pub returns : goal.returns
returns c = boundary_twice
