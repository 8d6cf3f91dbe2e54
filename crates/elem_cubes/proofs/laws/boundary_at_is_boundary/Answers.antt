use Rattle.elem_cubes.proofs.Boundaries.{boundary_at_is_boundary}
use Rattle.elem_cubes.proofs.laws.boundary_at_is_boundary.Goals as goal

pub returns : goal.returns
returns c = boundary_at_is_boundary
