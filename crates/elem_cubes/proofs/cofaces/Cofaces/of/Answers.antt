use Rattle.elem_cubes.specs.Faces.{intervals_at}
use Rattle.elem_cubes.proofs.Walking.{left_start}
use Rattle.elem_cubes.proofs.cofaces.Cofaces.of.Goals as goal

pub returns : goal.returns
returns c = left_start intervals_at c.args.cell
