use Rattle.elem_cubes.specs.Faces.{ends_of}
use Rattle.elem_cubes.proofs.Walking.{left_start}
use Rattle.elem_cubes.proofs.faces.Faces.of.Goals as goal

pub returns : goal.returns
returns c = left_start ends_of c.args.cell
