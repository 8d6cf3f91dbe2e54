use Rattle.elem_cubes.proofs.Listing.{closures_are_faces}
use Rattle.elem_cubes.proofs.laws.closures_are_faces.Goals as goal

pub returns : goal.returns
returns c = closures_are_faces
