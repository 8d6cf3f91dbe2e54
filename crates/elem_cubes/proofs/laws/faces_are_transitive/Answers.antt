use Rattle.elem_cubes.proofs.FaceLemmas.{faces_are_transitive}
use Rattle.elem_cubes.proofs.laws.faces_are_transitive.Goals as goal

pub returns : goal.returns
returns c = faces_are_transitive
