use Rattle.elem_cubes.proofs.Listing.{faces_are_facets}
use Rattle.elem_cubes.proofs.laws.faces_are_facets.Goals as goal

pub returns : goal.returns
returns c = faces_are_facets
