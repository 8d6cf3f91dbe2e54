use Rattle.elem_cubes.proofs.Listing.{cofaces_are_all}
use Rattle.elem_cubes.proofs.laws.cofaces_are_all.Goals as goal

pub returns : goal.returns
returns c = cofaces_are_all
