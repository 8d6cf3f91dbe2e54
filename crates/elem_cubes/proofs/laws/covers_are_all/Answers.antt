use Rattle.elem_cubes.proofs.Covering.{covers_are_all}
use Rattle.elem_cubes.proofs.laws.covers_are_all.Goals as goal

pub returns : goal.returns
returns c = covers_are_all
