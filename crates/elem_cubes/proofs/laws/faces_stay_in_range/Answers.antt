use Rattle.elem_cubes.proofs.Ranges.{faces_stay_in_range}
use Rattle.elem_cubes.proofs.laws.faces_stay_in_range.Goals as goal

pub returns : goal.returns
returns c = faces_stay_in_range
