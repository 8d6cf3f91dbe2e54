use Rattle.elem_cubes.proofs.Signs.{facet_unit}
use Rattle.elem_cubes.proofs.laws.facets_are_units.Goals as goal

pub returns : goal.returns
returns c = facet_unit
