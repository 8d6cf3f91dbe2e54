use Rattle.std.proofs.Common.{◌∙◌}
use Rattle.cube_sets.proofs.Sorting.{search_has}
use Rattle.cube_sets.proofs.sorted.contains.Goals as goal

pub returns : goal.returns
returns g c = c.is_ok.ensures.value ∙ search_has g.T.Ord.cmp g.met.T.Ord.total _ _ _ c.requires c.binary_search.ensures.bound c.binary_search.ensures.position
