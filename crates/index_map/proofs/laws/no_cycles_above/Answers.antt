use Rattle.index_map.proofs.Tops.{no_cycles_above}
use Rattle.index_map.proofs.laws.no_cycles_above.Goals as goal

pub returns : goal.returns
returns c = no_cycles_above
