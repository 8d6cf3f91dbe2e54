use Rattle.index_map.proofs.Decided.{inclusions_are_decided}
use Rattle.index_map.proofs.laws.inclusions_are_decided.Goals as goal

pub returns : goal.returns
returns c = inclusions_are_decided
