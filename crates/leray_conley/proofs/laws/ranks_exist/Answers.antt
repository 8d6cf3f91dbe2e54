use Rattle.leray_conley.proofs.RankLaws.{ranks_exist}
use Rattle.leray_conley.proofs.laws.ranks_exist.Goals as goal

pub returns : goal.returns
returns c = ranks_exist
