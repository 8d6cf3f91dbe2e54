use Rattle.leray_conley.proofs.RankLaws.{left_factors_keep_ranks}
use Rattle.leray_conley.proofs.laws.left_factors_keep_ranks.Goals as goal

pub returns : goal.returns
returns c = left_factors_keep_ranks
