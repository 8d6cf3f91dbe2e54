use Rattle.leray_conley.proofs.RankLaws.{right_factors_keep_ranks}
use Rattle.leray_conley.proofs.laws.right_factors_keep_ranks.Goals as goal

pub returns : goal.returns
returns c = right_factors_keep_ranks
