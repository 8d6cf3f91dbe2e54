use Rattle.leray_conley.proofs.RankLaws.{ranks_agree}
use Rattle.leray_conley.proofs.laws.ranks_agree.Goals as goal

pub returns : goal.returns
returns c = ranks_agree
