use Rattle.leray_conley.proofs.RankLaws.{ranks_of_transposes_agree}
use Rattle.leray_conley.proofs.laws.ranks_of_transposes_agree.Goals as goal

pub returns : goal.returns
returns c = ranks_of_transposes_agree
