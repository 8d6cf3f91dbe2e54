use Rattle.pair_tool.proofs.Judging.{pair_once}
use Rattle.pair_tool.proofs.laws.pair_jobs_have_one_judgement.Goals as goal

pub returns : goal.returns
returns c = pair_once
