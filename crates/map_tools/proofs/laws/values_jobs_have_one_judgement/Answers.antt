use Rattle.map_tools.proofs.Judging.{values_once}
use Rattle.map_tools.proofs.laws.values_jobs_have_one_judgement.Goals as goal

pub returns : goal.returns
returns c = values_once
