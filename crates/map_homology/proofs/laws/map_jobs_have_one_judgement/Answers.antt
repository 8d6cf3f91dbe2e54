use Rattle.map_homology.proofs.Judging.{map_once}
use Rattle.map_homology.proofs.laws.map_jobs_have_one_judgement.Goals as goal

pub returns : goal.returns
returns c = map_once
