use Rattle.map_witness.proofs.Judging.{map_witness_once}
use Rattle.map_witness.proofs.laws.map_witness_jobs_have_one_judgement.Goals as goal

pub returns : goal.returns
returns c = map_witness_once
