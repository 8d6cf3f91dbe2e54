use Rattle.pair_witness.proofs.Judging.{witness_once}
use Rattle.pair_witness.proofs.laws.witness_jobs_have_one_judgement.Goals as goal

pub returns : goal.returns
returns c = witness_once
