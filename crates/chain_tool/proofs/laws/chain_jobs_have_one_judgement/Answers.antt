use Rattle.chain_tool.proofs.Judging.{chain_once}
use Rattle.chain_tool.proofs.laws.chain_jobs_have_one_judgement.Goals as goal

pub returns : goal.returns
returns c = chain_once
