use Rattle.replay_tool.proofs.Judged.{replay_once}
use Rattle.replay_tool.proofs.laws.replay_jobs_are_judged_once.Goals as goal

pub returns : goal.returns
returns c = replay_once
