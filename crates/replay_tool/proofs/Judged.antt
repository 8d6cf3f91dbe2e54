-- The jobs of this crate are judged in one way.
use Rattle.loading.specs.Jobs.{IsJudgedOnce}
use Rattle.loading.proofs.Judging.{fixed_once}
use Rattle.replay_tool.specs.declared.inputs.ReplayJob.{ReplayJob}
use Rattle.replay_tool.specs.Jobs.{replay_job}
use Rattle.replay_tool.proofs.Files.{testimony_files}
use Rattle.replay_tool.proofs.Judging.{alike, before}

pub replay_once : (job : ReplayJob) → IsJudgedOnce (replay_job job)
unfolding replay_job
replay_once job = fixed_once (replay_job job) (record { files = testimony_files job; alike = alike job.witness; before = before job.witness })
