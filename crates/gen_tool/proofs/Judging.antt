-- The job of this crate is judged in one way.
use Rattle.std.proofs.Common.{[], Ok, inr}
use Rattle.loading.specs.Jobs.{HasOneJudgement}
use Rattle.loading.specs.Steps.{Is}
use Rattle.loading.proofs.OfFiles.{made, value_made}
use Rattle.loading.proofs.Judging.{judged_once}
use Rattle.gen_tool.specs.declared.holes.HolesJob.{HolesJob}
use Rattle.gen_tool.specs.Jobs.{holes_job}

pub holes_once : (job : HolesJob) → HasOneJudgement (holes_job job)
unfolding holes_job
holes_once job = judged_once (holes_job job) (record {
  files = made [] (Is (Ok tt)) (value_made tt);
  found = λ input. inr (λ fault r. r);
  alike = λ input f g r s. absurd r;
  before = λ input fault r e. r;
})
