-- The jobs of this crate are judged in one way.
use Rattle.loading.specs.Jobs.{HasOneJudgement}
use Rattle.loading.proofs.Judging.{judged_once}
use Rattle.pair_maps.specs.Moduli.{modulus_of}
use Rattle.pair_maps.proofs.Files.{map_of_files}
use Rattle.pair_maps.proofs.Judging.{found, alike, before}
use Rattle.pair_maps.proofs.Moduli.{modulus_is}
use Rattle.map_tools.specs.declared.values_job.ValuesJob.{ValuesJob}
use Rattle.map_tools.specs.Jobs.{values_job}

pub values_once : (job : ValuesJob) → HasOneJudgement (values_job job)
unfolding values_job
values_once job = judged_once (values_job job) (record {
  files = map_of_files job.files;
  found = found (modulus_of job.modulus) (modulus_is job.modulus);
  alike = alike (modulus_of job.modulus) (modulus_is job.modulus);
  before = before (modulus_of job.modulus) (modulus_is job.modulus);
})
