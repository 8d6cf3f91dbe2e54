use Rattle.std.proofs.lemmas.Result.{err_from_is_err_and}
use Rattle.loading.proofs.Refused.{load_refused}
use Rattle.map_homology.specs.Jobs.{map_job}
use Rattle.map_homology.proofs.map_job.homology_of_map.Goals as goal

pub returns-in_err-input : goal.returns-in_err-input
unfolding map_job
returns-in_err-input g c =
    let p = err_from_is_err_and c.from_residual.result c.from_residual.ensures.1 in
    rw (p.1, p.2) (load_refused (map_job c.args.job.now) (g.F.Files.seen c.args.files.now) (g.F.Files.seen c.load_pair_map.new.files) c.in_err-input.field-0.0 c.in_err-input.ensures.loads)
