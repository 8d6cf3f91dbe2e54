use Rattle.std.proofs.lemmas.Result.{err_from_is_err_and}
use Rattle.loading.proofs.Refused.{load_refused}
use Rattle.set_tools.specs.Jobs.{combination_job}
use Rattle.set_tools.proofs.cubunion.combine.Goals as goal

pub returns-in_err-sets : goal.returns-in_err-sets
unfolding combination_job
returns-in_err-sets g c =
    let p = err_from_is_err_and c.from_residual.result c.from_residual.ensures.1 in
    rw (p.1, p.2) (load_refused (combination_job c.args.job.now) (g.F.Files.seen c.args.files.now) (g.F.Files.seen c.load_two_sets.new.files) c.in_err-sets.field-0.0 c.in_err-sets.ensures.loads)
