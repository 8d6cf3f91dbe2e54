use Rattle.std.proofs.Common.{ℕ, List, Option, Err, subst}
use Rattle.std.proofs.lemmas.Result.{err_from_is_err_and}
use Rattle.loading.specs.TwoSets.{two_bytes, AreTwoSetsIn}
use Rattle.loading.specs.Loads.{Loads}
use Rattle.loading.specs.declared.two_sets.TwoSets.{TwoSets}
use Rattle.loading.proofs.Refused.{load_refused}
use Rattle.pair_tool.specs.Jobs.{pair_job}
use Rattle.pair_tool.proofs.homcubes.homology_of_pair.Goals as goal

pub returns-in_err-pair : goal.returns-in_err-pair
unfolding pair_job
returns-in_err-pair g c =
    let job = c.args.job.now in
    let old = g.F.Files.seen c.args.files.now in
    let new = g.F.Files.seen c.load_two_sets.new.files in
    let fault = c.in_err-pair.field-0.0 in
    let p = err_from_is_err_and c.from_residual.result c.from_residual.ensures.1 in
    rw (p.1, p.2) (load_refused (pair_job job) old new fault
    (subst (λ (y : Option (List ℕ)). Loads {A = TwoSets} (two_bytes y) (AreTwoSetsIn job.x y) old new (Err fault)) c.as_ref.ensures.value c.in_err-pair.ensures.loads))
