use Rattle.std.proofs.Common.{ℕ, List, Option, Ok, Err, ap, subst}
use Rattle.std.proofs.lemmas.Result.{err_from_is_err_and}
use Rattle.loading.specs.TwoSets.{two_bytes, AreTwoSetsIn}
use Rattle.loading.specs.Loads.{Loads}
use Rattle.loading.specs.declared.two_sets.TwoSets.{TwoSets}
use Rattle.tool.specs.Ends.{name_of}
use Rattle.tool.proofs.Lifting.{loading_refused, provided}
use Rattle.pair_witness.specs.Jobs.{witness_task}
use Rattle.pair_witness.proofs.homology.witnessed_homology.Goals as goal

pub returns-in_err-pair : goal.returns-in_err-pair
unfolding witness_task
returns-in_err-pair g c =
    let job = c.args.job.now in
    let old = g.F.Files.seen c.args.files.now in
    let new = g.F.Files.seen c.load_two_sets.new.files in
    let fault = c.in_err-pair.field-0.0 in
    let p = err_from_is_err_and c.from_residual.result c.from_residual.ensures.1 in
    rw (p.1, p.2) (loading_refused (witness_task job c.args.file.now) old new fault
    (subst (λ (y : Option (List ℕ)). Loads {A = TwoSets} (two_bytes y) (AreTwoSetsIn job.x y) old new (Err fault)) c.as_ref.ensures.value c.in_err-pair.ensures.loads))

pub returns : goal.returns
unfolding witness_task
returns g c =
    let job = c.args.job.now in
    let old = g.F.Files.seen c.args.files.now in
    let new = g.F.Files.seen c.load_two_sets.new.files in
    let pair = c.in_ok-pair.pair in
    provided (witness_task job c.args.file.now) old new pair
    (subst (λ (y : Option (List ℕ)). Loads {A = TwoSets} (two_bytes y) (AreTwoSetsIn job.x y) old new (Ok pair)) c.as_ref.ensures.value c.in_ok-pair.ensures.loads)
    (λ written w. ap name_of w.4) c.compute.result c.compute.ensures
