use Rattle.std.proofs.Common.{ap, subst, List, ℕ, option_copied, sym}
use Rattle.std.proofs.lemmas.Result.{err_from_is_err_and}
use Rattle.loading.specs.Steps.{IsDue}
use Rattle.loading.specs.TwoSets.{second_name}
use Rattle.pair_maps.specs.Inputs.{with_known}
use Rattle.pair_maps.proofs.Files.{due_goes_on, due_ends}
use Rattle.pair_maps.proofs.dimensions.with_pair.Goals as goal

pub returns-in_err-with_x : goal.returns-in_err-with_x
returns-in_err-with_x c =
    let sets = c.args.sets.now in
    let p = err_from_is_err_and c.from_residual.result c.from_residual.ensures.1 in
    rw (p.1, p.2) (due_ends (with_known c.args.before c.args.x.now sets.x) (λ with_x. with_known with_x (second_name c.args.x.now (option_copied c.args.a)) sets.y) c.in_err-with_x.field-0.0 c.in_err-with_x.ensures)

pub returns : goal.returns
returns c =
    let sets = c.args.sets.now in
    due_goes_on (with_known c.args.before c.args.x.now sets.x) (λ with_x. with_known with_x (second_name c.args.x.now (option_copied c.args.a)) sets.y) c.in_ok-with_x.with_x c.with_known-2.result c.in_ok-with_x.ensures
    (subst (λ (n : List ℕ). IsDue (with_known c.in_ok-with_x.with_x n sets.y) c.with_known-2.result) c.second_name.ensures c.with_known-2.ensures)
