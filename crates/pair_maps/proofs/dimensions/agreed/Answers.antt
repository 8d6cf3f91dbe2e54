use Rattle.std.proofs.Common.{ℕ, List, Option, subst, Result, Ok, Err}
use Rattle.std.proofs.lemmas.Result.{err_from_is_err_and}
use Rattle.faults.specs.declared.fault.Fault.{Fault}
use Rattle.loading.specs.Steps.{IsDue}
use Rattle.pair_maps.specs.Inputs.{with_pair}
use Rattle.pair_maps.proofs.Files.{due_goes_on, due_ends}
use Rattle.pair_maps.proofs.dimensions.agreed.Goals as goal

pub returns-in_err-with_domain : goal.returns-in_err-with_domain
returns-in_err-with_domain c =
    let files = c.args.files.now in
    let m = c.args.map.now.dimension in
    let p = err_from_is_err_and c.from_residual.result c.from_residual.ensures.1 in
    rw (p.1, p.2) (due_ends (with_pair m files.x files.a c.args.domain.now) (λ known. with_pair known files.y files.b c.args.range.now) c.in_err-with_domain.field-0.0
    (subst (λ (n : ℕ). IsDue (with_pair n files.x files.a c.args.domain.now) (Err c.in_err-with_domain.field-0.0)) c.dimension-before.ensures.dimension
    (subst (λ (a : Option (List ℕ)). IsDue (with_pair c.dimension-before.result files.x a c.args.domain.now) (Err c.in_err-with_domain.field-0.0)) c.as_ref.ensures.value c.in_err-with_domain.ensures)))

pub returns : goal.returns
returns c =
    let files = c.args.files.now in
    let m = c.args.map.now.dimension in
    due_goes_on (with_pair m files.x files.a c.args.domain.now) (λ known. with_pair known files.y files.b c.args.range.now) c.in_ok-with_domain.with_domain c.with_pair-2.result
    (subst (λ (n : ℕ). IsDue (with_pair n files.x files.a c.args.domain.now) (Ok c.in_ok-with_domain.with_domain)) c.dimension-before.ensures.dimension
    (subst (λ (a : Option (List ℕ)). IsDue (with_pair c.dimension-before.result files.x a c.args.domain.now) (Ok c.in_ok-with_domain.with_domain)) c.as_ref.ensures.value c.in_ok-with_domain.ensures))
    (subst (λ (b : Option (List ℕ)). IsDue (with_pair c.in_ok-with_domain.with_domain files.y b c.args.range.now) c.with_pair-2.result) c.as_ref-2.ensures.value c.with_pair-2.ensures)
