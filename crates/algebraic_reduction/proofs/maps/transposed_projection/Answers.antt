use Rattle.std.proofs.Common.{arith, ap, ◌∙◌, ℕ, List, Option}
use Rattle.field_mod.proofs.Table.{two_le}
use Rattle.algebraic_reduction.specs.State.{place_at}
use Rattle.algebraic_reduction.proofs.MapResults.{transposed_result, transposed_past, rows_clean}
use Rattle.algebraic_reduction.proofs.maps.transposed_projection.Goals as goal

pub settle-requires : goal.settle-requires
settle-requires g c =
    let p = c.args.parts.now in
    let clean = rows_clean g.row.P (two_le g.row.P c.args.field.listed) p.complex p.places.items p.steps.items c.requires.state c.in_ok-start.start
    (λ h i e. c.in_ok-start.ensures.others h i (ap (λ (ps : List (Option ℕ)). place_at ps h) c.deref.ensures.value ∙ e)) in
    ((omega arith), ((omega arith), ((omega arith), (c.requires.names, (c.requires.state, clean)))))

pub returns-clause-value : goal.returns-clause-value
returns-clause-value g c =
    let p = c.args.parts.now in
    let e = c.in_ok-values.ensures in
    transposed_result g.row.P (two_le g.row.P c.args.field.listed) p.complex p.places.items p.steps.items c.requires.state c.args.chain.now c.in_ok-start.start c.in_ok-values.values
    (λ h q. c.in_ok-start.ensures.left h (ap (λ (ps : List (Option ℕ)). place_at ps h) c.deref.ensures.value ∙ q))
    (λ h i q. c.in_ok-start.ensures.others h i (ap (λ (ps : List (Option ℕ)). place_at ps h) c.deref.ensures.value ∙ q))
    e.others e.settled

pub returns-clause-past : goal.returns-clause-past
returns-clause-past g c =
    let p = c.args.parts.now in
    let e = c.in_ok-values.ensures in
    transposed_past g.row.P (two_le g.row.P c.args.field.listed) p.complex p.places.items p.steps.items c.requires.state c.args.chain.now c.in_ok-start.start c.in_ok-values.values
    (λ h q. c.in_ok-start.ensures.left h (ap (λ (ps : List (Option ℕ)). place_at ps h) c.deref.ensures.value ∙ q))
    e.others
