use Rattle.std.proofs.Common.{arith, ap, ◌∙◌, ◌+◌, ◌*◌}
use Rattle.field_mod.proofs.Table.{two_le}
use Rattle.field_mod.proofs.Modular.{same_by, same_trans}
use Rattle.algebraic_reduction.specs.Kept.{KeptStep}
use Rattle.algebraic_reduction.proofs.Residues.{number_below}
use Rattle.algebraic_reduction.proofs.OneMore.{pos_by, inverse_same, state_short, state_room, state_after, one_more}
use Rattle.algebraic_reduction.proofs.Going.{goes_after, taken_after}
use Rattle.algebraic_reduction.proofs.parts.take_row.Goals as goal

pub inverse_of-inverse-requires : goal.inverse_of-inverse-requires
inverse_of-inverse-requires g c =
    let two = two_le g.row.P c.args.field.listed in
    let at = same_trans (same_by g.row.P 0 0 _ _ (ap (λ v. v + g.row.P * 0) c.coefficient.ensures.value)) (c.requires.row_is c.args.a) in
    ((omega arith), (pos_by g.row.P c.coefficient.result _ c.requires.incident at, number_below g.row.P _ c.args.a c.args.row two c.coefficient.ensures.normal c.coefficient.ensures.value))

pub overflow_cast-place : goal.overflow_cast-place
overflow_cast-place g c = let l = state_short g.row.P _ _ _ c.requires.state in omega (arith, c.len-place.ensures, c.args.parts.now.steps.ok.0, l)

pub of-requires : goal.of-requires
of-requires g c =
    let p = c.args.parts.now in
    let two = two_le g.row.P c.args.field.listed in
    let at = same_trans (same_by g.row.P 0 0 _ _ (ap (λ v. v + g.row.P * 0) c.coefficient.ensures.value)) (c.requires.row_is c.args.a) in
    state_room g.row.P c.args.a c.args.b c.len-place.result c.inverse_of-inverse.result two p.complex c.args.row p.places.items p.steps.items c.requires.state c.requires.a_in c.requires.b_in
    c.requires.row_is c.requires.incident (inverse_same g.row.P c.inverse_of-inverse.result c.coefficient.result _ two c.inverse_of-inverse.ensures.value at) (c.len-place.ensures ∙ p.steps.ok.0)

pub returns-clause-state : goal.returns-clause-state
returns-clause-state g c =
    let p = c.args.parts.now in
    let two = two_le g.row.P c.args.field.listed in
    let at = same_trans (same_by g.row.P 0 0 _ _ (ap (λ v. v + g.row.P * 0) c.coefficient.ensures.value)) (c.requires.row_is c.args.a) in
    rw c.of.ensures (rw c.of-2.ensures (state_after g.row.P c.args.a c.args.b c.len-place.result c.inverse_of-inverse.result two p.complex c.args.row p.places.items p.steps.items c.push.new.self.items c.new.result c.requires.state c.requires.a_in c.requires.b_in
    c.new.ensures c.requires.row_is c.requires.incident (inverse_same g.row.P c.inverse_of-inverse.result c.coefficient.result _ two c.inverse_of-inverse.ensures.value at)
    (c.len-place.ensures ∙ p.steps.ok.0) c.in_ok-push.ensures.items))

pub returns-clause-one_more : goal.returns-clause-one_more
returns-clause-one_more g c = one_more c.args.a c.args.b c.args.parts.now.steps.items c.push.new.self.items c.new.result c.in_ok-push.ensures.items (ap (λ (k : KeptStep). k.step.a) c.new.ensures) (ap (λ (k : KeptStep). k.step.b) c.new.ensures)

pub returns-clause-goes : goal.returns-clause-goes
returns-clause-goes g c =
    let p = c.args.parts.now in
    goes_after c.args.a c.args.b p.complex p.steps.items c.push.new.self.items (one_more c.args.a c.args.b p.steps.items c.push.new.self.items c.new.result c.in_ok-push.ensures.items (ap (λ (k : KeptStep). k.step.a) c.new.ensures) (ap (λ (k : KeptStep). k.step.b) c.new.ensures))

pub returns-clause-taken : goal.returns-clause-taken
returns-clause-taken g c =
    let p = c.args.parts.now in
    taken_after g.row.P c.args.a c.args.b p.complex p.steps.items c.push.new.self.items (one_more c.args.a c.args.b p.steps.items c.push.new.self.items c.new.result c.in_ok-push.ensures.items (ap (λ (k : KeptStep). k.step.a) c.new.ensures) (ap (λ (k : KeptStep). k.step.b) c.new.ensures))
