use Rattle.std.proofs.Common.{arith, ap, ◌∙◌, ◌%◌, ℕ, List}
use Rattle.field_mod.proofs.Table.{two_le}
use Rattle.chains.specs.Terms.{coefficient}
use Rattle.algebraic_reduction.proofs.OneMore.{state_short}
use Rattle.algebraic_reduction.proofs.Spreading.{way_projects}
use Rattle.algebraic_reduction.proofs.descending.project.Goals as goal

pub overflow_cast-count : goal.overflow_cast-count
overflow_cast-count g c = let l = state_short g.row.P _ _ _ c.requires.state in omega (arith, c.len-count.ensures, c.args.parts.now.steps.ok.0, l)

pub returns : goal.returns
returns g c =
    let p = c.args.parts.now in
    let d = c.in_ok-descended.descended in
    way_projects g.row.P c.len-count.result (two_le g.row.P c.args.field.listed) p.complex p.places.items p.steps.items c.requires.state (c.len-count.ensures ∙ p.steps.ok.0) c.args.chain.now d.left.items d.raised.items c.in_ok-projected.projected c.in_ok-descended.ensures
    (λ h. c.in_ok-projected.ensures.sum h ∙ ap (λ (t : List (ℕ × ℕ)). coefficient t h % g.row.P) c.as_slice.ensures)
