use Rattle.std.proofs.Common.{ap, sym, ◌∙◌, ℕ, List, Option, length, subst}
use Rattle.field_mod.specs.Modular.{Same}
use Rattle.field_mod.proofs.Modular.{same_trans}
use Rattle.field_mod.proofs.Table.{two_le}
use Rattle.chains.specs.Terms.{coefficient}
use Rattle.chains.specs.ChainComplex.{incidence}
use Rattle.algebraic_reduction.specs.Kept.{steps_of}
use Rattle.algebraic_reduction.specs.Laws.{project_of}
use Rattle.algebraic_reduction.specs.State.{place_at}
use Rattle.algebraic_reduction.proofs.Bridge.{grade, is_boundary}
use Rattle.algebraic_reduction.proofs.Going.{off_steps}
use Rattle.algebraic_reduction.proofs.LinearMaps.{exact}
use Rattle.algebraic_reduction.proofs.Returning.{row_kept, row_projected}
use Rattle.algebraic_reduction.proofs.descending.left_boundary.Goals as goal

pub returns-then-is_off_steps : goal.returns-then-is_off_steps
returns-then-is_off_steps g c h =
    let p = c.args.parts.now in
    let n = length p.complex.boundaries in
    let e = c.boundary-boundary.ensures.value in
    same_trans (exact g.row.P _ _ (ap (λ (ts : List (ℕ × ℕ)). coefficient ts h) (c.in_ok-whole.ensures ∙ e)))
    (row_kept g.row.P n (grade p.complex.degrees) (two_le g.row.P c.args.field.listed) (incidence p.complex.boundaries) (steps_of p.steps.items) (is_boundary g.row.P p.complex c.requires.state.complex) c.requires.state.steps c.args.generator c.requires.inside c.requires.alive
    (off_steps g.row.P p.complex p.places.items p.steps.items c.requires.state (incidence p.complex.boundaries c.args.generator) (λ k i s. ap (λ (ts : List (ℕ × ℕ)). coefficient ts k) (sym e) ∙ c.is_off_steps.ensures c.if-is_off_steps.true k i (ap (λ (ps : List (Option ℕ)). place_at ps k) c.deref.ensures.value ∙ s))) h)

pub returns : goal.returns
returns g c h =
    let p = c.args.parts.now in
    same_trans
    (subst (λ (ts : List (ℕ × ℕ)). Same g.row.P (coefficient c.in_ok-left.left h) (project_of g.row.P p.complex (steps_of p.steps.items) (coefficient ts) h)) c.boundary-boundary.ensures.value (c.in_ok-left.ensures h))
    (row_projected g.row.P (length p.complex.boundaries) (grade p.complex.degrees) (two_le g.row.P c.args.field.listed) (incidence p.complex.boundaries) (steps_of p.steps.items) (is_boundary g.row.P p.complex c.requires.state.complex) c.requires.state.steps c.args.generator c.requires.inside c.requires.alive h)
