use Rattle.std.proofs.Common.{◌≡◌, ◌<◌, ◌∙◌, ℕ, sym, ap, subst, arith, List, length, Some}
use Rattle.std.specs.List.{Contains}
use Rattle.std.proofs.Math.ListN.{set}
use Rattle.std.proofs.lemmas.Bool.{false≢true}
use Rattle.std.proofs.lemmas.Option.{slice_get_within}
use Rattle.field_mod.proofs.Table.{two_le}
use Rattle.elem_cubes.specs.Cells.{Factor}
use Rattle.cell_complex.specs.Numbering.{number_of}
use Rattle.chain_selector.specs.Selections.{Selection, domain_cells}
use Rattle.chain_selector.proofs.Keeping.{one_more, extends, now_kept}
use Rattle.chain_selector.proofs.Settling.{extends_itself}
use Rattle.chain_selector.proofs.Reading.{domain_listed, image_inside}
use Rattle.chain_selector.proofs.selector.Selector.keep.Goals as goal

pub returns-then-keeps-clause-extends : goal.returns-then-keeps-clause-extends
returns-then-keeps-clause-extends g c = extends_itself c.args.self.now

pub unreachable-requires : goal.unreachable-requires
unreachable-requires g c = false≢true (c.in_default.ensures.found.1 (subst (λ (cells : List (List Factor)). Contains cells c.args.cell.now) (sym c.domain_cells.ensures) (domain_listed c.args.self.now c.args.cell.now c.requires.domain)))

pub index_mut-requires : goal.index_mut-requires
index_mut-requires g c =
    let l = image_inside g.row.P c.args.self.now c.self.inside.images.items c.in-Some.number c.dimension-dimension.ensures.selection (ap (λ (v : Selection). v.images) c.self.view_is)
    (subst (λ (cells : List (List Factor)). c.in-Some.number < length cells) c.domain_cells.ensures (slice_get_within c.domain_cells.result.now c.in-Some.number c.args.cell.now c.in-Some.ensures.place)) in
    omega (arith, l, c.self.inside.images.ok.0)

pub invariant_of-self : goal.invariant_of-self
invariant_of-self g c = one_more g.row.P c.args.self.now c.dimension-dimension.ensures.selection (omega (arith, two_le g.row.P c.args.field.listed)) c.args.cell.now c.requires.domain c.requires.faces (sym c.keeps.ensures ∙ c.if-keeps.false) c.in_ok-image.image c.in_ok-image.ensures
    (record { carrying = c.self.inside.carrier; images = set c.self.inside.images.items c.in-Some.number (Some c.in_ok-image.image) })
    (ap (λ (v : Selection). v.carrying) c.self.view_is)
    (ap (λ (n : ℕ). set c.self.inside.images.items n (Some c.in_ok-image.image)) (subst (λ (cells : List (List Factor)). c.in-Some.number ≡ number_of cells c.args.cell.now) c.domain_cells.ensures c.in-Some.ensures.number)
    ∙ ap (λ (v : Selection). set v.images (number_of (domain_cells c.args.self.now) c.args.cell.now) (Some c.in_ok-image.image)) c.self.view_is)

pub returns-clause-extends : goal.returns-clause-extends
returns-clause-extends g c = extends g.row.P c.args.self.now c.dimension-dimension.ensures.selection (omega (arith, two_le g.row.P c.args.field.listed)) c.args.cell.now c.requires.domain c.requires.faces (sym c.keeps.ensures ∙ c.if-keeps.false) c.in_ok-image.image c.in_ok-image.ensures
    (record { carrying = c.self.inside.carrier; images = set c.self.inside.images.items c.in-Some.number (Some c.in_ok-image.image) })
    (ap (λ (v : Selection). v.carrying) c.self.view_is)
    (ap (λ (n : ℕ). set c.self.inside.images.items n (Some c.in_ok-image.image)) (subst (λ (cells : List (List Factor)). c.in-Some.number ≡ number_of cells c.args.cell.now) c.domain_cells.ensures c.in-Some.ensures.number)
    ∙ ap (λ (v : Selection). set v.images (number_of (domain_cells c.args.self.now) c.args.cell.now) (Some c.in_ok-image.image)) c.self.view_is)

pub returns-clause-kept : goal.returns-clause-kept
returns-clause-kept g c = now_kept g.row.P c.args.self.now c.dimension-dimension.ensures.selection (omega (arith, two_le g.row.P c.args.field.listed)) c.args.cell.now c.requires.domain c.requires.faces (sym c.keeps.ensures ∙ c.if-keeps.false) c.in_ok-image.image c.in_ok-image.ensures
    (record { carrying = c.self.inside.carrier; images = set c.self.inside.images.items c.in-Some.number (Some c.in_ok-image.image) })
    (ap (λ (v : Selection). v.carrying) c.self.view_is)
    (ap (λ (n : ℕ). set c.self.inside.images.items n (Some c.in_ok-image.image)) (subst (λ (cells : List (List Factor)). c.in-Some.number ≡ number_of cells c.args.cell.now) c.domain_cells.ensures c.in-Some.ensures.number)
    ∙ ap (λ (v : Selection). set v.images (number_of (domain_cells c.args.self.now) c.args.cell.now) (Some c.in_ok-image.image)) c.self.view_is)

pub returns-clause-selection : goal.returns-clause-selection
returns-clause-selection g c = invariant_of-self g c
