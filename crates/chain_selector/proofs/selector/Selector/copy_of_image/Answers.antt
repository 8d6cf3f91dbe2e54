use Rattle.std.proofs.Common.{◌≡◌, ◌<◌, ℕ, arith, sym, ap, subst, List, length, IfOk}
use Rattle.std.specs.List.{Contains}
use Rattle.std.proofs.lemmas.Bool.{false≢true}
use Rattle.std.proofs.lemmas.Option.{slice_get_within}
use Rattle.elem_cubes.specs.Cells.{Factor}
use Rattle.cell_complex.specs.Numbering.{number_of}
use Rattle.chain_selector.specs.Selections.{Selection}
use Rattle.chain_selector.proofs.Reading.{kept_listed, image_inside, never_missing, terms_as}
use Rattle.chain_selector.proofs.selector.Selector.copy_of_image.Goals as goal

pub unreachable-requires : goal.unreachable-requires
unreachable-requires g c = false≢true (c.in_default.ensures.found.1 (subst (λ (cells : List (List Factor)). Contains cells c.args.cell.now) (sym c.domain_cells.ensures) (kept_listed g.row.P c.args.self.now c.args.cell.now c.dimension-dimension.ensures.selection c.requires)))

pub index-requires : goal.index-requires
index-requires g c =
    let l = image_inside g.row.P c.args.self.now c.self.inside.images.items c.in-Some.number c.dimension-dimension.ensures.selection (ap (λ (v : Selection). v.images) c.self.view_is) (subst (λ (cells : List (List Factor)). c.in-Some.number < length cells) c.domain_cells.ensures (slice_get_within c.domain_cells.result.now c.in-Some.number c.args.cell.now c.in-Some.ensures.place)) in
    omega (arith, l, c.self.inside.images.ok.0)

pub unreachable-requires-in-None : goal.unreachable-requires-in-None
unreachable-requires-in-None g c =
    never_missing c.args.self.now c.self.inside.images.items (ap (λ (v : Selection). v.images) c.self.view_is) c.args.cell.now c.in-Some.number c.index.result.now
    (subst (λ (cells : List (List Factor)). c.in-Some.number ≡ number_of cells c.args.cell.now) c.domain_cells.ensures c.in-Some.ensures.number)
    (image_inside g.row.P c.args.self.now c.self.inside.images.items c.in-Some.number c.dimension-dimension.ensures.selection (ap (λ (v : Selection). v.images) c.self.view_is) (subst (λ (cells : List (List Factor)). c.in-Some.number < length cells) c.domain_cells.ensures (slice_get_within c.domain_cells.result.now c.in-Some.number c.args.cell.now c.in-Some.ensures.place)))
    c.index.ensures c.in-None.is c.requires

pub returns : goal.returns
returns g c =
    let e = terms_as c.args.self.now c.self.inside.images.items (ap (λ (v : Selection). v.images) c.self.view_is) c.args.cell.now c.in-Some.number c.index.result.now
    (subst (λ (cells : List (List Factor)). c.in-Some.number ≡ number_of cells c.args.cell.now) c.domain_cells.ensures c.in-Some.ensures.number)
    (image_inside g.row.P c.args.self.now c.self.inside.images.items c.in-Some.number c.dimension-dimension.ensures.selection (ap (λ (v : Selection). v.images) c.self.view_is) (subst (λ (cells : List (List Factor)). c.in-Some.number < length cells) c.domain_cells.ensures (slice_get_within c.domain_cells.result.now c.in-Some.number c.args.cell.now c.in-Some.ensures.place)))
    c.index.ensures c.in-Some-index.image c.in-Some-index.is in
    subst (λ (ts : List (ℕ × ℕ)). IfOk c.copy.result (λ image. image ≡ ts)) e c.copy.ensures
