use Rattle.std.proofs.Common.{◌≡◌, ◌<◌, ◌∙◌, arith, sym, ap, subst, List, length}
use Rattle.std.specs.List.{Contains}
use Rattle.std.proofs.lemmas.Bool.{false≢true}
use Rattle.std.proofs.lemmas.Option.{slice_get_within}
use Rattle.elem_cubes.specs.Cells.{Factor}
use Rattle.cell_complex.specs.Numbering.{number_of}
use Rattle.chain_selector.specs.Selections.{Selection}
use Rattle.chain_selector.proofs.Reading.{not_kept, image_inside, kept_as, some_same}
use Rattle.chain_selector.proofs.selector.Selector.keeps.Goals as goal

pub returns-in_default : goal.returns-in_default
returns-in_default g c = sym (not_kept g.row.P c.args.self.now c.args.cell.now c.dimension-dimension.ensures.selection (λ w. false≢true (c.in_default.ensures.found.1 (subst (λ (cells : List (List Factor)). Contains cells c.args.cell.now) (sym c.domain_cells.ensures) (w)))))

pub index-requires : goal.index-requires
index-requires g c =
    let l = image_inside g.row.P c.args.self.now c.self.inside.images.items c.in-Some.number c.dimension-dimension.ensures.selection (ap (λ (v : Selection). v.images) c.self.view_is) (subst (λ (cells : List (List Factor)). c.in-Some.number < length cells) c.domain_cells.ensures (slice_get_within c.domain_cells.result.now c.in-Some.number c.args.cell.now c.in-Some.ensures.place)) in
    omega (arith, l, c.self.inside.images.ok.0)

pub returns : goal.returns
returns g c =
    c.is_some.ensures ∙ some_same c.index.result.now
    ∙ kept_as c.args.self.now c.self.inside.images.items (ap (λ (v : Selection). v.images) c.self.view_is) c.args.cell.now c.in-Some.number c.index.result.now
    (subst (λ (cells : List (List Factor)). c.in-Some.number ≡ number_of cells c.args.cell.now) c.domain_cells.ensures c.in-Some.ensures.number)
    (image_inside g.row.P c.args.self.now c.self.inside.images.items c.in-Some.number c.dimension-dimension.ensures.selection (ap (λ (v : Selection). v.images) c.self.view_is) (subst (λ (cells : List (List Factor)). c.in-Some.number < length cells) c.domain_cells.ensures (slice_get_within c.domain_cells.result.now c.in-Some.number c.args.cell.now c.in-Some.ensures.place)))
    c.index.ensures
