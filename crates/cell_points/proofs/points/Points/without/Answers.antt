use Rattle.std.proofs.Common.{◌≡◌, ◌∙◌, sym, ap, subst, arith, length, map, List, IfOk}
use Rattle.elem_cubes.specs.Cells.{Factor}
use Rattle.cube_sets.proofs.Steps.{something}
use Rattle.cell_points.specs.Sorted.{IsSortedCells, without}
use Rattle.cell_points.specs.Places.{ArePlaces, cells_of_places, cut}
use Rattle.cell_points.proofs.Without.{cut_are, cut_cells, fewer, without_none, without_sorted}
use Rattle.cell_points.proofs.points.Points.without.Goals as goal

pub count_within-requires : goal.count_within-requires
count_within-requires c =
    let e : c.in_ok-places.places.items ≡ map (cut c.others.inside.places.items) c.self.inside.places.items =
    c.in_ok-places.ensures ∙ (λ i. map (cut (c.deref-2.ensures.value i)) (c.deref.ensures.value i)) in
    subst ArePlaces (sym (c.deref-3.ensures.value ∙ e)) (cut_are c.others.inside.places.items c.others.invariant.are c.self.inside.places.items c.self.invariant.are)

pub unwrap-count-requires : goal.unwrap-count-requires
unwrap-count-requires c =
    let e : c.in_ok-places.places.items ≡ map (cut c.others.inside.places.items) c.self.inside.places.items =
    c.in_ok-places.ensures ∙ (λ i. map (cut (c.deref-2.ensures.value i)) (c.deref.ensures.value i)) in
    let d : cells_of_places c.deref-3.result.now ≡ without (cells_of_places c.self.inside.places.items) (cells_of_places c.others.inside.places.items) =
    ap cells_of_places (c.deref-3.ensures.value ∙ e) ∙ cut_cells c.others.inside.places.items c.others.invariant.are c.self.inside.places.items c.self.invariant.are in
    let f = fewer c.others.inside.places.items c.others.invariant.are (cells_of_places c.self.inside.places.items) (cells_of_places c.others.inside.places.items) in
    something c.count_within.result c.self.inside.count (length (cells_of_places c.deref-3.result.now)) c.count_within.ensures.none (omega (arith, f, ap length d, c.self.invariant.counted))

pub of_places-requires-clause-are : goal.of_places-requires-clause-are
of_places-requires-clause-are c =
    let e : c.in_ok-places.places.items ≡ map (cut c.others.inside.places.items) c.self.inside.places.items =
    c.in_ok-places.ensures ∙ (λ i. map (cut (c.deref-2.ensures.value i)) (c.deref.ensures.value i)) in
    subst ArePlaces (sym e) (cut_are c.others.inside.places.items c.others.invariant.are c.self.inside.places.items c.self.invariant.are)

pub of_places-requires-clause-cells : goal.of_places-requires-clause-cells
of_places-requires-clause-cells c =
    let e : c.in_ok-places.places.items ≡ map (cut c.others.inside.places.items) c.self.inside.places.items =
    c.in_ok-places.ensures ∙ (λ i. map (cut (c.deref-2.ensures.value i)) (c.deref.ensures.value i)) in
    subst IsSortedCells (sym (ap cells_of_places e ∙ cut_cells c.others.inside.places.items c.others.invariant.are c.self.inside.places.items c.self.invariant.are))
    (without_sorted c.others.inside.places.items c.others.invariant.are (cells_of_places c.self.inside.places.items) (cells_of_places c.others.inside.places.items) c.self.invariant.cells)

pub returns : goal.returns
returns c =
    let e : c.in_ok-places.places.items ≡ map (cut c.others.inside.places.items) c.self.inside.places.items =
    c.in_ok-places.ensures ∙ (λ i. map (cut (c.deref-2.ensures.value i)) (c.deref.ensures.value i)) in
    let d : cells_of_places c.in_ok-places.places.items ≡ without c.args.self c.args.others.now =
    ap cells_of_places e ∙ cut_cells c.others.inside.places.items c.others.invariant.are c.self.inside.places.items c.self.invariant.are ∙ (λ i. without (c.self.view_is i) (c.others.view_is i)) in
    subst (λ (cells : List (List Factor)). IfOk c.of_places.result (λ points. points ≡ cells)) d c.of_places.ensures

pub returns-then-others-eq0 : goal.returns-then-others-eq0
returns-then-others-eq0 c = without_none c.args.self c.args.others.now c.others.inside.count (c.others.invariant.counted ∙ ap length c.others.view_is) c.if-others-eq0.true
