use Rattle.std.proofs.Common.{◌≡◌, ◌∙◌, ap, sym, subst, arith, take, List}
use Rattle.std.proofs.lemmas.List.{take_all}
use Rattle.elem_cubes.specs.Corners.{corner_cmp}
use Rattle.elem_cubes.specs.Cells.{Factor}
use Rattle.cell_points.specs.Places.{ArePlaces, cells_of_places}
use Rattle.cell_points.proofs.Grouping.{IsGrouped, step_first, step_joined, step_opened, grouped_all, none_are, some_cells}
use Rattle.cell_points.proofs.places.places_of.Goals as goal
use Rattle.cell_points.proofs.places.places_of.Goals.{in-Equal, in_default+in_ok-push-in_default}

pub returns-then-is_empty-clause-are : goal.returns-then-is_empty-clause-are
returns-then-is_empty-clause-are c = subst ArePlaces (sym c.new-places.ensures.items) none_are

pub loop-i-init : goal.loop-i-init
loop-i-init c =
    let l = some_cells c.args.cells.now (sym c.is_empty.ensures ∙ c.if-is_empty.false) in
    let f = step_first c.args.cells.now c.index-cells-0.result c.place_of-group.result l c.index-cells-0.is c.place_of-group.ensures.few c.place_of-group.ensures.place in
    record { grouped = rw c.new-places.ensures.items f.0; last = f.1; some = omega arith }

pub loop-i-preserved : goal.loop-i-preserved
loop-i-preserved c = elim c.match-cmp.branch [
  | in-Equal w ↦
      let f = step_joined c.args.cells.now c.loop-i.i c.index-cells-i.result c.loop-i.places.items c.loop-i.group c.match-cmp.group c.loop-i-test.true c.index-cells-i.is w.joined-group.ensures.few c.loop-i.invariant.grouped
      (ap (corner_cmp c.loop-i.group.corner) (sym c.lower.ensures) ∙ sym c.cmp.ensures ∙ w.in-Equal.is) (w.group-is ∙ w.joined-group.ensures.place) in
      record { grouped = rw w.places-is f.0; last = f.1; some = omega arith }
  | in_default+in_ok-push-in_default w ↦
      let f = step_opened c.args.cells.now c.loop-i.i c.index-cells-i.result c.loop-i.places.items c.loop-i.group c.match-cmp.group c.loop-i-test.true c.index-cells-i.is w.place_of-group-in_default.ensures.few c.loop-i.invariant.grouped
      c.requires.sorted c.loop-i.invariant.some c.loop-i.invariant.last
      (λ e. w.in_default.not-Equal (c.cmp.ensures ∙ ap (corner_cmp c.loop-i.group.corner) c.lower.ensures ∙ e)) (w.group-is ∙ w.place_of-group-in_default.ensures.place) in
      record { grouped = rw (w.places-is, w.in_ok-push-in_default.ensures.items) f.0; last = f.1; some = omega arith }
]

pub returns-clause-cells : goal.returns-clause-cells
returns-clause-cells c =
    let all : take c.loop-i.i c.args.cells.now ≡ c.args.cells.now = take_all c.loop-i.i c.args.cells.now (omega (arith, c.loop-i-test.false)) in
    ap cells_of_places c.in_ok-push.ensures.items
    ∙ grouped_all c.args.cells.now c.loop-i.places.items c.loop-i.group c.requires.sorted
    (subst (λ (qs : List (List Factor)). IsGrouped qs c.loop-i.places.items c.loop-i.group) all c.loop-i.invariant.grouped)
