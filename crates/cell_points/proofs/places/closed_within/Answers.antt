use Rattle.std.proofs.Common.{◌≡◌, ◌+◌, ◌∙◌, ap, sym, subst, arith, map, length}
use Rattle.cell_points.specs.Places.{ArePlaces, CanRise, cells_of_places, lowered, raised_all}
use Rattle.cell_points.proofs.Closing.{lowered_are, raised_are, reaches}
use Rattle.cell_points.proofs.Closed.{IsClosedTo, rising, closed_more, closed_all, closed_fewer}
use Rattle.std.specs.Prelude.{List, ℕ}
use Rattle.std.specs.List.{AllByRecursion}
use Rattle.cell_points.specs.declared.place.Place.{Place}
use Rattle.cell_points.proofs.places.closed_within.Goals as goal

pub raised_all-requires : goal.raised_all-requires
raised_all-requires c =
    subst (λ (ps : List Place). AllByRecursion (CanRise c.loop-axis.axis) ps) (sym c.deref-in-loop-axis.ensures.value)
    (rising c.args.axes c.args.places.items c.requires.axes c.requires.alike c.loop-axis.axis c.loop-axis.all.items c.loop-axis-test.true c.loop-axis.invariant)

pub union-requires-clause-left : goal.union-requires-clause-left
union-requires-clause-left c =
    subst ArePlaces (sym (c.deref-in-loop-axis-2.ensures.value ∙ c.in_ok-lower.ensures ∙ ap (map (lowered c.loop-axis.axis)) c.deref.ensures.value))
    (lowered_are c.loop-axis.axis (omega (arith, c.requires.axes, c.loop-axis-test.true)) c.loop-axis.all.items c.loop-axis.invariant.are)

pub union-requires-clause-right : goal.union-requires-clause-right
union-requires-clause-right c =
    subst ArePlaces (sym (c.deref-in-loop-axis-3.ensures.value ∙ c.in_ok-upper.ensures ∙ ap (raised_all c.loop-axis.axis) c.deref-in-loop-axis.ensures.value))
    (raised_are c.loop-axis.axis (omega (arith, c.requires.axes, c.loop-axis-test.true)) c.loop-axis.all.items
    (reaches c.loop-axis.axis c.loop-axis.all.items (rising c.args.axes c.args.places.items c.requires.axes c.requires.alike c.loop-axis.axis c.loop-axis.all.items c.loop-axis-test.true c.loop-axis.invariant))
    c.loop-axis.invariant.are)

pub loop-axis-preserved : goal.loop-axis-preserved
loop-axis-preserved c =
    let low = c.deref-in-loop-axis-2.ensures.value ∙ c.in_ok-lower.ensures ∙ ap (map (lowered c.loop-axis.axis)) c.deref.ensures.value in
    let up = c.deref-in-loop-axis-3.ensures.value ∙ c.in_ok-upper.ensures ∙ ap (raised_all c.loop-axis.axis) c.deref-in-loop-axis.ensures.value in
    closed_more c.args.axes c.args.places.items c.requires.axes c.requires.alike c.loop-axis.axis c.loop-axis.all.items c.in_ok-all.all.items c.loop-axis-test.true c.loop-axis.invariant
    c.in_ok-all.ensures.are (rw (low, up) at c.in_ok-all.ensures.cells)

pub returns-clause-cells : goal.returns-clause-cells
returns-clause-cells c =
    let e : c.loop-axis.axis ≡ c.args.axes = omega (arith, c.loop-axis-test.false, c.loop-axis.auto.axis-end) in
    closed_all c.args.axes c.args.places.items c.requires.axes c.requires.alike c.loop-axis.all.items
    (subst (λ (n : ℕ). IsClosedTo n c.args.places.items c.loop-axis.all.items) e c.loop-axis.invariant)

pub returns-in_default-clause-more : goal.returns-in_default-clause-more
returns-in_default-clause-more c =
    let low = c.deref-in-loop-axis-2.ensures.value ∙ c.in_ok-lower.ensures ∙ ap (map (lowered c.loop-axis.axis)) c.deref.ensures.value in
    let up = c.deref-in-loop-axis-3.ensures.value ∙ c.in_ok-upper.ensures ∙ ap (raised_all c.loop-axis.axis) c.deref-in-loop-axis.ensures.value in
    let h = closed_more c.args.axes c.args.places.items c.requires.axes c.requires.alike c.loop-axis.axis c.loop-axis.all.items c.in_ok-all.all.items c.loop-axis-test.true c.loop-axis.invariant
    c.in_ok-all.ensures.are (rw (low, up) at c.in_ok-all.ensures.cells) in
    let f = closed_fewer c.args.axes c.args.places.items c.requires.axes c.requires.alike (c.loop-axis.axis + 1) c.in_ok-all.all.items h in
    let n = c.in_default.ensures.none in
    omega (arith, n, f, ap (λ ps. length (cells_of_places ps)) c.deref-in-loop-axis-4.ensures.value)
