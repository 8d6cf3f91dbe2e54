use Rattle.std.proofs.Common.{◌≡◌, ◌∙◌, sym, ap, subst, arith, length}
use Rattle.cube_sets.specs.Closures.{cells_of}
use Rattle.cell_points.specs.Sorted.{IsSortedCells}
use Rattle.cell_points.specs.Places.{cells_of_places}
use Rattle.cell_points.proofs.Searching.{sorted_of_set, sorted_faces}
use Rattle.cell_points.proofs.points.Points.faces_within.Goals as goal

pub places_of-requires : goal.places_of-requires
places_of-requires c = subst IsSortedCells (sym c.cells.ensures.cells) (sorted_of_set c.args.set.now c.cells.ensures.set)

pub of_places-requires-clause-cells : goal.of_places-requires-clause-cells
of_places-requires-clause-cells c =
    let closed = rw c.in-Some.is at c.in_ok-closed.ensures.cells in
    let e : cells_of_places c.in-Some.faces.items ≡ cells_of c.args.set.now.cells = closed ∙ ap cells_of (c.in_ok-members.ensures.cells ∙ c.cells.ensures.cells) in
    let some = c.in-Some-count_within.ensures.some in
    let n = ap (λ ps. length (cells_of_places ps)) c.deref.ensures.value in
    let m = ap length e in
    let l = c.ranges.limit.fits in
    subst IsSortedCells (sym e) (sorted_faces c.args.set.now c.cells.ensures.set (omega (arith, some.0, some.1, n, m, l)))
