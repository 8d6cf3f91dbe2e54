use Rattle.std.proofs.Common.{arith}
use Rattle.cell_points.proofs.Searching.{found_at, between}
use Rattle.cell_points.proofs.search.place_from.Goals as goal

pub returns-in-Equal-clause-some : goal.returns-in-Equal-clause-some
returns-in-Equal-clause-some c =
    found_at c.args.places.now c.args.corner.now c.loop-place.place c.index-places-place.result c.cmp.result (omega (arith, c.loop-place-test.true, c.min-end.ensures)) c.cmp.ensures c.in-Equal.is

pub returns-then-below-clause-none : goal.returns-then-below-clause-none
returns-then-below-clause-none c =
    let b = c.loop-place.invariant c.if-below.true in
    between c.args.places.now c.args.corner.now c.loop-place.place c.index-places-place.result c.cmp.result c.requires (omega (arith, c.loop-place-test.true, c.min-end.ensures)) b.0 b.1 c.cmp.ensures c.in-Greater.is
