use Rattle.std.proofs.Common.{◌<◌, ◌+◌, ◌-◌, ◌/◌, arith, length}
use Rattle.std.specs.declared.cmp.Ordering.TheVariants.{Less, Greater}
use Rattle.cell_points.proofs.Searching.{still_below, still_above, nowhere, at_cmp, found_at}
use Rattle.cell_points.proofs.search.place_of_corner.Goals as goal

pub loop-low-preserved-in-Less : goal.loop-low-preserved-in-Less
loop-low-preserved-in-Less c =
    let m = c.loop-low.low + (c.loop-low.high - c.loop-low.low) / 2 in
    let l : m < length c.args.places.now = omega (arith, c.loop-low-test.true, c.loop-low.invariant.within) in
    let e = at_cmp c.args.places.now c.args.corner.now m c.index-places-middle.result c.cmp.result Less l c.cmp.ensures c.in-Less.is in
    record {
      apart = omega (arith, c.loop-low-test.true);
      within = c.loop-low.invariant.within;
      below = λ k h. still_below c.args.places.now c.args.corner.now c.requires m k l e h;
      above = c.loop-low.invariant.above;
    }

pub returns-in-Equal-clause-some : goal.returns-in-Equal-clause-some
returns-in-Equal-clause-some c =
    let m = c.loop-low.low + (c.loop-low.high - c.loop-low.low) / 2 in
    let l : m < length c.args.places.now = omega (arith, c.loop-low-test.true, c.loop-low.invariant.within) in
    found_at c.args.places.now c.args.corner.now m c.index-places-middle.result c.cmp.result l c.cmp.ensures c.in-Equal.is

pub loop-low-preserved : goal.loop-low-preserved
loop-low-preserved c =
    let m = c.loop-low.low + (c.loop-low.high - c.loop-low.low) / 2 in
    let l : m < length c.args.places.now = omega (arith, c.loop-low-test.true, c.loop-low.invariant.within) in
    let e = at_cmp c.args.places.now c.args.corner.now m c.index-places-middle.result c.cmp.result Greater l c.cmp.ensures c.in-Greater.is in
    record {
      apart = omega (arith, c.loop-low-test.true);
      within = omega (arith, c.loop-low-test.true, c.loop-low.invariant.within);
      below = c.loop-low.invariant.below;
      above = λ k h w. still_above c.args.places.now c.args.corner.now c.requires m k w e h;
    }

pub returns-clause-none : goal.returns-clause-none
returns-clause-none c = λ r. nowhere c.args.places.now c.args.corner.now c.requires c.loop-low.low r c.loop-low.invariant.below
    (λ k h w. c.loop-low.invariant.above k (omega (arith, c.loop-low-test.false, h)) w)
