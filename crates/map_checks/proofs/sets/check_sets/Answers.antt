use Rattle.std.proofs.Common.{◌≡◌, false}
use Rattle.cube_maps.specs.CubeMaps.{names}
use Rattle.map_checks.proofs.Leaving.{first_cube, all_named, outside_itself, goes_itself}
use Rattle.map_checks.proofs.sets.check_sets.Goals as goal

pub returns-in-Some-clause-err : goal.returns-in-Some-clause-err
returns-in-Some-clause-err g c =
    let left = rw c.cells.ensures.cells at c.first_unnamed-left.ensures in
    let right = rw c.cells-2.ensures.cells at c.first_unnamed-right.ensures in
    first_cube c.args.x.now.cells c.args.a.now.cells (λ q. names c.args.map.now.named q ≡ false) c.first_unnamed-left.result c.first_unnamed-right.result c.in-Some.cube left right c.in-Some.ensures

pub returns-in-Some-first_outside-clause-err : goal.returns-in-Some-first_outside-clause-err
returns-in-Some-first_outside-clause-err g c =
    let left = rw c.cells.ensures.cells at c.first_unnamed-left.ensures in
    let right = rw c.cells-2.ensures.cells at c.first_unnamed-right.ensures in (
      all_named c.args.map.now.named c.args.x.now.cells c.args.a.now.cells c.first_unnamed-left.result c.first_unnamed-right.result left right c.in_default.ensures,
      c.in-Some-first_outside.ensures.some,
    )

pub returns-in-Some-first_outside-2-clause-err : goal.returns-in-Some-first_outside-2-clause-err
returns-in-Some-first_outside-2-clause-err g c =
    let left = rw c.cells.ensures.cells at c.first_unnamed-left.ensures in
    let right = rw c.cells-2.ensures.cells at c.first_unnamed-right.ensures in (
      all_named c.args.map.now.named c.args.x.now.cells c.args.a.now.cells c.first_unnamed-left.result c.first_unnamed-right.result left right c.in_default.ensures,
      c.in_default-first_outside.ensures.none,
      outside_itself c.args.map.now.named c.args.a.now.cells c.args.b.now.cells c.len-subset.ensures.set.sorted c.len-range_subset.ensures.set.sorted _ _ c.in-Some-first_outside-2.ensures.some,
    )

pub returns-clause-ok : goal.returns-clause-ok
returns-clause-ok g c =
    let left = rw c.cells.ensures.cells at c.first_unnamed-left.ensures in
    let right = rw c.cells-2.ensures.cells at c.first_unnamed-right.ensures in
    record {
      named = all_named c.args.map.now.named c.args.x.now.cells c.args.a.now.cells c.first_unnamed-left.result c.first_unnamed-right.result left right c.in_default.ensures;
      inside = c.in_default-first_outside.ensures.none;
      carried = goes_itself c.args.map.now.named c.args.a.now.cells c.args.b.now.cells c.len-subset.ensures.set.sorted c.len-range_subset.ensures.set.sorted c.in_default-first_outside-2.ensures.none;
    }
