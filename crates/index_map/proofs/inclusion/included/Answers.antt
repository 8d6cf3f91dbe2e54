use Rattle.map_checks.specs.Faults.{together}
use Rattle.index_map.proofs.Including.{all_inside, included_by, subset_first, subset_none}
use Rattle.index_map.proofs.inclusion.included.Goals as goal

pub returns-in-Some-first_outside-clause-some : goal.returns-in-Some-first_outside-clause-some
returns-in-Some-first_outside-clause-some c =
    let first = rw c.cells.ensures.cells at c.in-Some-first_outside.ensures in (
      all_inside (together c.args.x.now.cells c.args.a.now.cells) (together c.args.y.now.cells c.args.b.now.cells) c.in_default.ensures,
      subset_first c.args.a.now.cells c.args.b.now.cells c.len-range_subset.ensures.set.sorted c.in-Some-first_outside.cube first,
    )

pub returns-clause-none : goal.returns-clause-none
returns-clause-none c =
    let none = rw c.cells.ensures.cells at c.in_default-first_outside.ensures in
    included_by c.args.x.now.cells c.args.a.now.cells c.args.y.now.cells c.args.b.now.cells
    (all_inside (together c.args.x.now.cells c.args.a.now.cells) (together c.args.y.now.cells c.args.b.now.cells) c.in_default.ensures)
    (subset_none c.args.a.now.cells c.args.b.now.cells c.len-range_subset.ensures.set.sorted none)
