use Rattle.std.proofs.Common.{◌≡◌, ◌≤◌, length, true, arith, ap}
use Rattle.std.specs.List.{list_all}
use Rattle.cube_sets.specs.Sets.{is_member}
use Rattle.cube_sets.specs.Changes.{spread}
use Rattle.cube_sets.proofs.Covering.{in_range, spread_is_set}
use Rattle.cube_sets.proofs.cube_set.CubeSet.spread_within.Goals as goal

pub spread-requires-clause-range : goal.spread-requires-clause-range
spread-requires-clause-range c =
    let alike : list_all (is_member c.self.inside.dimension) (spread c.args.changes.0 c.args.changes.1 c.self.inside.dimension c.self.inside.cells.items) ≡ true = rw (← c.self.view_is) at c.requires in
    rw c.deref.ensures.value (in_range c.self.inside.dimension _ alike)

pub invariant_of-result : goal.invariant_of-result
invariant_of-result c =
    let cells = spread c.args.changes.0 c.args.changes.1 c.self.inside.dimension c.self.inside.cells.items in
    let alike : list_all (is_member c.self.inside.dimension) cells ≡ true = rw (← c.self.view_is) at c.requires in
    let all = rw (c.in-Some.is, c.deref.ensures.value) at c.in_ok-cells.ensures.all in
    let n : length cells ≤ c.args.limit = omega (arith, ap length all.0, all.1) in
    rw all.0 (spread_is_set c.args.changes.0 c.args.changes.1 _ c.self.invariant alike (omega arith))
