use Rattle.std.proofs.Common.{arith}
use Rattle.cube_sets.proofs.Spreads.{sorted_both, more_both}
use Rattle.cube_sets.proofs.spread.spread_once.Goals as goal

pub union-requires-clause-right : goal.union-requires-clause-right
union-requires-clause-right c =
    let all = rw c.in-Some.is at c.in_ok-changed.ensures.all in
    rw (c.deref.ensures.value, all) (sorted_both c.args.changes.0 c.args.changes.1 c.args.axis c.args.cells.now c.requires.sorted)

pub returns-in-None-clause-more : goal.returns-in-None-clause-more
returns-in-None-clause-more c =
    let m = more_both c.args.changes.0 c.args.changes.1 c.args.axis c.args.cells.now in
    let n = rw c.in-None.is at c.in_ok-changed.ensures.more in
    omega arith
