use Rattle.std.proofs.Common.{◌+◌, length, arith, ap, sym, ◌∙◌}
use Rattle.cube_sets.proofs.Spreads.{sorted_spread, fewer_axes, more_axes, spread_next}
use Rattle.cube_sets.proofs.spread.spread.Goals as goal

pub returns-then-limit-cells-clause-more : goal.returns-then-limit-cells-clause-more
returns-then-limit-cells-clause-more c =
    let m = more_axes c.args.changes.0 c.args.changes.1 c.args.cells.now c.requires.sorted c.args.axes 0 (omega arith) in
    let t = c.if-limit-cells.true in
    omega arith

pub spread_once-requires-clause-sorted : goal.spread_once-requires-clause-sorted
spread_once-requires-clause-sorted c =
    rw (c.deref.ensures.value, c.loop-axis.invariant.kept) (sorted_spread c.args.changes.0 c.args.changes.1 c.loop-axis.axis c.args.cells.now c.requires.sorted)

pub spread_once-requires-clause-range : goal.spread_once-requires-clause-range
spread_once-requires-clause-range c =
    rw (c.deref.ensures.value, c.loop-axis.invariant.kept) (fewer_axes c.args.changes.0 c.args.changes.1 c.args.cells.now c.requires.sorted _ c.args.axes c.loop-axis.axis (omega arith) c.requires.range)

pub returns-in-None-clause-more : goal.returns-in-None-clause-more
returns-in-None-clause-more c =
    let n = rw (c.in-None.is, c.deref.ensures.value, c.loop-axis.invariant.kept) at c.in_ok-more.ensures.more in
    let e = ap length (spread_next c.args.changes.0 c.args.changes.1 c.loop-axis.axis c.args.cells.now) in
    let m = more_axes c.args.changes.0 c.args.changes.1 c.args.cells.now c.requires.sorted c.args.axes (c.loop-axis.axis + 1) (omega arith) in
    omega arith

pub loop-axis-preserved : goal.loop-axis-preserved
loop-axis-preserved c =
    let n = rw (c.in-Some.is, c.deref.ensures.value, c.loop-axis.invariant.kept) at c.in_ok-more.ensures.all in
    record { kept = n.0 ∙ sym (spread_next c.args.changes.0 c.args.changes.1 c.loop-axis.axis c.args.cells.now); few = omega (arith, n.1) }
