use Rattle.cube_sets.proofs.Spreads.{sorted_changed}
use Rattle.cube_sets.proofs.spread.both_changed.Goals as goal

pub union-requires-clause-left : goal.union-requires-clause-left
union-requires-clause-left c = rw (c.deref.ensures.value, c.in_ok-first.ensures) (sorted_changed c.args.changes.0 c.args.axis c.args.cells.now c.requires.sorted)

pub union-requires-clause-right : goal.union-requires-clause-right
union-requires-clause-right c = rw (c.deref-2.ensures.value, c.in_ok-second.ensures) (sorted_changed c.args.changes.1 c.args.axis c.args.cells.now c.requires.sorted)
