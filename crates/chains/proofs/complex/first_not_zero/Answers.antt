use Rattle.std.proofs.Common.{◌∙◌}
use Rattle.chains.proofs.Faults.{square_is, square_more, square_first}
use Rattle.chains.proofs.complex.first_not_zero.Goals as goal

pub returns-in-Some-clause-some : goal.returns-in-Some-clause-some
returns-in-Some-clause-some g c = square_first g.row.P c.loop-place.place c.in-Some.at c.args.boundaries.now _ _ c.index-boundaries-place.is c.loop-place-test.true c.in_ok-twice.ensures c.loop-place.invariant c.in-Some.ensures.some

pub loop-place-preserved : goal.loop-place-preserved
loop-place-preserved g c = square_more g.row.P c.loop-place.place c.args.boundaries.now _ _ c.index-boundaries-place.is c.loop-place-test.true c.in_ok-twice.ensures c.loop-place.invariant c.in_default.ensures.none

pub returns-in-Some-clause-number : goal.returns-in-Some-clause-number
returns-in-Some-clause-number g c = c.in-Some.ensures.number ∙ square_is g.row.P c.loop-place.place c.args.boundaries.now _ _ c.index-boundaries-place.is c.loop-place-test.true c.in_ok-twice.ensures c.in-Some.at
