use Rattle.std.proofs.Common.{arith}
use Rattle.set_tools.proofs.Computing.{combination_computed}
use Rattle.set_tools.proofs.cubunion.compute.Goals as goal

pub returns : goal.returns
returns c = combination_computed c.args.combination c.args.sets.now c.in_ok-set.set c.in_ok-set.ensures.cells c.answer_of.result
    c.in_ok-set.ensures.dimension c.len.ensures.set c.in_ok-set.ensures.members (omega (arith, c.if-len-gt-CUBES.false, c.len.ensures.len)) c.answer_of.ensures.right c.answer_of.ensures.fault
