use Rattle.excision.proofs.Parted.{PartSo}
use Rattle.excision.proofs.part.reduce_part.Given as goal

abbrev pub invariant-loop-i : goal.invariant-loop-i
invariant-loop-i g l = PartSo g.row.P l.fn.log.complex l.log.complex l.fn.log.steps l.log.steps l.part l.i
