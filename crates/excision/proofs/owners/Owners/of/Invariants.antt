use Rattle.excision.proofs.Owning.{OwnersTo}
use Rattle.excision.proofs.owners.Owners.of.Given as goal

abbrev pub invariant-loop-member : goal.invariant-loop-member
invariant-loop-member l = OwnersTo l.cells l.x.cells l.owners l.member
