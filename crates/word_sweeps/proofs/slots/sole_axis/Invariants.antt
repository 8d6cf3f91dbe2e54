use Rattle.word_sweeps.proofs.FreeSlots.{Sole}
use Rattle.word_sweeps.proofs.slots.sole_axis.Given as goal

abbrev pub invariant-axes : goal.invariant-axes
invariant-axes l = Sole l.own l.axis l.slot l.found
