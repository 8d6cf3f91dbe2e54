use Rattle.std.proofs.Common.{take}
use Rattle.chain_selector.proofs.OtherNumbers.{AreRenumbered}
use Rattle.chain_selector.proofs.renumbering.renumbered.Given as goal

abbrev pub invariant-loop-place : goal.invariant-loop-place
invariant-loop-place g l = AreRenumbered l.from l.to (take l.place l.chain) l.terms.items
