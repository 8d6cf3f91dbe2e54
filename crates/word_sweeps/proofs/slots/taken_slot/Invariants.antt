use Rattle.std.proofs.Common.{ℕ, ◌<◌}
use Rattle.word_sweeps.specs.FreeSlots.{IsFreeSlot, IsTold}
use Rattle.word_sweeps.proofs.slots.taken_slot.Given as goal

abbrev pub invariant-slots : goal.invariant-slots
invariant-slots l = (slot axis : ℕ) → slot < l.slot → IsTold l.last slot axis → ¬ IsFreeSlot l.own l.below l.axes slot axis
