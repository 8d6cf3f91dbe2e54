use Rattle.std.proofs.Common.{ℕ, ◌<◌, ◌^◌}
use Rattle.std.specs.Prelude.{IfSome, IfNone}
use Rattle.word_sweeps.specs.FreeSlots.{IsFreeSlot}
use Rattle.word_sweeps.proofs.slots.free_slot.Given as goal

abbrev pub invariant-slots : goal.invariant-slots
invariant-slots l = record {
  some : IfSome l.found (λ t. IsFreeSlot l.own l.below l.axes t.slot t.axis);
  few : IfSome l.found (λ t. t.slot < 2 ^ l.axes);
  none : IfNone l.found ((slot axis : ℕ) → slot < l.slot → ¬ IsFreeSlot l.own l.below l.axes slot axis);
}
