use Rattle.std.proofs.Common.{ℕ, ◌<◌, get_or}
use Rattle.word_sweeps.specs.FreeSlots.{HasCoface}
use Rattle.word_sweeps.proofs.slots.is_blocked.Given as goal

abbrev pub invariant-axes : goal.invariant-axes
invariant-axes l = (k : ℕ) → k < l.axis → ¬ HasCoface (get_or l.below k 0) l.slot k
