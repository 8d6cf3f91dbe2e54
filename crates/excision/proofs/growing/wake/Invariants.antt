use Rattle.std.proofs.Common.{◌≡◌, ℕ, ◌<◌, get_or, true}
use Rattle.excision.specs.Left.{is_one_of}
use Rattle.excision.specs.Owners.{Names}
use Rattle.excision.proofs.growing.wake.Given as goal

abbrev pub invariant-loop-number : goal.invariant-loop-number
invariant-loop-number l = record {
  kept : (j : ℕ) → is_one_of l.initial.waiting j ≡ true → is_one_of l.waiting j ≡ true;
  woken : (k j : ℕ) → k < l.number-index → Names l.owners (get_or l.numbers k 0) j → is_one_of l.waiting j ≡ true;
}
