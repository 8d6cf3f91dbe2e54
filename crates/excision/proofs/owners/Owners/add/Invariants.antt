use Rattle.std.proofs.Common.{◌≡◌, ℕ, ◌<◌, length, get_or}
use Rattle.excision.specs.Owners.{Names}
use Rattle.excision.proofs.owners.Owners.add.Given as goal

abbrev pub invariant-loop-number : goal.invariant-loop-number
invariant-loop-number l = record {
  count : length l.self ≡ length l.initial.self;
  kept : (n j : ℕ) → Names l.initial.self n j → Names l.self n j;
  added : (k : ℕ) → k < l.number-index → get_or l.numbers k 0 < length l.initial.self → Names l.self (get_or l.numbers k 0) l.member;
}
