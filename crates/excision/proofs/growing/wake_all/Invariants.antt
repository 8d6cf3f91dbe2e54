use Rattle.std.proofs.Common.{◌≡◌, ℕ, ◌<◌, get_or, true}
use Rattle.excision.specs.Left.{is_one_of}
use Rattle.excision.proofs.growing.wake_all.Given as goal

abbrev pub invariant-loop-member : goal.invariant-loop-member
invariant-loop-member l = record {
  kept : (j : ℕ) → is_one_of l.initial.waiting j ≡ true → is_one_of l.waiting j ≡ true;
  woken : (k : ℕ) → k < l.member-index → is_one_of l.waiting (get_or l.members k 0) ≡ true;
}
