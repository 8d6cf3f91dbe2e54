use Rattle.std.proofs.Common.{ℕ, ◌≡◌, get_or, length}
use Rattle.packed_words.proofs.words.zero_words.Given as goal

abbrev pub invariant-loop : goal.invariant-loop
invariant-loop l = record {
  count : length l.words.items ≡ l.counter;
  zero : (j : ℕ) → get_or l.words.items j 0 ≡ 0;
}
