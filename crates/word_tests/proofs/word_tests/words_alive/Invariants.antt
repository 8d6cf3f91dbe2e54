use Rattle.std.proofs.Common.{◌≡◌, length}
use Rattle.word_tests.proofs.word_tests.words_alive.Given as goal

abbrev pub invariant-cells : goal.invariant-cells
invariant-cells l = length l.alive.items ≡ l.counter
