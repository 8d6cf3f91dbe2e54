use Rattle.packed_words.proofs.Keys.{AreSetTo}
use Rattle.packed_words.proofs.words.words_of.Given as goal

abbrev pub invariant-cells : goal.invariant-cells
invariant-cells l = AreSetTo l.cells l.alive l.initial.words.keys l.words l.number
