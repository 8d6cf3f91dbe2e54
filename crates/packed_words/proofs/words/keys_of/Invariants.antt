use Rattle.packed_words.proofs.Keys.{AreKeysTo}
use Rattle.packed_words.proofs.words.keys_of.Given as goal

abbrev pub invariant-cells : goal.invariant-cells
invariant-cells l = AreKeysTo l.cells l.keys.items l.number
