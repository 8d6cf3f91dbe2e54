use Rattle.std.proofs.Common.{arith}
use Rattle.packed_words.proofs.Keys.{zero_words_are, zero_states}
use Rattle.packed_words.proofs.words.zero_words.Goals as goal

pub invariant_of-result : goal.invariant_of-result
invariant_of-result c = zero_words_are c.args.keys.items c.loop.words.items c.requires.sorted c.requires.fit (omega (arith, c.requires.few)) (omega (arith, c.loop.invariant.count)) c.loop.invariant.zero

pub returns-clause-zero : goal.returns-clause-zero
returns-clause-zero c = zero_states (record { keys = c.args.keys.items; words = c.loop.words.items }) c.loop.invariant.zero
