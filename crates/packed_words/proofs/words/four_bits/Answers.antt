use Rattle.std.proofs.Common.{sym}
use Rattle.packed_words.proofs.Placed.{nibble_shift}
use Rattle.packed_words.proofs.words.four_bits.Goals as goal

pub returns : goal.returns
returns c = sym (nibble_shift c.args.slot c.args.word)
