use Rattle.std.proofs.Common.{◌∙◌, sym, arith}
use Rattle.packed_words.proofs.Placed.{no_word}
use Rattle.packed_words.proofs.words.Words.state_at.Goals as goal

pub returns-then-place-len : goal.returns-then-place-len
returns-then-place-len c = no_word c.args.self.now c.args.cell.now c.len.ensures.words.count (sym c.requires.place ∙ omega arith)
