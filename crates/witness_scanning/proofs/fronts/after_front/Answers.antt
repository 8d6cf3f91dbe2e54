use Rattle.std.proofs.Common.{◌++◌}
use Rattle.witness_laws.specs.Lines.{numbers_text}
use Rattle.witness_scanning.proofs.Behind.{behind_word}
use Rattle.witness_scanning.proofs.fronts.after_front.Goals as goal

pub returns : goal.returns
returns c = behind_word c.args.bytes.now (c.args.word.now ++ numbers_text c.args.numbers.now) c.args.mark.now c.in_ok-behind.behind.now c.after.result c.in_ok-behind.ensures c.after.ensures
