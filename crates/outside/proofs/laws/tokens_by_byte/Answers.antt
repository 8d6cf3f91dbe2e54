-- What is left to show of `tokens_by_byte`.
use Rattle.outside.proofs.ScanningLemmas.{tokens_by_byte}
use Rattle.outside.proofs.laws.tokens_by_byte.Goals as goal

pub returns : goal.returns
returns c = tokens_by_byte c.args.bytes.now
