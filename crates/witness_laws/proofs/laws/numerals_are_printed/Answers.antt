use Rattle.witness_laws.proofs.Numerals.{printed}
use Rattle.witness_laws.proofs.laws.numerals_are_printed.Goals as goal

pub returns : goal.returns
returns c = printed
