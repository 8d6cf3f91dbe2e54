use Rattle.command_line.proofs.Tables.{listed_at}
use Rattle.command_line.proofs.modulus.number_named.Goals as goal

pub returns-then-eq-clause-member : goal.returns-then-eq-clause-member
returns-then-eq-clause-member c = listed_at c.args.numbers.now c.loop-number.number-index c.loop-number-test.true
