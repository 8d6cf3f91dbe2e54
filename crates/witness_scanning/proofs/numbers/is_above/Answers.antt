use Rattle.std.proofs.Common.{arith}
use Rattle.witness_scanning.proofs.Digits.{above_same, above_other}
use Rattle.witness_scanning.proofs.numbers.is_above.Goals as goal

pub returns-then-last-digits : goal.returns-then-last-digits
returns-then-last-digits c = above_same c.args.last.now c.args.digits.now c.is_less.result (omega arith) c.is_less.ensures

pub returns-else-last-digits : goal.returns-else-last-digits
returns-else-last-digits c = above_other c.args.last.now c.args.digits.now (λ e. omega arith)
