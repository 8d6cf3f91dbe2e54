use Rattle.std.proofs.Common.{arith}
use Rattle.witness_scanning.proofs.Behind.{numbers_none}
use Rattle.witness_scanning.proofs.fronts.after_numbers.Goals as goal

pub returns-in_default : goal.returns-in_default
returns-in_default c rest e =
    numbers_none c.args.bytes.now c.args.numbers.now c.loop-number.number-index c.loop-number.rest.now rest (omega arith) c.loop-number.invariant c.in_default.ensures e
