use Rattle.std.proofs.Common.{◌≡◌, ◌+◌, ◌-◌, false, sym, ap, ◌∙◌, arith, decimal}
use Rattle.std.specs.Str.{bytes_eq}
use Rattle.command_line.proofs.Tables.{number_missed}
use Rattle.command_line.proofs.operands.number_from.Goals as goal

pub loop-number-preserved : goal.loop-number-preserved
loop-number-preserved c =
    let n = c.loop-number.number in
    let end = c.args.least + c.args.count in
    let missed : bytes_eq c.args.word.now (decimal n) ≡ false = ap (bytes_eq c.args.word.now) (sym c.format.ensures.text) ∙ sym c.if-eq.ensures in
    sym (number_missed c.args.word.now n (end - n) (end - (n + 1)) (omega arith) missed) ∙ c.loop-number.invariant
