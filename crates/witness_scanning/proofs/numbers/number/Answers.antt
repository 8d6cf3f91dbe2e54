use Rattle.std.proofs.Common.{◌≡◌, true, false, sym, ◌∙◌}
use Rattle.witness_scanning.specs.Numbers.{is_numeral}
use Rattle.witness_scanning.proofs.Digits.{counted, has_number, has_none}
use Rattle.witness_scanning.proofs.numbers.number.Goals as goal

pub returns-then-is_numeral : goal.returns-then-is_numeral
returns-then-is_numeral c =
    let w = counted c.args.bytes.now c.split_at.result.0.now c.split_at.result.1.now c.digits_len.result c.digits_len.ensures.count c.split_at.ensures.front c.split_at.ensures.back in
    let h : is_numeral c.split_at.result.0.now ≡ true = sym c.is_numeral.ensures ∙ c.if-is_numeral.true in
    has_number c.args.bytes.now c.split_at.result.0.now c.split_at.result.1.now w.0 w.1 w.2 h

pub returns-else-is_numeral : goal.returns-else-is_numeral
returns-else-is_numeral c =
    let w = counted c.args.bytes.now c.split_at.result.0.now c.split_at.result.1.now c.digits_len.result c.digits_len.ensures.count c.split_at.ensures.front c.split_at.ensures.back in
    let h : is_numeral c.split_at.result.0.now ≡ false = sym c.is_numeral.ensures ∙ c.if-is_numeral.false in
    has_none c.args.bytes.now c.split_at.result.0.now c.split_at.result.1.now w.0 w.1 w.2 h
