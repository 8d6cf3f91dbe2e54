-- What is left to show of `dashed`.
use Rattle.std.proofs.Common.{◌∙◌, sym, ap, Some}
use Rattle.outside.proofs.Lexing.{dashed-digit}
use Rattle.outside.proofs.lexer.dashed.Goals as goal

pub returns-in-len1-up-clause-token : goal.returns-in-len1-up-clause-token
returns-in-len1-up-clause-token c = c.number.ensures _ c.digits-value.ensures.value
    ∙ sym (ap (λ t. Some t) (dashed-digit c.args.bytes.now c.in-len1-up.len_at_least (sym c.is_ascii_digit.ensures.value ∙ c.if-is_ascii_digit.true)))
