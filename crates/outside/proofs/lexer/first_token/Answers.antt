-- What is left to show of `first_token`.
use Rattle.std.proofs.Common.{◌∙◌, sym, refl}
use Rattle.outside.proofs.Lexing.{token_of-digit, behind_dash, behind_one, size_of-one}
use Rattle.outside.proofs.lexer.first_token.Goals as goal

pub returns-then-is_ascii_digit-clause-token : goal.returns-then-is_ascii_digit-clause-token
returns-then-is_ascii_digit-clause-token c = c.number.ensures _ c.digits-value.ensures.value
    ∙ sym (token_of-digit c.args.bytes.now c.in-len1-up.len_at_least (sym c.is_ascii_digit.ensures.value ∙ c.if-is_ascii_digit.true))

pub returns-then-b-eq45-clause-behind : goal.returns-then-b-eq45-clause-behind
returns-then-b-eq45-clause-behind c = behind_dash c.args.bytes.now _ _ c.in-len1-up.len_at_least c.if-b-eq45.true refl c.dashed.ensures.behind

pub returns-then-is_mark-clause-behind : goal.returns-then-is_mark-clause-behind
returns-then-is_mark-clause-behind c = behind_one c.args.bytes.now c.in-len1-up.len_at_least (size_of-one c.args.bytes.now c.in-len1-up.len_at_least
    (sym c.is_ascii_digit.ensures.value ∙ c.if-is_ascii_digit.false) c.if-b-eq45.false (sym c.is_ascii_alphabetic.ensures.value ∙ c.if-is_ascii_alphabetic.false))

pub returns-else-is_mark-clause-behind : goal.returns-else-is_mark-clause-behind
returns-else-is_mark-clause-behind c = behind_one c.args.bytes.now c.in-len1-up.len_at_least (size_of-one c.args.bytes.now c.in-len1-up.len_at_least
    (sym c.is_ascii_digit.ensures.value ∙ c.if-is_ascii_digit.false) c.if-b-eq45.false (sym c.is_ascii_alphabetic.ensures.value ∙ c.if-is_ascii_alphabetic.false))
