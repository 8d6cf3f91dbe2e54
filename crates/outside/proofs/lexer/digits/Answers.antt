-- What is left to show of `digits`.
use Rattle.std.proofs.Common.{refl, ◌∙◌, sym, ap, min, ◌≡◌, ◌-◌, ◌^◌, arith}
use Rattle.outside.specs.Tokens.{digits_value}
use Rattle.outside.proofs.Lexing.{digit_taken, no_digits, no_digits_left}
use Rattle.outside.proofs.lexer.digits.Goals as goal

pub returns-then-not-is_ascii_digit-clause-value : goal.returns-then-not-is_ascii_digit-clause-value
returns-then-not-is_ascii_digit-clause-value c =
    let none = no_digits c.loop-rest.rest.now (sym c.is_ascii_digit.ensures.value ∙ c.if-not-is_ascii_digit.true) in
    let e : c.loop-rest.value ≡ min c.loop-rest.value (2 ^ 64 - 1) = omega (arith, c.loop-rest.invariant.small) in
    e ∙ sym (ap (λ l. min (digits_value c.loop-rest.value l) (2 ^ 64 - 1)) none) ∙ c.loop-rest.invariant.value

pub loop-rest-preserved : goal.loop-rest-preserved
loop-rest-preserved c =
    let step = digit_taken c.loop-rest.value c.with_digit-value.result c.loop-rest.rest.now _ c.in-len1-up.len_at_least
    (sym c.is_ascii_digit.ensures.value ∙ c.if-not-is_ascii_digit.false) c.with_digit-value.ensures refl in
    record { value = step.0 ∙ c.loop-rest.invariant.value; small = omega (arith, c.with_digit-value.ensures); rest = step.1 ∙ c.loop-rest.invariant.rest }

pub returns-clause-value : goal.returns-clause-value
returns-clause-value c =
    let none = no_digits_left c.loop-rest.rest.now c.in_default.len_below in
    let e : c.loop-rest.value ≡ min c.loop-rest.value (2 ^ 64 - 1) = omega (arith, c.loop-rest.invariant.small) in
    e ∙ sym (ap (λ l. min (digits_value c.loop-rest.value l) (2 ^ 64 - 1)) none) ∙ c.loop-rest.invariant.value
