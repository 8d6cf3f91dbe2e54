-- What is printed of a number is its numeral.
use Rattle.std.proofs.Common.{◌≡◌, ℕ, ◌<◌, ◌^◌, sym, ap, ◌∙◌, arith, ⊎_elim, map, cond, ne_eqb, subst}
use Rattle.std.proofs.lemmas.Bool.{cases_eq}
use Rattle.std.proofs.lemmas.Fmt.{decimal_digit, decimal-digits_of}
use Rattle.std.specs.Prelude.{codes, decimal, ◌+◌}
use Rattle.std.specs.Int.Digits.{digits_of}
use Rattle.witness_laws.specs.Lines.{numeral}

pub printed : (n : ℕ) → n < 2 ^ 64 → decimal n ≡ numeral n
printed n small = ⊎_elim
    (λ e. subst (λ (k : ℕ). decimal k ≡ numeral k) (sym e) (decimal_digit 0 (omega arith)))
    (λ f. decimal-digits_of n (omega arith) small ∙ sym (ap (λ b. cond b (codes "0") (map (λ d. 48 + d) (digits_of 10 n))) (ne_eqb n 0 f)))
    (cases_eq n 0)
