-- Numbers that are kept modulo p.
use Rattle.std.proofs.Common.{◌≡◌, ℕ, ◌+◌, ◌-◌, ◌*◌, ◌/◌, ◌%◌, ◌^◌, ◌<◌, ◌≤◌, sym, ◌∙◌, arith, List, mod-eq_of_lt, subst}
use native.Mathlib.Nat.{zero-mod}
use Rattle.field_mod.specs.Modular.{Same}
use Rattle.field_mod.proofs.Modular.{same_by, neg_cancel}
use Rattle.chains.specs.Terms.{coefficient, IsNormal}
use Rattle.chains.proofs.TermLists.{coefficient-lt}

pub number_below : (p n g : ℕ) (ts : List (ℕ × ℕ)) → 2 ≤ p → IsNormal p ts → n ≡ coefficient ts g → n < p
number_below p n g ts two normal e = let l = coefficient-lt p 0 (2 ^ 32) ts g (omega arith) normal in omega arith

pub same_zero : (p n : ℕ) → n < p → Same p n 0 → n ≡ 0
same_zero p n l s = sym (mod-eq_of_lt l) ∙ s.same ∙ zero-mod p

pub negated : (p a s : ℕ) → 1 ≤ p → s ≡ (p - a % p) % p → Same p s ((p - 1) * a)
negated p a s pos e =
    let c = neg_cancel p a pos in
    let below : a % p < p = omega arith in
    same_by p (a + (p - a % p) / p) (1 + a / p) _ _ (omega arith)

-- a number that is kept modulo p
pub reduced : (p n m : ℕ) → n ≡ m % p → Same p n m
reduced p n m e = same_by p (m / p) 0 _ _ (omega arith)

-- -1 is its own inverse
pub unit_square : (p q : ℕ) → 2 ≤ p → q + 1 ≡ p → (q * q) % p ≡ 1
unit_square p q two e = subst (λ (k : ℕ). (q * q) % k ≡ 1) e ((same_by (q + 1) 1 q (q * q) 1 (omega arith)).same ∙ mod-eq_of_lt one)
  where
    one : 1 < q + 1
    one = omega arith
