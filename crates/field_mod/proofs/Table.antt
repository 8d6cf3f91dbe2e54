-- Each modulus of the table is a prime: one test, computed over the whole table, and the lemma that turns it into the rule
-- at each entry.
use Rattle.std.proofs.Common.{◌≡◌, ℕ, zero, suc, ◌*◌, ◌%◌, ◌<◌, ◌≤◌, ◌⊎◌, inl, inr, refl, sym, ap, ◌∙◌, arith, ⊎_elim, List, [], ◌∷◌, Bool, true, false, ◌||◌, ◌&&◌, eqb, leb, mod-lt, mod-eq_of_lt, eqb-true, leb-true, true≢false}
use Rattle.std.specs.Prelude.{◌==◌}
use Rattle.std.specs.List.{list_any, list_all}
use Rattle.std.proofs.lemmas.Nat.{mul-mod_second}
use native.Mathlib.Nat.{zero-mod, zero-mul}
use Rattle.field_mod.specs.Moduli.{moduli, IsModulus, ModuliAreFields}

abbrev any_below : ℕ → (ℕ → Bool) → Bool
any_below zero f = false
any_below (suc n) f = f n || any_below n f

abbrev all_below : ℕ → (ℕ → Bool) → Bool
all_below zero f = true
all_below (suc n) f = f n && all_below n f

abbrev has_inverses : ℕ → Bool
has_inverses p = leb 2 p && all_below p (λ a. eqb a 0 || any_below p (λ b. eqb ((b * a) % p) 1))

or_cases : (a b : Bool) → (a || b) ≡ true → (a ≡ true) ⊎ (b ≡ true)
or_cases true b h = inl refl
or_cases false b h = inr h

and_cases : (a b : Bool) → (a && b) ≡ true → (a ≡ true) × (b ≡ true)
and_cases true b h = (refl, h)
and_cases false b h = absurd (true≢false (sym h))

witness : (n : ℕ) (f : ℕ → Bool) → any_below n f ≡ true → (b : ℕ) × (b < n) × (f b ≡ true)
witness zero f h = absurd (true≢false (sym h))
witness (suc n) f h = ⊎_elim (λ a. (n, (omega arith), a)) (λ b. let w = witness n f b in (w.0, (omega arith), w.2)) (or_cases (f n) (any_below n f) h)

each_below : (n : ℕ) (f : ℕ → Bool) → all_below n f ≡ true → (i : ℕ) → i < n → f i ≡ true
each_below zero f h i l = absurd (omega arith)
each_below (suc n) f h i l =
    let c = and_cases (f n) (all_below n f) h in
    ⊎_elim (λ e. rw e c.0) (λ k. each_below n f c.1 i k) (cases i n (omega arith))
  where
    cases : (i n : ℕ) → i ≤ n → (i ≡ n) ⊎ (i < n)
    cases i n h = search arith

every : (f : ℕ → Bool) (p : ℕ) (qs : List ℕ) → list_all f qs ≡ true → list_any (λ q. q == p) qs ≡ true → f p ≡ true
every f p [] a h = absurd (true≢false (sym h))
every f p (q ∷ qs) a h =
    let c = and_cases (f q) (list_all f qs) a in
    ⊎_elim (λ e. let same : q ≡ p = omega (arith, eqb-true) in rw same at c.0) (λ r. every f p qs c.1 r) (or_cases (q == p) (list_any (λ q. q == p) qs) h)

table : list_all has_inverses moduli ≡ true
table = refl

listed : (p : ℕ) → IsModulus p → has_inverses p ≡ true
listed p h = every has_inverses p moduli table h

pub two_le : (p : ℕ) → IsModulus p → 2 ≤ p
two_le p h = leb-true 2 p (and_cases (leb 2 p) (all_below p (λ a. eqb a 0 || any_below p (λ b. eqb ((b * a) % p) 1))) (listed p h)).0

every_at_most : (m p : ℕ) (qs : List ℕ) → list_all (λ q. leb q m) qs ≡ true → list_any (λ q. q == p) qs ≡ true → p ≤ m
every_at_most m p qs a h = leb-true p m (every (λ q. leb q m) p qs a h)

-- so that a product of two elements fits sixteen bits
pub at_most_255 : (p : ℕ) → IsModulus p → p ≤ 255
at_most_255 p h = every_at_most 255 p moduli refl h

positive : (p b a : ℕ) → (b * a) % p ≡ 1 → 1 ≤ b
positive p zero a e = let z : (0 * a) % p ≡ 0 = ap (λ n. n % p) (zero-mul a) ∙ zero-mod p in absurd (omega arith)
positive p (suc b) a e = omega arith

pub inverse_below : (p a : ℕ) → IsModulus p → 0 < a → a < p → (b : ℕ) × (1 ≤ b) × (b < p) × ((b * a) % p ≡ 1)
inverse_below p a h pos below =
    let all = and_cases (leb 2 p) (all_below p (λ a. eqb a 0 || any_below p (λ b. eqb ((b * a) % p) 1))) (listed p h) in
    let at = each_below p (λ a. eqb a 0 || any_below p (λ b. eqb ((b * a) % p) 1)) all.1 a below in
    ⊎_elim (λ z. let e : a ≡ 0 = eqb-true a 0 z in absurd (omega arith)) (λ w. let b = witness p (λ b. eqb ((b * a) % p) 1) w in let e : (b.0 * a) % p ≡ 1 = eqb-true _ _ b.2 in (b.0, (positive p b.0 a e), b.1, e)) (or_cases (eqb a 0) (any_below p (λ b. eqb ((b * a) % p) 1)) at)

pub is_field : ModuliAreFields
is_field p h = record {
  above_one = two_le p h;
  inverse = λ a n.
      let two = two_le p h in
      let m : a % p < p = mod-lt a (omega arith) in
      let pos : 0 < a % p = ⊎_elim (λ e. absurd (n (record { same = e ∙ sym (zero-mod p) }))) (λ l. l) (zero_or (a % p)) in
      let b = inverse_below p (a % p) h pos m in
      (b.0, record { same = sym (mul-mod_second b.0 a p) ∙ b.3 ∙ sym (mod-eq_of_lt (omega arith)) });
}
  where
    zero_or : (n : ℕ) → (n ≡ 0) ⊎ (0 < n)
    zero_or zero = inl refl
    zero_or (suc n) = inr (omega arith)
