-- Equality modulo p: how it is shown, and that sums and products respect it; numbers that are not 0 modulo p.
use Rattle.std.proofs.Common.{◌≡◌, ℕ, zero, suc, ◌+◌, ◌-◌, ◌*◌, ◌/◌, ◌%◌, ◌≤◌, ◌⊎◌, inl, inr, refl, sym, ap, ◌∙◌, arith, ⊎_elim}
use native.Mathlib.Nat.{add-mul-mod_self_left, zero-mod, eq-zero-or-pos, mod-eq_of_lt}
use Rattle.std.proofs.lemmas.Nat.{mul-mod}
use Rattle.field_mod.specs.Modular.{Same, NonZero, IsField}

-- the workhorse: u and v are quotients, 0 where the sides are equal
pub same_by : (p u v a b : ℕ) → a + p * u ≡ b + p * v → Same p a b
same_by p u v a b e = record { same = sym (add-mul-mod_self_left a p u) ∙ ap (λ n. n % p) e ∙ add-mul-mod_self_left b p v }

pub same_refl : (p a : ℕ) → Same p a a
same_refl p a = record { same = refl }

pub same_sym : {p a b : ℕ} → Same p a b → Same p b a
same_sym h = record { same = sym h.same }

pub same_trans : {p a b c : ℕ} → Same p a b → Same p b c → Same p a c
same_trans h k = record { same = h.same ∙ k.same }

pub same-add : {p a b c d : ℕ} → Same p a b → Same p c d → Same p (a + c) (b + d)
same-add {p} {a} {b} {c} {d} h k = let s = h.same in let t = k.same in
    same_by p (b / p + d / p) (a / p + c / p) _ _ (omega arith)

pub same-scale : {p a b : ℕ} (c : ℕ) → Same p a b → Same p (c * a) (c * b)
same-scale {p} {a} {b} c h = record { same = mul-mod c a p ∙ ap (λ n. (c % p * n) % p) h.same ∙ sym (mul-mod c b p) }

pub same-mul : {p a b c d : ℕ} → Same p a b → Same p c d → Same p (a * c) (b * d)
same-mul {p} {a} {b} {c} {d} h k = record { same = mul-mod a c p ∙ ap (λ n. (n * (c % p)) % p) h.same ∙ ap (λ n. (b % p * n) % p) k.same ∙ sym (mul-mod b d p) }

-- a number and its negative
pub neg_cancel : (p x : ℕ) → 1 ≤ p → (p - 1) * x + x ≡ p * x
neg_cancel zero x h = absurd (omega arith)
neg_cancel (suc p) x h = let e : suc p - 1 ≡ p = omega arith in rw e (omega arith)

pub decide_zero : (p a : ℕ) → Same p a 0 ⊎ NonZero p a
decide_zero p a = ⊎_elim (λ e. inl (record { same = e ∙ sym (zero-mod p) })) (λ l. inr (λ s. let t = s.same in let z = zero-mod p in omega arith)) (eq-zero-or-pos (a % p))

pub one_nonzero : (p : ℕ) → 2 ≤ p → NonZero p 1
one_nonzero p h s = let t : 1 % p ≡ 0 = s.same ∙ zero-mod p in let u : 1 % p ≡ 1 = mod-eq_of_lt (omega arith) in absurd (omega arith)

pub nonzero-mul : (p a b : ℕ) → IsField p → NonZero p a → NonZero p b → NonZero p (a * b)
nonzero-mul p a b inv ha hb s =
    let w = inv.inverse a ha in
    hb (same_trans (same_sym (same_by p 0 0 _ _ (omega arith))) (same_trans (same_sym (same-mul w.1 (same_refl p b))) (same_trans (same_by p 0 0 (w.0 * a * b) (w.0 * (a * b)) (omega arith)) (same_trans (same-scale w.0 s) (same_by p 0 0 _ _ (omega arith))))))
