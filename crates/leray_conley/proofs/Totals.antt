-- Sums over one place, and numbers modulo p
use Rattle.std.proofs.Common.{List, length, get_or, ◌≡◌, ℕ, zero, suc, ◌+◌, ◌-◌, ◌*◌, ◌/◌, ◌%◌, ◌<◌, ◌≤◌, refl, sym, ap, ◌∙◌, arith, true, false, cond, eqb, ne_eqb, eq-eqb, eqb-true, true≢false}
use Rattle.std.proofs.lemmas.Nat.{mul-lt}
use Rattle.field_mod.specs.Sums.{total}
use Rattle.field_mod.specs.Modular.{Same}
use Rattle.field_mod.proofs.Sums.{total-same, total-single}
use Rattle.field_mod.proofs.Modular.{same_by, same_refl, same_sym, same_trans, same-add, neg_cancel}

pub exact : {p a b : ℕ} → a ≡ b → Same p a b
exact {p} e = same_by p 0 0 _ _ (ap (λ v. v + p * 0) e)

pub eqb_sym : (a b : ℕ) → eqb a b ≡ eqb b a
eqb_sym a b = elim (eqb b a) as (λ v. eqb b a ≡ v → eqb a b ≡ v) [ true ↦ λ e. eq-eqb a b (sym (eqb-true b a e)) | false ↦ λ e. ne_eqb a b (λ q. let r = eq-eqb b a (sym q) in absurd (true≢false (sym r ∙ e))) ] refl

pub total-at : (n j : ℕ) (c : ℕ → ℕ) → j < n → total n (λ h. cond (eqb h j) 1 0 * c h) ≡ c j
total-at n j c l = total-same n (λ h. cond (eqb h j) 1 0 * c h) (λ h. cond (eqb j h) 1 0 * c h) (λ h m. ap (λ v. cond v 1 0 * c h) (eqb_sym h j)) ∙ total-single n j 1 c l ∙ omega arith

-- one more number at the end
pub total-more : (n : ℕ) (f : ℕ → ℕ) → total (n + 1) f ≡ total n f + f n
total-more zero f = omega arith
total-more (suc n) f = let e : suc n + 1 ≡ suc (n + 1) = omega arith in rw e (omega (arith, total-more n (λ i. f (suc i))))

pub total_next : (p n s t : ℕ) (f : ℕ → ℕ) → s ≡ total n f % p → t ≡ (s + f n) % p → t ≡ total (n + 1) f % p
total_next p n s t f es et = let e = total-more n f in et ∙ (same_by p (total n f / p) 0 (s + f n) (total (n + 1) f) (omega arith)).same

-- the product of two numbers of sixteen bits
pub small_product : (a b : ℕ) → a < 65536 → b < 65536 → a * b ≤ 4294967296
small_product a b x y = let l = mul-lt a b 65536 65536 x y in omega arith

-- the product of two lists, entry by entry
pub total-lists : (n : ℕ) (us vs : List ℕ) (a b : ℕ → ℕ) → length us ≡ n → ((l : ℕ) → l < n → get_or us l 0 ≡ a l) → ((l : ℕ) → l < n → get_or vs l 0 ≡ b l)
    → total (length us) (λ l. get_or us l 0 * get_or vs l 0) ≡ total n (λ l. a l * b l)
total-lists n us vs a b e ha hb =
    ap (λ (v : ℕ). total v (λ l. get_or us l 0 * get_or vs l 0)) e
    ∙ total-same n (λ l. get_or us l 0 * get_or vs l 0) (λ l. a l * b l) (λ l m. ap (λ (v : ℕ). v * get_or vs l 0) (ha l m) ∙ ap (λ (v : ℕ). a l * v) (hb l m))

pub positive_from_test : (n : ℕ) → eqb n 0 ≡ false → 0 < n
positive_from_test zero e = absurd (true≢false e)
positive_from_test (suc n) e = omega arith

-- a number whose negative is known
pub same_from_negative : (p x s : ℕ) → 1 ≤ p → Same p (x + (p - 1) * s) 0 → Same p s x
same_from_negative p x s l h =
    let o = neg_cancel p s l in
    same_trans (same_sym (same_trans (same-add h (same_refl p s)) (exact (omega arith)))) (same_by p 0 s _ _ (omega arith))
