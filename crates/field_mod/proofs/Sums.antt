-- Finite sums: equal terms, zeros, sums, multiples, the order of a double sum, and a sum over one place; then the same modulo p.
use Rattle.std.proofs.Common.{◌≡◌, ℕ, zero, suc, ◌+◌, ◌*◌, ◌<◌, ◌≤◌, refl, sym, ap, ◌∙◌, arith, true, false, cond, eqb, eqb-true, eq-eqb, ne_eqb, true≢false}
use native.Mathlib.Nat.{zero-mul}
use Rattle.field_mod.specs.Modular.{Same}
use Rattle.field_mod.specs.Sums.{total, SumsAreLinear, SumsChangeOrder}
use Rattle.field_mod.proofs.Modular.{same_by, same_refl, same_trans, same-add, same-scale}

pub total-same : (n : ℕ) (f g : ℕ → ℕ) → ((i : ℕ) → i < n → f i ≡ g i) → total n f ≡ total n g
total-same zero f g h = refl
total-same (suc n) f g h = let e : f 0 ≡ g 0 = h 0 (omega arith) in omega (arith, e, total-same n (λ i. f (suc i)) (λ i. g (suc i)) (λ i l. h (suc i) (omega arith)))

pub total-zero : (n : ℕ) → total n (λ i. 0) ≡ 0
total-zero zero = refl
total-zero (suc n) = omega (arith, total-zero n)

pub total-add : (n : ℕ) (f g : ℕ → ℕ) → total n (λ i. f i + g i) ≡ total n f + total n g
total-add zero f g = refl
total-add (suc n) f g = omega (arith, total-add n (λ i. f (suc i)) (λ i. g (suc i)))

pub total-scale : (n c : ℕ) (f : ℕ → ℕ) → total n (λ i. c * f i) ≡ c * total n f
total-scale zero c f = omega arith
total-scale (suc n) c f = omega (arith, total-scale n c (λ i. f (suc i)))

pub total-swap : (n m : ℕ) (f : ℕ → ℕ → ℕ) → total n (λ i. total m (λ j. f i j)) ≡ total m (λ j. total n (λ i. f i j))
total-swap zero m f = sym (total-zero m)
total-swap (suc n) m f = omega (arith, total-swap n m (λ i j. f (suc i) j), total-add m (λ j. f 0 j) (λ j. total n (λ i. f (suc i) j)))

eqb-suc : (a b : ℕ) → eqb (suc a) (suc b) ≡ eqb a b
eqb-suc a b = elim (eqb a b) as (λ v. eqb a b ≡ v → eqb (suc a) (suc b) ≡ v) [ true ↦ λ e. let q = eqb-true a b e in eq-eqb (suc a) (suc b) (omega arith) | false ↦ λ e. ne_eqb (suc a) (suc b) (λ q. let r : a ≡ b = omega arith in true≢false (sym (eq-eqb a b r) ∙ e)) ] refl

-- the sum over one place
pub total-single : (n k a : ℕ) (f : ℕ → ℕ) → k < n → total n (λ h. cond (eqb k h) a 0 * f h) ≡ a * f k
total-single zero k a f l = absurd (omega arith)
total-single (suc n) zero a f l = omega (arith, total-same n (λ h. cond (eqb 0 (suc h)) a 0 * f (suc h)) (λ h. 0) (λ h m. rw (ne_eqb 0 (suc h) (omega arith)) (zero-mul (f (suc h)))), total-zero n)
total-single (suc n) (suc k) a f l =
    let z : cond (eqb (suc k) 0) a 0 * f 0 ≡ 0 = rw (ne_eqb (suc k) 0 (omega arith)) (zero-mul (f 0)) in
    let e = total-same n (λ h. cond (eqb (suc k) (suc h)) a 0 * f (suc h)) (λ h. cond (eqb k h) a 0 * f (suc h)) (λ h m. ap (λ b. cond b a 0 * f (suc h)) (eqb-suc k h)) in
    omega (arith, z, e, total-single n k a (λ h. f (suc h)) (omega arith))

-- the place is not among them
pub total-beside : (n k a : ℕ) (f : ℕ → ℕ) → n ≤ k → total n (λ h. cond (eqb k h) a 0 * f h) ≡ 0
total-beside n k a f l = total-same n (λ h. cond (eqb k h) a 0 * f h) (λ h. 0) (λ h m. rw (ne_eqb k h (omega arith)) (zero-mul (f h))) ∙ total-zero n

pub linear : SumsAreLinear
linear n a b f g = total-add n (λ i. a * f i) (λ i. b * g i) ∙ ap (λ s. s + total n (λ i. b * g i)) (total-scale n a f) ∙ ap (λ s. a * total n f + s) (total-scale n b g)

pub swap : SumsChangeOrder
swap = total-swap

pub total_same : (p n : ℕ) (f g : ℕ → ℕ) → ((i : ℕ) → i < n → Same p (f i) (g i)) → Same p (total n f) (total n g)
total_same p zero f g h = same_refl p 0
total_same p (suc n) f g h = same-add (h 0 (omega arith)) (total_same p n (λ i. f (suc i)) (λ i. g (suc i)) (λ i l. h (suc i) (omega arith)))

-- terms that are 0 modulo p, and multiples of such
pub total_none : (p n : ℕ) (f : ℕ → ℕ) → ((i : ℕ) → i < n → Same p (f i) 0) → Same p (total n f) 0
total_none p n f h = same_trans (total_same p n f (λ i. 0) h) (same_by p 0 0 _ _ (omega (arith, total-zero n)))

pub all_zero : (p n : ℕ) (x a : ℕ → ℕ) → ((j : ℕ) → j < n → Same p (a j) 0) → Same p (total n (λ j. x j * a j)) 0
all_zero p n x a h = total_none p n (λ j. x j * a j) (λ j l. same_trans (same-scale (x j) (h j l)) (same_by p 0 0 _ _ (omega arith)))
