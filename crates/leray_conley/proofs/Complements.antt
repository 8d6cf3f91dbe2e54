-- A vector that is 1 at a place splits it off
use Rattle.std.proofs.Common.{◌≡◌, ℕ, zero, suc, ◌+◌, ◌-◌, ◌*◌, ◌≤◌, refl, sym, ◌∙◌, arith}
use Rattle.field_mod.specs.Sums.{total}
use Rattle.field_mod.specs.Modular.{Same}
use Rattle.field_mod.proofs.Sums.{total-same, total-scale}
use Rattle.field_mod.proofs.Modular.{same_by, same_refl, same_sym, same_trans, same-add, same-scale, neg_cancel}
use Rattle.leray_conley.proofs.Totals.{exact, total-at}
use Rattle.leray_conley.specs.Products.{product, identity, AreSame, none}
use Rattle.leray_conley.specs.Kernels.{IsKilled}
use Rattle.leray_conley.proofs.Algebra.{plus}

-- the numbers other than k, in order
abbrev pub skip : ℕ → ℕ → ℕ
skip zero i = suc i
skip (suc k) zero = 0
skip (suc k) (suc i) = suc (skip k i)

total-skip : (n k : ℕ) (f : ℕ → ℕ) → k ≤ n → total (suc n) f ≡ f k + total n (λ i. f (skip k i))
total-skip n zero f h = refl
total-skip zero (suc k) f h = absurd (omega arith)
total-skip (suc n) (suc k) f h = omega (arith, total-skip n k (λ i. f (suc i)) (omega arith))

module _ (p e k : ℕ) (v : ℕ → ℕ) (one : 1 ≤ p) (low : k ≤ e) (unit : Same p (v k) 1) where
  -- x less its part along v
  abbrev off : ℕ → ℕ → ℕ
  off m j = identity m j + (p - 1) * (identity k j * v m)

  abbrev pub into : ℕ → ℕ → ℕ
  into i l = identity i (skip k l)

  abbrev pub onto : ℕ → ℕ → ℕ
  onto i j = off (skip k i) j

  abbrev pub vector : ℕ → ℕ → ℕ
  vector i j = v i

  abbrev pub place : ℕ → ℕ → ℕ
  place i j = identity k j

  off_k : (j : ℕ) → Same p (off k j) 0
  off_k j =
      let g : ℕ = identity k j in
      let o = neg_cancel p g one in
      same_trans (same-add (same_refl p g) (same-scale (p - 1) (same-scale g unit))) (same_by p 0 g _ _ (omega (arith, o)))

  pub split : AreSame p (suc e) (suc e) (plus (product e into onto) (product 1 vector place)) identity
  split = record {
    at = λ i j x y.
        let t = product e into onto i j in
        let a : identity i k * off k j + t ≡ off i j = sym (total-skip e k (λ m. identity i m * off m j) low) ∙ total-at (suc e) i (λ m. off m j) x in
        let w : ℕ = v i * identity k j in
        let o = neg_cancel p w one in
        let b : Same p t (off i j) = same_trans (same_sym (same_trans (same-add (same-scale (identity i k) (off_k j)) (same_refl p t)) (exact (omega arith)))) (exact a) in
        same_trans (same-add b (same_refl p (w + 0))) (same_by p 0 w _ _ (omega (arith, o)));
  }

-- a vector that is killed, product a number
pub scaled_dead : (p d : ℕ) (a : ℕ → ℕ → ℕ) (w : ℕ → ℕ) (c : ℕ) → IsKilled p d d a w → AreSame p d 1 (product d a (λ i j. c * w i)) none
scaled_dead p d a w c h = record {
  at = λ i j x y.
      same_trans (exact (total-same d (λ l. a i l * (c * w l)) (λ l. c * (a i l * w l)) (λ l _. omega arith) ∙ total-scale d c (λ l. a i l * w l))) (same_trans (same-scale c (h.kills i x)) (exact (omega arith)));
}
