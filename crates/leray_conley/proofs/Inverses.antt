-- An inverse, or a vector that is killed
use Rattle.std.proofs.Common.{◌≡◌, ℕ, zero, suc, ◌+◌, ◌-◌, ◌*◌, ◌<◌, ◌⊎◌, inl, inr, ap, ◌∙◌, arith, ⊎_elim}
use Rattle.std.proofs.lemmas.Bool.{cases_lt}
use Rattle.field_mod.specs.Sums.{total}
use Rattle.field_mod.specs.Modular.{Same, IsField}
use Rattle.field_mod.proofs.Sums.{total-same, total-scale, total_none}
use Rattle.field_mod.proofs.Modular.{same_by, same_refl, same_sym, same_trans, same-add, same-scale, same-mul, decide_zero, neg_cancel}
use Rattle.leray_conley.proofs.Totals.{exact}
use Rattle.leray_conley.specs.Products.{product, identity, none, AreSame}
use Rattle.leray_conley.specs.Kernels.{IsKilled}
use Rattle.leray_conley.specs.Inverses.{IsInverse, InverseOrKernel, RightInversesAreLeft}
use Rattle.leray_conley.proofs.Algebra.{by, chain, mul_left, mul_right, assoc, one_mul, mul_one, mul_none}
use Rattle.field_mod.proofs.Solutions.{Solution, solve}

-- a vector that the matrix sends to the i-th of the standard ones
record Column (p d : ℕ) (a : ℕ → ℕ → ℕ) (i : ℕ) : Type 0 where
  x : ℕ → ℕ
  solves : i < d → (l : ℕ) → l < d → Same p (total d (λ j. a l j * x j)) (identity l i)

each_or : (n : ℕ) (C : Type 0) (P : ℕ → Type 0) → ((i : ℕ) → C ⊎ P i) → C ⊎ ((i : ℕ) → i < n → P i)
each_or zero C P h = inr (λ i l. absurd (omega arith))
each_or (suc n) C P h =
    elim (h 0) [
      | inl c ↦ inl c
      | inr b ↦ elim (each_or n C (λ i. P (suc i)) (λ i. h (suc i))) [
        | inl c ↦ inl c
        | inr hs ↦ inr (λ i. elim i as (λ r. r < suc n → P r) [ zero ↦ λ l. b | suc r ↦ λ l. hs r (omega arith) ])
      ]
    ]

-- the equations of a column, with one more unknown in front
abbrev more : ℕ → (ℕ → ℕ → ℕ) → ℕ → ℕ → ℕ → ℕ
more p a i l zero = (p - 1) * identity l i
more p a i l (suc j) = a l j

module _ (p d : ℕ) (a : ℕ → ℕ → ℕ) (field : IsField p) where
  abbrev Killed : Type 0
  Killed = (v : ℕ → ℕ) × IsKilled p d d a v

  column : (i : ℕ) → Killed ⊎ Column p d a i
  column i =
      let s : Solution p (suc d) d (more p a i) = solve p field d (suc d) (omega arith) (more p a i) in
      let t : ℕ = s.at 0 in
      let y : ℕ → ℕ = λ j. s.at (suc j) in
      let turn : (l : ℕ) → total d (λ j. a l j * y j) ≡ total d (λ j. y j * a l j) = λ l. total-same d (λ j. a l j * y j) (λ j. y j * a l j) (λ j _. omega arith) in
      let solves : (l : ℕ) → l < d → Same p (t * ((p - 1) * identity l i) + total d (λ j. a l j * y j)) 0 = λ l m. same_trans (exact (ap (λ q. t * ((p - 1) * identity l i) + q) (turn l))) (s.solves l m) in
      ⊎_elim
      (λ z. inl (
        y,
        record {
          place = s.place - 1;
          within = ⊎_elim (λ e. absurd (s.nonzero (at_first s.place e s.at z))) (λ e. let w = s.within in omega arith) (cases_first s.place);
          nonzero = λ u. ⊎_elim (λ e. absurd (s.nonzero (at_first s.place e s.at z))) (λ e. s.nonzero (same_trans (exact (ap s.at e)) u)) (cases_first s.place);
          kills = λ l m. same_trans (same_sym (same_trans (same-add (same-mul z (same_refl p ((p - 1) * identity l i))) (same_refl p (total d (λ j. a l j * y j)))) (exact (omega arith)))) (solves l m);
        },
      ))
      (λ nz. let w = field.inverse t nz in inr (record {
        x = λ j. w.0 * y j;
        solves = λ b l m.
            let q : ℕ = total d (λ j. a l j * y j) in
            let e : total d (λ j. a l j * (w.0 * y j)) ≡ w.0 * q = total-same d (λ j. a l j * (w.0 * y j)) (λ j. w.0 * (a l j * y j)) (λ j _. omega arith) ∙ total-scale d w.0 (λ j. a l j * y j) in
            let g : ℕ = identity l i in
            let o = neg_cancel p (t * g) (let b2 = field.above_one in omega arith) in
            let r : Same p q (t * g) = same_trans (same_by p (t * g) 0 q ((t * ((p - 1) * g) + q) + t * g) (omega (arith, o))) (same_trans (same-add (solves l m) (same_refl p (t * g))) (exact (omega arith))) in
            same_trans (exact e) (same_trans (same-scale w.0 r) (same_trans (exact (omega arith)) (same_trans (same-mul w.1 (same_refl p g)) (exact (omega arith)))));
      }))
      (decide_zero p t)
    where
      cases_first : (k : ℕ) → (k ≡ 0) ⊎ (k ≡ suc (k - 1))
      cases_first k = ⊎_elim (λ l. inl (omega arith)) (λ l. inr (omega arith)) (cases_lt k 1)

      at_first : (k : ℕ) → k ≡ 0 → (f : ℕ → ℕ) → Same p (f 0) 0 → Same p (f k) 0
      at_first k e f z = same_trans (exact (ap f e)) z

  pub right_or_kernel : Killed ⊎ ((b : ℕ → ℕ → ℕ) × AreSame p d d (product d a b) identity)
  right_or_kernel = ⊎_elim
      (λ k. inl k)
      (λ h. let c : (i : ℕ) → Column p d a i = λ i. ⊎_elim (λ l. h i l) (λ l. record { x = λ j. 0; solves = λ m. absurd (omega arith) }) (cases_lt i d) in
      inr ((λ j i. (c i).x j), record { at = λ l i m n. (c i).solves n l m }))
      (each_or d Killed (Column p d a) column)

pub right_inverses_are_left : RightInversesAreLeft
right_inverses_are_left p d a b field h = ⊎_elim
    (λ k. let v = k.0 in let w = k.1 in
    let col : ℕ → ℕ → ℕ = λ i j. v i in
    let z : AreSame p d 1 (product d b col) (λ i j. 0) = record { at = λ i j x y. w.kills i x } in
    let e : AreSame p d 1 col (product d a (product d b col)) = chain (by (one_mul p d 1 col)) (chain (mul_left p d d 1 identity (product d a b) col (by h)) (assoc p d d d 1 a b col)) in
    let f : AreSame p d 1 (product d a (product d b col)) (product d a (λ i j. 0)) = mul_right p d d 1 a (product d b col) (λ i j. 0) z in
    absurd (w.nonzero (same_trans ((chain e f).at w.place 0 w.within (omega arith)) (total_none p d (λ l. a w.place l * 0) (λ l _. exact (omega arith))))))
    (λ k. let c = k.0 in
    let e : AreSame p d d a c = chain (by (mul_one p d d a)) (chain (mul_right p d d d a identity (product d b c) (by k.1)) (chain (by (assoc p d d d d a b c)) (chain (mul_left p d d d (product d a b) identity c h) (one_mul p d d c)))) in
    chain (mul_right p d d d b a c e) k.1)
    (right_or_kernel p d b field)

pub inverse_or_kernel : InverseOrKernel
inverse_or_kernel p d a field = ⊎_elim (λ k. inr k) (λ b. inl (b.0, (b.1, right_inverses_are_left p d a b.0 field b.1))) (right_or_kernel p d a field)

-- where a vector is killed, there is no inverse
pub no_inverse : (p d : ℕ) (a : ℕ → ℕ → ℕ) (v : ℕ → ℕ) → IsKilled p d d a v → (b : ℕ → ℕ → ℕ) → IsInverse p d a b → ⊥
no_inverse p d a v k b h =
    let col : ℕ → ℕ → ℕ = λ i j. v i in
    let z : AreSame p d 1 (product d a col) none = record { at = λ i j x y. k.kills i x } in
    let e : AreSame p d 1 col none = chain (by (one_mul p d 1 col)) (chain (mul_left p d d 1 identity (product d b a) col (by h.1)) (chain (assoc p d d d 1 b a col) (chain (mul_right p d d 1 b (product d a col) none z) (mul_none p d d 1 b)))) in
    k.nonzero (e.at k.place 0 k.within (omega arith))
