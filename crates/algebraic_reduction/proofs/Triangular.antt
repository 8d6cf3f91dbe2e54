-- Solving a triangular system by its last equations first. Equation i has the pivot v i; it is kept where the value at v i is
-- the value at the start less inverse i times the sum of e i g times the values at all other g.
use Rattle.std.proofs.Common.{◌≡◌, ◌≢◌, ℕ, ◌+◌, ◌-◌, ◌*◌, ◌<◌, ◌≤◌, ◌⊎◌, inl, inr, refl, sym, arith, ⊎_elim, true, false, cond, eqb, eq-eqb, ne_eqb, Bool, subst}
use Rattle.std.proofs.lemmas.Bool.{cases_eq, cases_lt}
use Rattle.field_mod.specs.Modular.{Same, minus}
use Rattle.field_mod.proofs.Sums.{total-zero, total_same}
use Rattle.field_mod.proofs.Modular.{same_by, same_refl, same_sym, same_trans, same-add, same-scale, same-mul}
use Rattle.algebraic_reduction.specs.Maps.{Equations, rest_at, IsSettled}

-- pivots are distinct, and an equation has nothing at an earlier one's pivot
pub record IsTriangular (p : ℕ) (e : Equations) : Type 0 where
  pub distinct : (i j : ℕ) → i < e.count → j < e.count → e.pivot i ≡ e.pivot j → i ≡ j
  pub later : (i j : ℕ) → j < i → i < e.count → Same p (e.at i (e.pivot j)) 0

-- the values so far: from bound on the equations are kept, and below it those are due at which anything stands
pub record Settling (p n : ℕ) (e : Equations) (y0 y : ℕ → ℕ) (due : ℕ → Bool) (bound : ℕ) : Type 0 where
  pub bounded : bound ≤ e.count
  pub others : (g : ℕ) → ((i : ℕ) → i < e.count → g ≢ e.pivot i) → Same p (y g) (y0 g)
  pub ahead : (i : ℕ) → i < bound → Same p (y (e.pivot i)) (y0 (e.pivot i))
  pub settled : (i : ℕ) → bound ≤ i → i < e.count → IsSettled p n e y0 y i
  pub waiting : (i g : ℕ) → i < bound → g < n → due i ≡ false → g ≢ e.pivot i → Same p (e.at i g * y g) 0
  pub below : (i : ℕ) → due i ≡ true → i < bound

module _ (p n : ℕ) (e : Equations) (tri : IsTriangular p e) (y0 : ℕ → ℕ) where
  rest-none : (y : ℕ → ℕ) (i : ℕ) → ((g : ℕ) → g < n → g ≢ e.pivot i → Same p (e.at i g * y g) 0) → Same p (rest_at n e y i) 0
  rest-none y i z = same_trans (total_same p n (λ g. cond (eqb g (e.pivot i)) 0 (e.at i g * y g)) (λ g. 0) (λ g l. ⊎_elim (λ q. rw (eq-eqb g (e.pivot i) q) (same_refl p 0)) (λ f. rw (ne_eqb g (e.pivot i) f) (z g l f)) (cases_eq g (e.pivot i)))) (same_by p 0 0 _ _ (omega (arith, total-zero n)))

  pub rest-same : (y z : ℕ → ℕ) (i : ℕ) → ((g : ℕ) → g ≢ e.pivot i → Same p (e.at i g * y g) (e.at i g * z g)) → Same p (rest_at n e y i) (rest_at n e z i)
  rest-same y z i h = total_same p n (λ g. cond (eqb g (e.pivot i)) 0 (e.at i g * y g)) (λ g. cond (eqb g (e.pivot i)) 0 (e.at i g * z g)) (λ g l. ⊎_elim (λ q. rw (eq-eqb g (e.pivot i) q) (same_refl p 0)) (λ f. rw (ne_eqb g (e.pivot i) f) (h g f)) (cases_eq g (e.pivot i)))

  -- an equation that is not due is kept
  idle : (y : ℕ → ℕ) (i : ℕ) → Same p (y (e.pivot i)) (y0 (e.pivot i)) → ((g : ℕ) → g < n → g ≢ e.pivot i → Same p (e.at i g * y g) 0) → IsSettled p n e y0 y i
  idle y i same z = same_trans same (same_sym (same_trans (same-add (same_refl p (y0 (e.pivot i))) (same-scale (p - 1) (same-scale (e.inverse i) (rest-none y i z)))) (same_by p 0 0 _ _ (omega arith))))

  -- values modulo p alone count
  pub settled_same : (y z : ℕ → ℕ) (i : ℕ) → ((g : ℕ) → Same p (z g) (y g)) → IsSettled p n e y0 y i → IsSettled p n e y0 z i
  settled_same y z i s h = same_trans (s (e.pivot i)) (same_trans h (same-add (same_refl p (y0 (e.pivot i))) (same-scale (p - 1) (same-scale (e.inverse i) (rest-same y z i (λ g f. same-scale (e.at i g) (same_sym (s g))))))))

  -- no equation is due: all are kept
  pub settled_all : (y : ℕ → ℕ) (due : ℕ → Bool) (bound : ℕ) → Settling p n e y0 y due bound → ((i : ℕ) → due i ≡ false) → (i : ℕ) → i < e.count → IsSettled p n e y0 y i
  settled_all y due bound s none i l = ⊎_elim (λ q. idle y i (s.ahead i q) (λ g m f. s.waiting i g q m (none i) f)) (λ q. s.settled i q l) (cases_lt i bound)

  -- the last equation that is due is settled: the value at its pivot is changed by t, and those before it at which the pivot
  -- stands are due
  pub settle_one : (y y' : ℕ → ℕ) (due after due' : ℕ → Bool) (bound i t : ℕ) → Settling p n e y0 y due bound
      → i < bound
      → ((j : ℕ) → due j ≡ true → (j ≡ i) ⊎ (after j ≡ true))
      → ((j : ℕ) → after j ≡ true → j < i)
      → Same p t (minus p (e.inverse i * rest_at n e y i))
      → ((g : ℕ) → Same p (y' g) (y g + cond (eqb g (e.pivot i)) t 0))
      → ((j : ℕ) → after j ≡ true → due' j ≡ true)
      → ((j : ℕ) → due' j ≡ true → j < i)
      → ((j : ℕ) → j < i → due' j ≡ false → Same p (e.at j (e.pivot i) * y' (e.pivot i)) 0)
      → Settling p n e y0 y' due' i
  settle_one y y' due after due' bound i t s l was lower et ey grows inside added = record {
    bounded = omega (arith, s.bounded);
    others = λ g f. same_trans (away g (f i (omega (arith, s.bounded)))) (s.others g f);
    ahead = λ j q. same_trans (away (e.pivot j) (pivots j q)) (s.ahead j (omega arith));
    settled = λ j q c. ⊎_elim (λ eq. subst (λ (k : ℕ). IsSettled p n e y0 y' k) (sym eq) here) (λ f. keep j (omega arith) c (before j (omega arith) c)) (cases_eq j i);
    waiting = λ j g q m d f. ⊎_elim
        (λ eq. subst (λ (k : ℕ). Same p (e.at j k * y' k) 0) (sym eq) (added j q d))
        (λ ne. same_trans (same-mul (same_refl p (e.at j g)) (away g ne)) (s.waiting j g (omega arith) m (not_due j q d) f))
        (cases_eq g (e.pivot i));
    below = inside;
  }
    where
      count : i < e.count
      count = omega (arith, s.bounded)

      away : (g : ℕ) → g ≢ e.pivot i → Same p (y' g) (y g)
      away g f = same_trans (ey g) (rw (ne_eqb g (e.pivot i) f) (same_by p 0 0 _ _ (omega arith)))

      pivots : (j : ℕ) → j < i → e.pivot j ≢ e.pivot i
      pivots j q eq = let k = tri.distinct j i (omega (arith, s.bounded)) count eq in absurd (omega arith)

      here : IsSettled p n e y0 y' i
      here = same_trans (ey (e.pivot i)) (rw (eq-eqb (e.pivot i) (e.pivot i) refl) (same-add (s.ahead i l) (same_trans et (same-scale (p - 1) (same-scale (e.inverse i) (rest-same y y' i (λ g f. same-mul (same_refl p (e.at i g)) (same_sym (away g f)))))))))

      true_or_false : (b : Bool) → (b ≡ true) ⊎ (b ≡ false)
      true_or_false b = elim b as (λ v. (v ≡ true) ⊎ (v ≡ false)) [ true ↦ inl refl | false ↦ inr refl ]

      clash : (b : Bool) → b ≡ true → b ≡ false → ⊥
      clash b q r = cc

      not_after : (j : ℕ) → i ≤ j → after j ≡ false
      not_after j q = ⊎_elim (λ a. absurd (let k = lower j a in omega arith)) (λ f. f) (true_or_false (after j))

      not_due : (j : ℕ) → j < i → due' j ≡ false → due j ≡ false
      not_due j q d = ⊎_elim (λ a. absurd (⊎_elim (λ eq. omega arith) (λ b. clash (due' j) (grows j b) d) (was j a))) (λ f. f) (true_or_false (due j))

      before : (j : ℕ) → i < j → j < e.count → IsSettled p n e y0 y j
      before j q c = ⊎_elim
          (λ w. idle y j (s.ahead j w) (λ g m f. s.waiting j g w m (⊎_elim (λ a. absurd (⊎_elim (λ eq. omega arith) (λ b. let k = lower j b in omega arith) (was j a))) (λ f. f) (true_or_false (due j))) f))
          (λ w. s.settled j w c)
          (cases_lt j bound)

      -- a later equation does not see the pivot
      keep : (j : ℕ) → i < j → j < e.count → IsSettled p n e y0 y j → IsSettled p n e y0 y' j
      keep j q c k = same_trans (away (e.pivot j) (λ eq. let w = tri.distinct j i c count eq in absurd (omega arith))) (same_trans k (same-add (same_refl p (y0 (e.pivot j))) (same-scale (p - 1) (same-scale (e.inverse j) (rest-same y y' j (λ g f. ⊎_elim
          (λ eq. subst (λ (k : ℕ). Same p (e.at j k * y k) (e.at j k * y' k)) (sym eq) (same_trans (zero (y (e.pivot i))) (same_sym (zero (y' (e.pivot i))))))
          (λ ne. same-mul (same_refl p (e.at j g)) (same_sym (away g ne)))
          (cases_eq g (e.pivot i))))))))
        where
          zero : (v : ℕ) → Same p (e.at j (e.pivot i) * v) 0
          zero v = same_trans (same-mul (tri.later j i q c) (same_refl p v)) (same_by p 0 0 _ _ (omega arith))
