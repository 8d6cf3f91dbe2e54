-- Every complex has steps that leave no boundary: its generators are gone through once, and each whose boundary is not 0 yet is taken
-- with one in that boundary.
use Rattle.std.proofs.Common.{◌≡◌, ℕ, zero, suc, ◌+◌, ◌-◌, ◌*◌, ◌<◌, ◌≤◌, ◌⊎◌, inl, inr, sym, ap, arith, ⊎_elim, true, false, cond, eqb, List, [], ◌∷◌, length, subst}
use Rattle.std.proofs.lemmas.Bool.{cases_lt}
use Rattle.std.proofs.lemmas.List.{get_or_past}
use Rattle.field_mod.specs.Modular.{Same, NonZero, IsField, minus}
use Rattle.field_mod.proofs.Modular.{same_by, same_refl, same_trans, same-add, same-scale, decide_zero}
use Rattle.elem_cubes.proofs.Modular.{exact}
use Rattle.chains.specs.Terms.{coefficient}
use Rattle.chains.specs.ChainComplex.{incidence}
use Rattle.algebraic_reduction.specs.Reduction.{Step, IsStep, AreSteps, IsBoundary, left, left_all}
use Rattle.algebraic_reduction.proofs.Bridge.{grade, is_boundary}
use Rattle.algebraic_reduction.proofs.Steps.{IsDead, dead_left, pair-dead_b, step_one}
use Rattle.algebraic_reduction.proofs.Singles.{incidence_off}
use Rattle.acyclic_values.specs.Deciding.{ReductionsExist}

-- a place below n at which f is not 0, or there is none
pub nonzero_below : (p n : ℕ) (f : ℕ → ℕ) → ((g : ℕ) → g < n → Same p (f g) 0) ⊎ ((g : ℕ) × (g < n) × NonZero p (f g))
nonzero_below p zero f = inl (λ g l. absurd (omega arith))
nonzero_below p (suc n) f = ⊎_elim
    (λ z. ⊎_elim
    (λ e. inl (λ g l. ⊎_elim (λ q. z g q) (λ q. let k : n ≡ g = omega arith in subst (λ (x : ℕ). Same p (f x) 0) k e) (cases_lt g n)))
    (λ nz. inr (n, (omega arith), nz))
    (decide_zero p (f n)))
    (λ w. inr (w.0, (omega (arith, w.1)), w.2))
    (nonzero_below p n f)

module _ (p n : ℕ) (degree : ℕ → ℕ) (field : IsField p) where
  two : 2 ≤ p
  two = field.above_one

  -- a boundary that is 0 stays so
  row_left : (D : ℕ → ℕ → ℕ) (s : Step) (h : ℕ) → ((g : ℕ) → Same p (D h g) 0) → (g : ℕ) → Same p (left p D s h g) 0
  row_left D s h none g = elim (eqb g s.b) as (λ v. Same p (cond v 0 (cond (eqb h s.b) 0 (cond (eqb h s.a) 0 (D h g + minus p (s.inverse * D h s.a * D s.b g))))) 0) [
    | true ↦ same_refl p 0
    | false ↦ elim (eqb h s.b) as (λ v. Same p (cond v 0 (cond (eqb h s.a) 0 (D h g + minus p (s.inverse * D h s.a * D s.b g)))) 0) [
      | true ↦ same_refl p 0
      | false ↦ elim (eqb h s.a) as (λ v. Same p (cond v 0 (D h g + minus p (s.inverse * D h s.a * D s.b g))) 0) [ true ↦ same_refl p 0 | false ↦ entry ]
    ]
  ]
    where
      entry : Same p (D h g + minus p (s.inverse * D h s.a * D s.b g)) 0
      entry = same_trans (same_by p 0 0 _ (D h g + (p - 1) * s.inverse * D s.b g * D h s.a) (omega arith)) (same_trans (same-add (none g) (same-scale ((p - 1) * s.inverse * D s.b g) (none s.a))) (same_by p 0 0 _ _ (omega arith)))

  one_more : (D : ℕ → ℕ → ℕ) (i : ℕ) → ((h g : ℕ) → h < i → Same p (D h g) 0) → ((g : ℕ) → Same p (D i g) 0) → (h g : ℕ) → h < i + 1 → Same p (D h g) 0
  one_more D i rows row h g l = ⊎_elim (λ q. rows h g q) (λ q. let k : i ≡ h = omega arith in subst (λ (x : ℕ). Same p (D x g) 0) k (row g)) (cases_lt h i)

  the_step : (D : ℕ → ℕ → ℕ) (i a : ℕ) → NonZero p (D i a) → Step
  the_step D i a nz = record { a = a; b = i; inverse = (field.inverse (D i a) nz).0 }

  is_step : (D : ℕ → ℕ → ℕ) (i a : ℕ) (nz : NonZero p (D i a)) → IsBoundary p n degree D → i < n → a < n → IsStep p n D (the_step D i a nz)
  unfolding the_step
  is_step D i a nz bd i_in a_in = record {
    a_in = a_in;
    b_in = i_in;
    apart = λ e. nz (subst (λ (x : ℕ). Same p (D i x) 0) (sym e) (bd.lowers i i (λ q. absurd (omega arith))));
    inverts = (field.inverse (D i a) nz).1;
  }

  row_at : (D : ℕ → ℕ → ℕ) (i a : ℕ) (nz : NonZero p (D i a)) → IsBoundary p n degree D → i < n → a < n → (g : ℕ) → Same p (left p D (the_step D i a nz) i g) 0
  unfolding the_step
  row_at D i a nz bd i_in a_in = (pair-dead_b p n degree two D (the_step D i a nz) bd (is_step D i a nz bd i_in a_in)).row

  reduce : (count i : ℕ) (D : ℕ → ℕ → ℕ) → i + count ≡ n → IsBoundary p n degree D → ((v : ℕ) → n ≤ v → IsDead p D v) → ((h g : ℕ) → h < i → Same p (D h g) 0)
      → (ss : List Step) × AreSteps p n D ss × ((h g : ℕ) → Same p (left_all p D ss h g) 0)
  reduce zero i D e bd past rows = ([], tt, (λ h g. ⊎_elim (λ l. rows h g (omega arith)) (λ l. (past h l).row g) (cases_lt h n)))
  reduce (suc count) i D e bd past rows = ⊎_elim
      (λ z. reduce count (i + 1) D (omega arith) bd past (one_more D i rows (λ g. ⊎_elim (λ l. z g l) (λ l. (past g l).column i) (cases_lt g n))))
      (λ w.
      let s : Step = the_step D i w.0 w.2 in
      let st : IsStep p n D s = is_step D i w.0 w.2 bd (omega arith) w.1 in
      let r = reduce count (i + 1) (left p D s) (omega arith) (step_one p n degree two bd st) (λ v l. dead_left p n degree two D s v (past v l)) (one_more (left p D s) i (λ h g l. row_left D s h (λ k. rows h k l) g) (row_at D i w.0 w.2 bd (omega arith) w.1)) in
      (s ∷ r.0, (st, r.1), r.2))
      (nonzero_below p n (D i))

pub reductions_exist : ReductionsExist
reductions_exist p K field cx =
    let n = length K.boundaries in
    let r = reduce p n (grade K.degrees) field n 0 (incidence K.boundaries) (omega arith) (is_boundary p K cx) past (λ h g l. absurd (omega arith)) in
    record { steps = r.0; made = r.1; nothing = r.2 }
  where
    row_past : (h g : ℕ) → length K.boundaries ≤ h → incidence K.boundaries h g ≡ 0
    row_past h g l = ap (λ (c : List (ℕ × ℕ)). coefficient c g) (get_or_past K.boundaries h [] l)

    past : (v : ℕ) → length K.boundaries ≤ v → IsDead p (incidence K.boundaries) v
    past v l = record {
      row = λ g. exact p (row_past v g l);
      column = λ h. ⊎_elim (λ q. exact p (incidence_off p K cx h v q l)) (λ q. exact p (row_past h v q)) (cases_lt h (length K.boundaries));
    }
