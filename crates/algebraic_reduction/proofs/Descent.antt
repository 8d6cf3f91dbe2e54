-- The projection of a chain, step by step: what stands at an a is moved along its row, and what stands at a b is left there and
-- dropped at the end.
use Rattle.std.proofs.Common.{◌≡◌, ◌≢◌, ℕ, zero, suc, ◌+◌, ◌-◌, ◌*◌, ◌<◌, ◌≤◌, refl, sym, ap, ◌∙◌, arith, ⊎_elim, List, [], ◌∷◌, ◌++◌, length, take, cond, eqb, eq-eqb, ne_eqb, subst}
use Rattle.std.proofs.lemmas.Bool.{cases_eq}
use Rattle.std.proofs.lemmas.List.{take_more, take_all}
use Rattle.field_mod.specs.Modular.{Same, minus}
use Rattle.field_mod.proofs.Modular.{same_by, same_refl, same_sym, same_trans, same-add, same-scale, same-mul}
use Rattle.algebraic_reduction.specs.Maps.{IsNoB, projected, weight_at, Descent}
use Rattle.algebraic_reduction.specs.Reduction.{Step, IsBoundary, IsUnpaired, left_all, project, project_all, AreSteps}
use Rattle.algebraic_reduction.specs.Laws.{AreApart}
use Rattle.algebraic_reduction.specs.Kept.{KeptStep, steps_of, AreKept, no_step, nth, a_at, b_at, inverse_at, row_at}
use Rattle.algebraic_reduction.proofs.Steps.{project-off_all}
use Rattle.algebraic_reduction.proofs.LeftBasis.{decide_unpaired, off_paired}
use Rattle.algebraic_reduction.proofs.KeptSteps.{steps_of-append, project_all-append, kept_at, apart_at, no_b-append, no_b_by, unpaired_no_b}

pub take-steps_of : (i : ℕ) (ks : List KeptStep) → take i (steps_of ks) ≡ steps_of (take i ks)
take-steps_of zero ks = refl
take-steps_of (suc i) [] = refl
take-steps_of (suc i) (k ∷ ks) = ap (λ (ss : List Step). k.step ∷ ss) (take-steps_of i ks)

pub steps_of-take_more : (ks : List KeptStep) (i : ℕ) → i < length ks → steps_of (take (i + 1) ks) ≡ steps_of (take i ks) ++ (nth ks i).step ∷ []
steps_of-take_more ks i l = ap steps_of (take_more ks i no_step l) ∙ steps_of-append (take i ks) (nth ks i)

pub descent_start : (p : ℕ) (D : ℕ → ℕ → ℕ) (ks : List KeptStep) (x : ℕ → ℕ) → Descent p D ks x x (λ g. 0) 0
descent_start p D ks x = record { within = omega arith; near = λ g u. same_refl p (x g); weights = λ i l. absurd (omega arith); ahead = λ i l. refl }

module _ (p n : ℕ) (degree : ℕ → ℕ) (two : 2 ≤ p) (D : ℕ → ℕ → ℕ) (ks : List KeptStep) (bd : IsBoundary p n degree D) (st : AreSteps p n D (steps_of ks)) (kp : AreKept p D ks) (apart : AreApart (steps_of ks)) where
  projected-more : (start : ℕ → ℕ) (i g : ℕ) → i < length ks → projected p D ks start (i + 1) g ≡ project p (left_all p D (steps_of (take i ks))) (nth ks i).step (projected p D ks start i) g
  projected-more start i g l = ap (λ (ss : List Step). project_all p D ss start g) (steps_of-take_more ks i l) ∙ ap (λ (f : ℕ → ℕ). f g) (project_all-append p D (steps_of (take i ks)) (nth ks i).step start)

  projected-other : (start : ℕ → ℕ) (i g : ℕ) → i < length ks → g ≢ b_at ks i → projected p D ks start (i + 1) g ≡ projected p D ks start i g + minus p (inverse_at ks i * projected p D ks start i (a_at ks i) * left_all p D (steps_of (take i ks)) (b_at ks i) g)
  projected-other start i g l f = projected-more start i g l ∙ rw (ne_eqb g (b_at ks i) f)

  -- the a of a step is no b of an earlier one
  a_no_b : (i : ℕ) → i < length ks → IsNoB (steps_of (take i ks)) (a_at ks i)
  a_no_b i l = no_b_by (take i ks) (a_at ks i) (λ j q. let r = within_take i j q in λ e. (apart_at ks j i apart r.0 l).2 (sym (e ∙ r.1)))
    where
      within_take : (i j : ℕ) → j < length (take i ks) → (j < i) × (b_at (take i ks) j ≡ b_at ks j)
      within_take i j q = take_at ks i j q
        where
          take_at : (ls : List KeptStep) (i j : ℕ) → j < length (take i ls) → (j < i) × (b_at (take i ls) j ≡ b_at ls j)
          take_at ls zero j q = absurd (omega arith)
          take_at [] (suc i) j q = absurd (omega arith)
          take_at (k ∷ ls) (suc i) zero q = ((omega arith), refl)
          take_at (k ∷ ls) (suc i) (suc j) q = let r = take_at ls i j (omega arith) in ((omega (arith, r.0)), r.1)

  no_b_front : (i g : ℕ) → i < length ks → IsNoB (steps_of (take (i + 1) ks)) g → IsNoB (steps_of (take i ks)) g × (g ≢ b_at ks i)
  no_b_front i g l u = no_b-append (steps_of (take i ks)) (nth ks i).step g (subst (λ (ss : List Step). IsNoB ss g) (steps_of-take_more ks i l) u)

  row_is : (i g : ℕ) → i < length ks → Same p (row_at ks i g) (left_all p D (steps_of (take i ks)) (b_at ks i) g)
  row_is i g l = subst (λ (ss : List Step). Same p (row_at ks i g) (left_all p D ss (b_at ks i) g)) (take-steps_of i ks) ((kept_at p n degree two D ks i kp l).row g)

  -- nothing stands at the a of the next step
  pub descent_skip : (start x w : ℕ → ℕ) (i : ℕ) → Descent p D ks start x w i → i < length ks → Same p (x (a_at ks i)) 0 → Descent p D ks start x w (i + 1)
  descent_skip start x w i d l z = record {
    within = omega arith;
    near = λ g u. let f = no_b_front i g l u in same_trans (d.near g f.0) (same_sym (same_trans (same_by p 0 0 _ _ (ap (λ v. v + p * 0) (projected-other start i g l f.1))) (same_trans (same_add_none g) (same_refl p _))));
    weights = λ j q. ⊎_elim
        (λ e. subst (λ (k : ℕ). Same p (w k) (weight_at p D ks start k)) (sym e) (same_trans (same_by p 0 0 _ _ (ap (λ v. v + p * 0) (d.ahead i (omega arith)))) (same_sym (same_trans (same-scale (inverse_at ks i) none) (same_by p 0 0 _ _ (omega arith))))))
        (λ f. d.weights j (omega arith))
        (cases_eq j i);
    ahead = λ j q. d.ahead j (omega arith);
  }
    where
      none : Same p (projected p D ks start i (a_at ks i)) 0
      none = same_trans (same_sym (d.near (a_at ks i) (a_no_b i l))) z

      same_add_none : (g : ℕ) → Same p (projected p D ks start i g + minus p (inverse_at ks i * projected p D ks start i (a_at ks i) * left_all p D (steps_of (take i ks)) (b_at ks i) g)) (projected p D ks start i g)
      same_add_none g = same_trans (same-add (same_refl p (projected p D ks start i g)) (same-scale (p - 1) (same-mul (same-scale (inverse_at ks i) none) (same_refl p (left_all p D (steps_of (take i ks)) (b_at ks i) g))))) (same_by p 0 0 _ _ (omega arith))

  -- what stands at the a of the next step is moved along its row
  pub descent_step : (start x w x' w' : ℕ → ℕ) (i s t : ℕ) → Descent p D ks start x w i → i < length ks
      → Same p s (minus p (inverse_at ks i * x (a_at ks i)))
      → Same p t (inverse_at ks i * x (a_at ks i))
      → ((g : ℕ) → Same p (x' g) (x g + s * row_at ks i g))
      → ((j : ℕ) → w' j ≡ w j + cond (eqb j i) t 0)
      → Descent p D ks start x' w' (i + 1)
  descent_step start x w x' w' i s t d l es et ex ew = record {
    within = omega arith;
    near = λ g u. let f = no_b_front i g l u in same_trans (ex g) (same_trans (same-add (d.near g f.0) (same-mul moved (row_is i g l))) (same_by p 0 0 _ _ (let q = projected-other start i g l f.1 in omega arith)));
    weights = λ j q. ⊎_elim
        (λ e. subst (λ (k : ℕ). Same p (w' k) (weight_at p D ks start k)) (sym e) (same_trans (same_by p 0 0 _ _ (ap (λ v. v + p * 0) own)) (same_trans et (same-scale (inverse_at ks i) (d.near (a_at ks i) (a_no_b i l))))))
        (λ f. same_trans (same_by p 0 0 _ _ (ap (λ v. v + p * 0) (other j f))) (d.weights j (omega arith)))
        (cases_eq j i);
    ahead = λ j q. other j (λ e. absurd (omega arith)) ∙ d.ahead j (omega arith);
  }
    where
      moved : Same p s (minus p (inverse_at ks i * projected p D ks start i (a_at ks i)))
      moved = same_trans es (same-scale (p - 1) (same-scale (inverse_at ks i) (d.near (a_at ks i) (a_no_b i l))))

      other : (j : ℕ) → j ≢ i → w' j ≡ w j
      other j f = ew j ∙ ap (λ v. w j + cond v t 0) (ne_eqb j i f) ∙ omega arith

      own : w' i ≡ t
      own = ew i ∙ ap (λ v. w i + cond v t 0) (eq-eqb i i refl) ∙ ap (λ v. v + t) (d.ahead i (omega arith)) ∙ omega arith

  pub descent_to : (start x w : ℕ → ℕ) (i j : ℕ) → Descent p D ks start x w i → i + j ≤ length ks → ((k : ℕ) → i ≤ k → k < i + j → Same p (x (a_at ks k)) 0) → Descent p D ks start x w (i + j)
  descent_to start x w i zero d l z = let e : i ≡ i + zero = omega arith in subst (λ (k : ℕ). Descent p D ks start x w k) e d
  descent_to start x w i (suc j) d l z =
      let r = descent_skip start x w (i + j) (descent_to start x w i j d (omega arith) (λ k a b. z k a (omega arith))) (omega arith) (z (i + j) (omega arith) (omega arith)) in
      let e : i + j + 1 ≡ i + suc j = omega arith in subst (λ (k : ℕ). Descent p D ks start x w k) e r

  -- nothing stands at the a of a later step: all steps are made
  pub descent_end : (start x w : ℕ → ℕ) (i : ℕ) → Descent p D ks start x w i → ((k : ℕ) → i ≤ k → k < length ks → Same p (x (a_at ks k)) 0) → Descent p D ks start x w (length ks)
  descent_end start x w i d z =
      let w' = d.within in
      let e : i + (length ks - i) ≡ length ks = omega arith in
      subst (λ (k : ℕ). Descent p D ks start x w k) e (descent_to start x w i (length ks - i) d (omega arith) (λ k a b. z k a (omega arith)))

  -- the projection is what stands at the generators that are left
  pub descent_value : (start x w r : ℕ → ℕ) → Descent p D ks start x w (length ks) → ((g : ℕ) → IsUnpaired (steps_of ks) g → Same p (r g) (x g)) → ((g : ℕ) → (IsUnpaired (steps_of ks) g → ⊥) → Same p (r g) 0) → (g : ℕ) → Same p (r g) (project_all p D (steps_of ks) start g)
  descent_value start x w r d kept dropped g =
      let e = ap steps_of (take_all (length ks) ks (omega arith)) in
      ⊎_elim
      (λ u. same_trans (kept g u) (subst (λ (ss : List Step). Same p (x g) (project_all p D ss start g)) e (d.near g (subst (λ (ss : List Step). IsNoB ss g) (sym e) (unpaired_no_b (steps_of ks) g u)))))
      (λ v. same_trans (dropped g v) (same_sym (off_paired p (steps_of ks) (project_all p D (steps_of ks) start) g (project-off_all p n degree two D (steps_of ks) bd st start) v)))
      (decide_unpaired (steps_of ks) g)

-- the same weights
pub descent_same : (p : ℕ) (D : ℕ → ℕ → ℕ) (ks : List KeptStep) (start x w w' : ℕ → ℕ) (done : ℕ) → ((i : ℕ) → w' i ≡ w i) → Descent p D ks start x w done → Descent p D ks start x w' done
descent_same p D ks start x w w' done e d = record {
  within = d.within;
  near = d.near;
  weights = λ i l. same_trans (same_by p 0 0 _ _ (ap (λ v. v + p * 0) (e i))) (d.weights i l);
  ahead = λ i l. e i ∙ d.ahead i l;
}
