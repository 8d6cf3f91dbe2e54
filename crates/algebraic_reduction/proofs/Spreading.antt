-- A chain on its way down the rows of the steps: the numbers at the a of the steps that are pending, and the terms at the
-- generators in no step.
use Rattle.std.proofs.Common.{◌≡◌, ◌≢◌, ℕ, ◌+◌, ◌-◌, ◌*◌, ◌%◌, ◌<◌, ◌≤◌, ◌⊎◌, inl, inr, refl, sym, ap, ◌∙◌, arith, ⊎_elim, List, [], ◌∷◌, ◌++◌, length, get_or, take, cond, eqb, eq-eqb, ne_eqb, subst, Option, Some, None}
use Rattle.std.proofs.lemmas.Bool.{cases_eq}
use Rattle.std.proofs.lemmas.List.{length-take-le, get_or-take, take_all}
use Rattle.field_mod.specs.Modular.{Same}
use Rattle.field_mod.proofs.Modular.{same_by, same_refl, same_sym, same_trans, same-add, same-scale}
use Rattle.chains.specs.Terms.{coefficient}
use Rattle.chains.specs.ChainComplex.{ChainComplex, incidence}
use Rattle.chains.proofs.TermLists.{coefficient-append}
use Rattle.algebraic_reduction.specs.Reduction.{IsBoundary, AreSteps}
use Rattle.algebraic_reduction.specs.Laws.{AreApart, project_of}
use Rattle.algebraic_reduction.specs.Kept.{KeptStep, steps_of, AreKept, no_step, nth, a_at, inverse_at, row_at}
use Rattle.algebraic_reduction.specs.Maps.{Descent, HasDescended}
use Rattle.algebraic_reduction.specs.State.{place_at, IsState}
use Rattle.algebraic_reduction.proofs.OneStep.{eqb_sym}
use Rattle.algebraic_reduction.proofs.Bridge.{grade, is_boundary}
use Rattle.algebraic_reduction.proofs.Linear.{steps_apart}
use Rattle.algebraic_reduction.proofs.KeptSteps.{steps_take, kept_take, apart_take}
use Rattle.algebraic_reduction.proofs.NamedRows.{coefficient_more}
use Rattle.algebraic_reduction.proofs.Residues.{negated, reduced}
use Rattle.algebraic_reduction.proofs.Descent.{descent_start, descent_to, descent_step, descent_end, descent_same, descent_value}

-- the steps before `from` of the first m steps are made
pub record OnTheWay (p : ℕ) (D : ℕ → ℕ → ℕ) (places : List (Option ℕ)) (ks : List KeptStep) (m : ℕ) (start : ℕ → ℕ) (left raised pending : List (ℕ × ℕ)) (from : ℕ) : Type 0 where
  pub chain : ℕ → ℕ
  pub descent : Descent p D (take m ks) start chain (coefficient raised) from
  pub left_at : (g : ℕ) → place_at places g ≡ None → Same p (coefficient left g) (chain g)
  pub dropped : (g i : ℕ) → place_at places g ≡ Some i → coefficient left g ≡ 0
  pub waiting : (j : ℕ) → from ≤ j → j < m → Same p (coefficient pending j) (chain (a_at ks j))
  pub inside : (j : ℕ) → coefficient pending j ≢ 0 → (from ≤ j) × (j < m)

no_clash : {i : ℕ} → None ≡ Some i → ⊥
no_clash q = cc

-- ---- one term

pub left_more : (left left' : List (ℕ × ℕ)) (generator number g : ℕ) → left' ≡ left ++ (generator, number) ∷ [] → coefficient left' g ≡ coefficient left g + cond (eqb generator g) number 0
left_more left left' generator number g e =
    let a : coefficient left' g ≡ coefficient left g + (cond (eqb generator g) number 0 + 0) = ap (λ (es : List (ℕ × ℕ)). coefficient es g) e ∙ coefficient-append left ((generator, number) ∷ []) g in
    omega arith

-- a term at a generator that is not g
pub term_elsewhere : (generator number g x : ℕ) → generator ≢ g → x ≡ x + cond (eqb generator g) number 0
term_elsewhere generator number g x f = let b : cond (eqb generator g) number 0 ≡ 0 = ap (λ v. cond v number 0) (ne_eqb generator g f) in omega arith

pub placed_apart : (places : List (Option ℕ)) (g h i : ℕ) → place_at places g ≡ None → place_at places h ≡ Some i → g ≢ h
placed_apart places g h i n s e = no_clash (sym n ∙ ap (λ (x : ℕ). place_at places x) e ∙ s)

-- ---- the terms of a chain, one by one: m is the number at g

pub scaled_more : (p scale k g number m x x' : ℕ) (ts : List (ℕ × ℕ)) (t : ℕ × ℕ) → k < length ts → t ≡ get_or ts k (0, 0) → number ≡ (scale * t.1) % p → Same p x (m + scale * coefficient (take k ts) g) → Same p x' (x + cond (eqb t.0 g) number 0) → Same p x' (m + scale * coefficient (take (k + 1) ts) g)
scaled_more p scale k g number m x x' ts t l et en h n =
    let u = get_or ts k (0, 0) in
    let e = coefficient_more ts k g l in
    let c : Same p (cond (eqb t.0 g) number 0) (scale * cond (eqb t.0 g) t.1 0) = ⊎_elim
    (λ q. rw (eq-eqb t.0 g q) (reduced p _ _ en))
    (λ f. rw (ne_eqb t.0 g f) (same_by p 0 0 _ _ (omega arith)))
    (cases_eq t.0 g) in
    let c1 = subst (λ (v : ℕ × ℕ). Same p (cond (eqb t.0 g) number 0) (scale * cond (eqb v.0 g) v.1 0)) et c in
    let e1 : scale * coefficient (take (k + 1) ts) g ≡ scale * (coefficient (take k ts) g + (cond (eqb u.0 g) u.1 0 + 0)) = ap (λ v. scale * v) e in
    same_trans n (same_trans (same-add h c1) (same_by p 0 0 _ _ (omega arith)))

pub way_first : (p m : ℕ) (D : ℕ → ℕ → ℕ) (places : List (Option ℕ)) (ks : List KeptStep) (start left0 pending0 left raised pending : List (ℕ × ℕ)) → left0 ≡ [] → pending0 ≡ [] → raised ≡ []
    → ((g : ℕ) → place_at places g ≡ None → Same p (coefficient left g) (coefficient left0 g + 1 * coefficient start g))
    → ((g i : ℕ) → place_at places g ≡ Some i → coefficient left g ≡ coefficient left0 g)
    → ((j : ℕ) → 0 ≤ j → j < m → Same p (coefficient pending j) (coefficient pending0 j + 1 * coefficient start (a_at ks j)))
    → ((j : ℕ) → coefficient pending j ≢ 0 → (coefficient pending0 j ≢ 0) ⊎ ((0 ≤ j) × (j < m)))
    → OnTheWay p D places ks m (coefficient start) left raised pending 0
way_first p m D places ks start left0 pending0 left raised pending el ep er hl hd hp hi = record {
  chain = coefficient start;
  descent = descent_same p D (take m ks) (coefficient start) (coefficient start) (λ g. 0) (coefficient raised) 0 (λ g. ap (λ (es : List (ℕ × ℕ)). coefficient es g) er) (descent_start p D (take m ks) (coefficient start));
  left_at = λ g e. let z : coefficient left0 g ≡ 0 = ap (λ (es : List (ℕ × ℕ)). coefficient es g) el in same_trans (hl g e) (same_by p 0 0 _ _ (omega arith));
  dropped = λ g i e. hd g i e ∙ ap (λ (es : List (ℕ × ℕ)). coefficient es g) el;
  waiting = λ j a b. let z : coefficient pending0 j ≡ 0 = ap (λ (es : List (ℕ × ℕ)). coefficient es j) ep in same_trans (hp j a b) (same_by p 0 0 _ _ (omega arith));
  inside = λ j nz. ⊎_elim (λ f. absurd (f (ap (λ (es : List (ℕ × ℕ)). coefficient es j) ep))) (λ r. r) (hi j nz);
}

module _ (p n : ℕ) (degree : ℕ → ℕ) (two : 2 ≤ p) (D : ℕ → ℕ → ℕ) (places : List (Option ℕ)) (ks : List KeptStep) (m : ℕ) (bounded : m ≤ length ks) (bd : IsBoundary p n degree D) (st : AreSteps p n D (steps_of ks)) (kp : AreKept p D ks) where
  ts : List KeptStep
  ts = take m ks

  long : length (take m ks) ≡ m
  long = length-take-le m ks bounded

  at : (j : ℕ) → j < m → nth (take m ks) j ≡ nth ks j
  at j l = get_or-take m ks j no_step l

  st' : AreSteps p n D (steps_of (take m ks))
  st' = steps_take p n D m ks st

  kp' : AreKept p D (take m ks)
  kp' = kept_take p D m ks kp

  apart' : AreApart (steps_of (take m ks))
  apart' = apart_take m ks (steps_apart p n degree two D (steps_of ks) bd st)

  pub way_next : (start left raised pending middle left' raised' pending' : List (ℕ × ℕ)) (from i number weight s : ℕ)
      → OnTheWay p D places ks m (coefficient start) left raised pending from
      → number ≡ coefficient pending i → 0 < number
      → ((j : ℕ) → j ≢ i → coefficient middle j ≡ coefficient pending j)
      → ((j : ℕ) → coefficient middle j ≢ 0 → i < j)
      → weight ≡ (inverse_at ks i * number) % p
      → s ≡ (p - weight) % p
      → raised' ≡ raised ++ (i, weight) ∷ []
      → ((g : ℕ) → place_at places g ≡ None → Same p (coefficient left' g) (coefficient left g + s * row_at ks i g))
      → ((g j : ℕ) → place_at places g ≡ Some j → coefficient left' g ≡ coefficient left g)
      → ((j : ℕ) → i + 1 ≤ j → j < m → Same p (coefficient pending' j) (coefficient middle j + s * row_at ks i (a_at ks j)))
      → ((j : ℕ) → coefficient pending' j ≢ 0 → (coefficient middle j ≢ 0) ⊎ ((i + 1 ≤ j) × (j < m)))
      → OnTheWay p D places ks m (coefficient start) left' raised' pending' (i + 1)
  way_next start left raised pending middle left' raised' pending' from i number weight s w en pos others later ew es er hl hd hp hi = record {
    chain = λ g. w.chain g + s * row_at ks i g;
    descent = descent_step p n degree two D (take m ks) bd st' kp' apart' (coefficient start) w.chain (coefficient raised) (λ g. w.chain g + s * row_at ks i g) (coefficient raised') i s weight reached (let l = here.1 in omega (arith, long))
        (subst (λ (k : KeptStep). Same p s ((p - 1) * (k.step.inverse * w.chain k.step.a))) (sym (at i here.1)) (same_trans (negated p (inverse_at ks i * number) s (omega arith) (es ∙ ap (λ u. (p - u) % p) ew)) (same-scale (p - 1) (same-scale (inverse_at ks i) stands))))
        (subst (λ (k : KeptStep). Same p weight (k.step.inverse * w.chain k.step.a)) (sym (at i here.1)) (same_trans (reduced p _ _ ew) (same-scale (inverse_at ks i) stands)))
        (λ g. subst (λ (k : KeptStep). Same p (w.chain g + s * row_at ks i g) (w.chain g + s * coefficient k.row g)) (sym (at i here.1)) (same_refl p (w.chain g + s * row_at ks i g)))
        (λ j. ap (λ (c : List (ℕ × ℕ)). coefficient c j) er ∙ coefficient-append raised ((i, weight) ∷ []) j ∙ ap (λ t. coefficient raised j + (cond t weight 0 + 0)) (eqb_sym i j) ∙ omega arith);
    left_at = λ g e. same_trans (hl g e) (same-add (w.left_at g e) (same_refl p (s * row_at ks i g)));
    dropped = λ g j e. hd g j e ∙ w.dropped g j e;
    waiting = λ j a b. same_trans (hp j a b) (same-add (same_trans (same_by p 0 0 _ _ (ap (λ v. v + p * 0) (others j (λ q. absurd (omega arith))))) (w.waiting j (omega (arith, here.0)) b)) (same_refl p (s * row_at ks i (a_at ks j))));
    inside = λ j nz. ⊎_elim
        (λ q. let l = later j q in ((omega arith), (w.inside j (λ z. q (others j (λ q. absurd (omega arith)) ∙ z))).1))
        (λ r. r)
        (hi j nz);
  }
    where
      here : (from ≤ i) × (i < m)
      here = w.inside i (λ z. absurd (omega arith))

      stands : Same p number (w.chain (a_at ks i))
      stands = same_trans (same_by p 0 0 _ _ (ap (λ v. v + p * 0) en)) (w.waiting i here.0 here.1)

      -- nothing is pending before the first
      none_before : (k : ℕ) → k < i → coefficient pending k ≡ 0
      none_before k l = ⊎_elim
          (λ z. z)
          (λ nz. absurd (let q = later k (λ z. nz (sym (others k (λ e. absurd (omega arith))) ∙ z)) in omega arith))
          (cases_eq (coefficient pending k) 0)

      skipped : (k : ℕ) → from ≤ k → k < from + (i - from) → Same p (w.chain (a_at (take m ks) k)) 0
      skipped k a b =
          let l = here.1 in
          let q = here.0 in
          subst (λ (s : KeptStep). Same p (w.chain s.step.a) 0) (sym (at k (omega arith)))
          (same_trans (same_sym (w.waiting k a (omega arith))) (same_by p 0 0 _ _ (ap (λ v. v + p * 0) (none_before k (omega arith)))))

      reached : Descent p D (take m ks) (coefficient start) w.chain (coefficient raised) i
      reached =
          let l = here.1 in
          let q = here.0 in
          let e : from + (i - from) ≡ i = omega arith in
          subst (λ (k : ℕ). Descent p D (take m ks) (coefficient start) w.chain (coefficient raised) k) e (descent_to p n degree two D (take m ks) bd st' kp' apart' (coefficient start) w.chain (coefficient raised) from (i - from) w.descent (omega (arith, long)) skipped)

  -- nothing is pending: all steps are made
  pub way_end : (start left raised pending : List (ℕ × ℕ)) (from : ℕ) → OnTheWay p D places ks m (coefficient start) left raised pending from → ((j : ℕ) → coefficient pending j ≡ 0) → HasDescended p D places (take m ks) (coefficient start) left raised
  way_end start left raised pending from w none = record {
    chain = w.chain;
    descent = descent_end p n degree two D (take m ks) bd st' kp' apart' (coefficient start) w.chain (coefficient raised) from w.descent
        (λ k a b. let q : k < m = omega (arith, long) in subst (λ (s : KeptStep). Same p (w.chain s.step.a) 0) (sym (at k q)) (same_trans (same_sym (w.waiting k a q)) (same_by p 0 0 _ _ (ap (λ v. v + p * 0) (none k)))));
    left_at = w.left_at;
    dropped = w.dropped;
  }

pub place_cases : (places : List (Option ℕ)) (g : ℕ) → (place_at places g ≡ None) ⊎ ((i : ℕ) × (place_at places g ≡ Some i))
place_cases places g = elim (place_at places g) as (λ o. (o ≡ None) ⊎ ((i : ℕ) × (o ≡ Some i))) [ None ↦ inl refl | Some i ↦ inr (i, refl) ]

-- the projection is what is left
pub way_projects : (p m : ℕ) (two : 2 ≤ p) (K : ChainComplex) (places : List (Option ℕ)) (ks : List KeptStep) → IsState p K places ks → m ≡ length ks → (start left raised result : List (ℕ × ℕ)) → HasDescended p (incidence K.boundaries) places (take m ks) (coefficient start) left raised → ((g : ℕ) → coefficient result g ≡ coefficient left g % p) → (g : ℕ) → Same p (coefficient result g) (project_of p K (steps_of ks) (coefficient start) g)
way_projects p m two K places ks state em start left raised result h' e g =
    let n = length K.boundaries in
    let d = grade K.degrees in
    let D = incidence K.boundaries in
    let bd = is_boundary p K state.complex in
    let h = subst (λ (ts : List KeptStep). HasDescended p (incidence K.boundaries) places ts (coefficient start) left raised) (take_all m ks (omega arith)) h' in
    descent_value p n d two D ks bd state.steps state.kept (steps_apart p n d two D (steps_of ks) bd state.steps) (coefficient start) h.chain (coefficient raised) (coefficient result) h.descent
    (λ k u. ⊎_elim (λ q. same_trans (reduced p _ _ (e k)) (h.left_at k q)) (λ s. absurd ((state.in_step k s.0 s.1).1 u)) (place_cases places k))
    (λ k v. ⊎_elim (λ q. absurd (v (state.in_none k q))) (λ s. same_trans (reduced p _ _ (e k)) (same_by p 0 0 _ _ (ap (λ x. x + p * 0) (h.dropped k s.0 s.1)))) (place_cases places k))
    g
