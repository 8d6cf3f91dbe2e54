-- Inclusions by the homotopies of boundaries, rows by projections, and the way back of the homotopy: from the last step on, where
-- the boundary of each b goes down the rows of the steps before it.
use Rattle.std.proofs.Common.{◌≡◌, ◌≢◌, ℕ, zero, suc, ◌+◌, ◌-◌, ◌*◌, ◌<◌, ◌≤◌, ◌⊎◌, sym, ap, ◌∙◌, arith, ⊎_elim, List, [], ◌∷◌, ◌++◌, length, take, cond, eqb, eq-eqb, ne_eqb, true, false, Bool, subst}
use Rattle.std.proofs.lemmas.Bool.{cases_eq}
use Rattle.std.proofs.lemmas.List.{length-take-le, get_or-take}
use Rattle.field_mod.specs.Sums.{total}
use Rattle.field_mod.specs.Modular.{Same, minus}
use Rattle.field_mod.proofs.Sums.{total-same, total-zero, total-add, total-scale, total_same, total_none}
use Rattle.field_mod.proofs.Modular.{same_by, same_refl, same_sym, same_trans, same-add, same-scale, same-mul, neg_cancel}
use Rattle.chains.specs.Terms.{coefficient}
use Rattle.chains.proofs.TermLists.{coefficient-append}
use Rattle.algebraic_reduction.specs.Reduction.{boundary_by, single, Step, IsBoundary, IsUnpaired, IsOnLeft, AreSteps, left, left_all, project, project_all, include_all, homotopy, homotopy_all}
use Rattle.algebraic_reduction.specs.Laws.{AreApart}
use Rattle.algebraic_reduction.specs.Kept.{KeptStep, steps_of, no_step, a_at, b_at, inverse_at}
use Rattle.algebraic_reduction.specs.Maps.{weight_at}
use Rattle.algebraic_reduction.proofs.OneStep.{eqb_sym, include-same, include-combination}
use Rattle.algebraic_reduction.proofs.Steps.{step_one, project_all-same, include_all-same, homotopy_all-same, log_identity, log_project-boundary}
use Rattle.algebraic_reduction.proofs.Linear.{steps_apart}
use Rattle.algebraic_reduction.proofs.KeptSteps.{unpaired_by, apart_at, steps_take, take_take, step_at}
use Rattle.algebraic_reduction.proofs.LinearMaps.{exact, total_picked_other}
use Rattle.algebraic_reduction.proofs.Singles.{single_left}

-- ---- sums

total_last : (i : ℕ) (f : ℕ → ℕ) → total (suc i) f ≡ total i f + f i
total_last zero f = omega arith
total_last (suc i) f = let r = total_last i (λ j. f (suc j)) in omega arith

total_cut : (n m : ℕ) (f : ℕ → ℕ) → m ≤ n → ((t : ℕ) → m ≤ t → t < n → f t ≡ 0) → total n f ≡ total m f
total_cut n zero f l z = total-same n f (λ i. 0) (λ i q. z i (omega arith) q) ∙ total-zero n
total_cut zero (suc m) f l z = absurd (omega arith)
total_cut (suc n) (suc m) f l z = ap (λ v. f 0 + v) (total_cut n m (λ i. f (suc i)) (omega arith) (λ t a b. z (suc t) (omega arith) (omega arith)))

-- the generator b of step t, as the first t steps include it
abbrev pub included_at : ℕ → ℕ → (ℕ → ℕ → ℕ) → List KeptStep → ℕ → ℕ → ℕ
included_at p n D ks t g = include_all p n D (steps_of (take t ks)) (single (b_at ks t)) g

-- the steps from bound on are gone back: terms are what they give, and the others are pending
pub record Returning (p n : ℕ) (D : ℕ → ℕ → ℕ) (ks : List KeptStep) (x : ℕ → ℕ) (terms pending : List (ℕ × ℕ)) (bound : ℕ) : Type 0 where
  pub within : bound ≤ length ks
  pub value : (g : ℕ) → Same p (homotopy_all p n D (steps_of ks) x g) (coefficient terms g + total bound (λ t. coefficient pending (length ks - 1 - t) * included_at p n D ks t g))
  pub inside : (k : ℕ) → coefficient pending k ≢ 0 → (length ks ≤ k + bound) × (k < length ks)

pub weight_take : (p : ℕ) (D : ℕ → ℕ → ℕ) (m t : ℕ) (ks : List KeptStep) (x : ℕ → ℕ) → t < m → weight_at p D (take m ks) x t ≡ weight_at p D ks x t
weight_take p D m t ks x l =
    ap (λ (k : KeptStep). k.step.inverse * project_all p D (steps_of (take t (take m ks))) x k.step.a) (get_or-take m ks t no_step l)
    ∙ ap (λ (ls : List KeptStep). inverse_at ks t * project_all p D (steps_of ls) x (a_at ks t)) (take_take t m ks (omega arith))

included_take : (p n : ℕ) (D : ℕ → ℕ → ℕ) (m t : ℕ) (ks : List KeptStep) (g : ℕ) → t < m → included_at p n D (take m ks) t g ≡ included_at p n D ks t g
included_take p n D m t ks g l =
    ap (λ (k : KeptStep). include_all p n D (steps_of (take t (take m ks))) (single k.step.b) g) (get_or-take m ks t no_step l)
    ∙ ap (λ (ls : List KeptStep). include_all p n D (steps_of ls) (single (b_at ks t)) g) (take_take t m ks (omega arith))

module _ (p n : ℕ) (degree : ℕ → ℕ) (two : 2 ≤ p) where
  -- ---- chains on what is left

  project_once : (D : ℕ → ℕ → ℕ) (s : Step) (y : ℕ → ℕ) → Same p (y s.a) 0 → Same p (y s.b) 0 → (h : ℕ) → Same p (project p D s y h) (y h)
  project_once D s y za zb h = ⊎_elim
      (λ e. rw (eq-eqb h s.b e) (subst (λ (k : ℕ). Same p 0 (y k)) (sym e) (same_sym zb)))
      (λ f. rw (ne_eqb h s.b f) (same_trans (same_by p 0 0 _ (y h + (p - 1) * s.inverse * D s.b h * y s.a) (omega arith)) (same_trans (same-add (same_refl p (y h)) (same-scale ((p - 1) * s.inverse * D s.b h) za)) (same_by p 0 0 _ _ (omega arith)))))
      (cases_eq h s.b)

  project_left : (D : ℕ → ℕ → ℕ) (ss : List Step) → IsBoundary p n degree D → AreSteps p n D ss → (y : ℕ → ℕ) → IsOnLeft p ss y → (g : ℕ) → Same p (project_all p D ss y g) (y g)
  project_left D [] bd l y off g = same_refl p (y g)
  project_left D (s ∷ ss) bd l y off g =
      same_trans (project_all-same p n degree two (left p D s) ss (step_one p n degree two bd l.0) l.1 (project p D s y) y (λ h. project_once D s y off.0.at_a off.0.at_b h) g)
      (project_left (left p D s) ss (step_one p n degree two bd l.0) l.1 y off.1 g)

  homotopy_left : (D : ℕ → ℕ → ℕ) (ss : List Step) → IsBoundary p n degree D → AreSteps p n D ss → (y : ℕ → ℕ) → IsOnLeft p ss y → (g : ℕ) → Same p (homotopy_all p n D ss y g) 0
  homotopy_left D [] bd l y off g = same_refl p 0
  homotopy_left D (s ∷ ss) bd l y off g =
      let after = left p D s in
      let bd1 = step_one p n degree two bd l.0 in
      let inner : (h : ℕ) → Same p (homotopy_all p n after ss (project p D s y) h) 0 = λ h. same_trans (homotopy_all-same p n degree two after ss bd1 l.1 (project p D s y) y (λ k. project_once D s y off.0.at_a off.0.at_b k) h) (homotopy_left after ss bd1 l.1 y off.1 h) in
      let a = include-same p n degree D s two bd l.0 (homotopy_all p n after ss (project p D s y)) (λ h. 0) inner g in
      let b = include-combination p n degree D s two bd l.0 0 (λ i. 0) (λ i h. 0) g in
      let first : Same p (homotopy s y g) 0 = elim (eqb g s.b) as (λ v. Same p (cond v (s.inverse * y s.a) 0) 0) [ true ↦ same_trans (same-scale s.inverse off.0.at_a) (same_by p 0 0 _ _ (omega arith)) | false ↦ same_refl p 0 ] in
      same_trans (same-add first (same_trans a (exact p _ _ b))) (same_by p 0 0 _ _ (omega arith))

  -- the inclusion is the chain less the homotopy of its boundary
  pub included : (D : ℕ → ℕ → ℕ) (ss : List Step) → IsBoundary p n degree D → AreSteps p n D ss → (y : ℕ → ℕ) → IsOnLeft p ss y → (g : ℕ) → Same p (include_all p n D ss y g + homotopy_all p n D ss (boundary_by n D y) g) (y g)
  included D ss bd l y off g =
      let i = include_all-same p n degree two D ss bd l y (project_all p D ss y) (λ h. same_sym (project_left D ss bd l y off h)) g in
      let none : Same p (boundary_by n D (homotopy_all p n D ss y) g) 0 = total_none p n (λ h. homotopy_all p n D ss y h * D h g) (λ h q. same_trans (same-mul (homotopy_left D ss bd l y off h) (same_refl p (D h g))) (same_by p 0 0 _ _ (omega arith))) in
      let k = homotopy_all p n D ss (boundary_by n D y) g in
      same_trans (same-add i (same_refl p k))
      (same_trans (same-add (same_refl p (include_all p n D ss (project_all p D ss y) g)) (same_trans (same_by p 0 0 _ (0 + k) (omega arith)) (same-add (same_sym none) (same_refl p k))))
      (log_identity p n degree two D ss bd l y g))

  -- what the steps leave of the boundary of b is the projection of its boundary
  pub row_projected : (D : ℕ → ℕ → ℕ) (ss : List Step) → IsBoundary p n degree D → AreSteps p n D ss → (b : ℕ) → b < n → IsUnpaired ss b → (g : ℕ) → Same p (project_all p D ss (D b) g) (left_all p D ss b g)
  row_projected D ss bd l b q u g =
      let E = left_all p D ss in
      let a = project_all-same p n degree two D ss bd l (D b) (boundary_by n D (single b)) (λ k. exact p _ _ (sym (total_picked_other n b (λ h. D h k) q))) g in
      let c = log_project-boundary p n degree two D ss bd l (single b) g in
      let d : Same p (boundary_by n E (project_all p D ss (single b)) g) (boundary_by n E (single b) g) = total_same p n (λ h. project_all p D ss (single b) h * E h g) (λ h. single b h * E h g) (λ h _. same-mul (project_left D ss bd l (single b) (single_left p ss b u) h) (same_refl p (E h g))) in
      same_trans a (same_trans (same_sym c) (same_trans d (exact p _ _ (total_picked_other n b (λ h. E h g) q))))

  -- a boundary that meets no step is what the steps leave of it
  pub row_kept : (D : ℕ → ℕ → ℕ) (ss : List Step) → IsBoundary p n degree D → AreSteps p n D ss → (b : ℕ) → b < n → IsUnpaired ss b → IsOnLeft p ss (D b) → (g : ℕ) → Same p (D b g) (left_all p D ss b g)
  row_kept D ss bd l b q u off g = same_trans (same_sym (project_left D ss bd l (D b) off g)) (row_projected D ss bd l b q u g)

  -- ---- the homotopy, step by step

  -- each step gives its b, as the steps before it include it
  homotopy_sum : (D : ℕ → ℕ → ℕ) (ks : List KeptStep) → IsBoundary p n degree D → AreSteps p n D (steps_of ks) → (x : ℕ → ℕ) (g : ℕ) → Same p (homotopy_all p n D (steps_of ks) x g) (total (length ks) (λ t. weight_at p D ks x t * included_at p n D ks t g))
  homotopy_sum D [] bd l x g = same_refl p 0
  homotopy_sum D (k ∷ ks) bd l x g =
      let s = k.step in
      let after = left p D s in
      let f : ℕ → ℕ = λ t. weight_at p after ks (project p D s x) t in
      let a = include-same p n degree D s two bd l.0 (homotopy_all p n after (steps_of ks) (project p D s x)) (λ h. total (length ks) (λ t. f t * included_at p n after ks t h)) (homotopy_sum after ks (step_one p n degree two bd l.0) l.1 (project p D s x)) g in
      let b = include-combination p n degree D s two bd l.0 (length ks) f (λ t. included_at p n after ks t) g in
      same-add (exact p _ _ (first s g)) (same_trans a (exact p _ _ b))
    where
      first : (s : Step) (g : ℕ) → homotopy s x g ≡ s.inverse * x s.a * single s.b g
      first s g = elim (eqb g s.b) as (λ v. cond v (s.inverse * x s.a) 0 ≡ s.inverse * x s.a * cond v 1 0) [ true ↦ omega arith | false ↦ omega arith ]

  module _ (D : ℕ → ℕ → ℕ) (ks : List KeptStep) (bd : IsBoundary p n degree D) (st : AreSteps p n D (steps_of ks)) where
    -- b_i, as the steps before it include it, is b_i less what the homotopy of its boundary gives
    step_included : (i g : ℕ) → i < length ks → Same p (included_at p n D ks i g + total i (λ t. weight_at p D ks (D (b_at ks i)) t * included_at p n D ks t g)) (single (b_at ks i) g)
    step_included i g l =
        let b = b_at ks i in
        let ts = take i ks in
        let st' = steps_take p n D i ks st in
        let inside = (step_at p n degree two D ks i st l).b_in in
        let long = length-take-le i ks (omega arith) in
        let off = single_left p (steps_of ts) b (unpaired_by ts b alone) in
        let a = included D (steps_of ts) bd st' (single b) off g in
        let c = homotopy_all-same p n degree two D (steps_of ts) bd st' (boundary_by n D (single b)) (D b) (λ k. exact p _ _ (total_picked_other n b (λ h. D h k) inside)) g in
        let d = homotopy_sum D ts bd st' (D b) g in
        let e : total (length ts) (λ t. weight_at p D ts (D b) t * included_at p n D ts t g) ≡ total i (λ t. weight_at p D ks (D b) t * included_at p n D ks t g) = ap (λ m. total m (λ t. weight_at p D ts (D b) t * included_at p n D ts t g)) long
        ∙ total-same i (λ t. weight_at p D ts (D b) t * included_at p n D ts t g) (λ t. weight_at p D ks (D b) t * included_at p n D ks t g) (λ t q. ap (λ v. v * included_at p n D ts t g) (weight_take p D i t ks (D b) q) ∙ ap (λ v. weight_at p D ks (D b) t * v) (included_take p n D i t ks g q)) in
        same_trans (same-add (same_refl p (included_at p n D ks i g)) (same_sym (same_trans c (same_trans d (exact p _ _ e))))) a
      where
        apart : AreApart (steps_of ks)
        apart = steps_apart p n degree two D (steps_of ks) bd st

        alone : (j : ℕ) → j < length (take i ks) → (b_at ks i ≢ a_at (take i ks) j) × (b_at ks i ≢ b_at (take i ks) j)
        alone j q =
            let m : j < i = omega (arith, length-take-le i ks (omega arith)) in
            let r = apart_at ks j i apart m l in
            subst (λ (k : KeptStep). (b_at ks i ≢ k.step.a) × (b_at ks i ≢ k.step.b)) (sym (get_or-take i ks j no_step m)) ((λ e. r.1 (sym e)), (λ e. r.3 (sym e)))

    pub returning_first : (x : ℕ → ℕ) (terms pending : List (ℕ × ℕ)) → terms ≡ []
        → ((t : ℕ) → t < length ks → Same p (coefficient pending (length ks - 1 - t)) (weight_at p D ks x t))
        → ((k : ℕ) → coefficient pending k ≢ 0 → k < length ks)
        → Returning p n D ks x terms pending (length ks)
    returning_first x terms pending et w inside = record {
      within = omega arith;
      value = λ g. same_trans (homotopy_sum D ks bd st x g)
          (same_trans (total_same p (length ks) (λ t. weight_at p D ks x t * included_at p n D ks t g) (λ t. coefficient pending (length ks - 1 - t) * included_at p n D ks t g) (λ t q. same-mul (same_sym (w t q)) (same_refl p (included_at p n D ks t g))))
          (exact p _ _ (let z : coefficient terms g ≡ 0 = ap (λ (ts : List (ℕ × ℕ)). coefficient ts g) et in omega arith)));
      inside = λ k nz. let l = inside k nz in ((omega arith), l);
    }

    pub returning_next : (x : ℕ → ℕ) (terms pending middle terms' pending' : List (ℕ × ℕ)) (bound after number i b : ℕ)
        → Returning p n D ks x terms pending bound
        → number ≡ coefficient pending after → 0 < number
        → ((j : ℕ) → j ≢ after → coefficient middle j ≡ coefficient pending j)
        → ((j : ℕ) → coefficient middle j ≢ 0 → after < j)
        → i ≡ length ks - 1 - after → b ≡ b_at ks i → terms' ≡ terms ++ (b, number) ∷ []
        → ((j : ℕ) → j < i → Same p (coefficient pending' (length ks - 1 - j)) (coefficient middle (length ks - 1 - j) + minus p (number * weight_at p D ks (D (b_at ks i)) j)))
        → ((k : ℕ) → coefficient pending' k ≢ 0 → (coefficient middle k ≢ 0) ⊎ ((length ks ≤ k + i) × (k < length ks)))
        → Returning p n D ks x terms' pending' i
    returning_next x terms pending middle terms' pending' bound after number i b r en pos others later ei eb et sum inside = record {
      within = omega (arith, here.1);
      value = value;
      inside = λ k nz. ⊎_elim
          (λ m. let l = later k m in let q = r.inside k (λ z. m (others k (λ e. absurd (omega arith)) ∙ z)) in ((omega (arith, here.1, ei)), q.1))
          (λ q. q)
          (inside k nz);
    }
      where
        here : (length ks ≤ after + bound) × (after < length ks)
        here = r.inside after (λ z. absurd (omega arith))

        below : i < bound
        below = let a = here.0 in let c = here.1 in omega arith

        at_i : length ks - 1 - i ≡ after
        at_i = let a = here.0 in let c = here.1 in omega arith

        small : i < length ks
        small = let a = here.0 in let c = here.1 in omega arith

        -- nothing is pending after the last
        none_after : (t : ℕ) → i + 1 ≤ t → t < bound → coefficient pending (length ks - 1 - t) ≡ 0
        none_after t l q = ⊎_elim
            (λ z. z)
            (λ nz. absurd (let w = r.within in let c = here.1 in let m = later (length ks - 1 - t) (λ z. nz (sym (others (length ks - 1 - t) (λ e. absurd (omega arith))) ∙ z)) in omega arith))
            (cases_eq (coefficient pending (length ks - 1 - t)) 0)

        value : (g : ℕ) → Same p (homotopy_all p n D (steps_of ks) x g) (coefficient terms' g + total i (λ t. coefficient pending' (length ks - 1 - t) * included_at p n D ks t g))
        value g =
            let I : ℕ → ℕ = λ t. included_at p n D ks t g in
            let W : ℕ → ℕ = λ t. weight_at p D ks (D (b_at ks i)) t in
            let f : ℕ → ℕ = λ t. coefficient pending (length ks - 1 - t) * included_at p n D ks t g in
            let H = total i (λ t. weight_at p D ks (D (b_at ks i)) t * included_at p n D ks t g) in
            let c1 : total bound f ≡ total (suc i) f = total_cut bound (suc i) f (let q = below in omega arith) (λ t l q. ap (λ v. v * I t) (none_after t (omega arith) q) ∙ omega arith) in
            let c2 : total (suc i) f ≡ total i f + f i = total_last i f in
            let c3 : f i ≡ number * I i = ap (λ k. coefficient pending k * I i) at_i ∙ ap (λ v. v * I i) (sym en) in
            let ahead : Same p (total i (λ t. coefficient pending' (length ks - 1 - t) * included_at p n D ks t g)) (total i f + (p - 1) * number * H) = same_trans
            (total_same p i (λ t. coefficient pending' (length ks - 1 - t) * included_at p n D ks t g) (λ t. f t + (p - 1) * number * (W t * I t)) (λ t q.
            same_trans (same-mul (same_trans (sum t q) (exact p _ _ (ap (λ v. v + minus p (number * W t)) (others (length ks - 1 - t) (λ e. absurd (let s = small in let c = here.1 in omega arith)))))) (same_refl p (I t))) (same_by p 0 0 _ _ (omega arith))))
            (exact p _ _ (total-add i f (λ t. (p - 1) * number * (W t * I t)) ∙ ap (λ v. total i f + v) (total-scale i ((p - 1) * number) (λ t. W t * I t)))) in
            let own : coefficient terms' g ≡ coefficient terms g + number * single b g = ap (λ (ts : List (ℕ × ℕ)). coefficient ts g) et ∙ coefficient-append terms ((b, number) ∷ []) g ∙ ap (λ v. coefficient terms g + (cond v number 0 + 0)) (eqb_sym b g) ∙ scaled (eqb g b) in
            let s = step_included i g small in
            let one : Same p (number * single b g) (number * (I i + H)) = same-scale number (same_trans (exact p _ _ (ap (λ (v : ℕ). single v g) eb)) (same_sym s)) in
            same_trans (r.value g)
            (same_trans (same_by p (number * H) 0 _ (coefficient terms g + number * (I i + H) + (total i f + (p - 1) * number * H)) (positive (coefficient terms g) (total bound f) (total i f) (I i) H (c1 ∙ c2 ∙ ap (λ v. total i f + v) c3)))
            (same-add (same_sym (same_trans (exact p _ _ own) (same-add (same_refl p (coefficient terms g)) one))) (same_sym ahead)))
          where
            scaled : (v : Bool) → coefficient terms g + (cond v number 0 + 0) ≡ coefficient terms g + number * cond v 1 0
            scaled true = omega arith
            scaled false = omega arith

            positive : (c t u v h : ℕ) → t ≡ u + number * v → c + t + p * (number * h) ≡ c + number * (v + h) + (u + (p - 1) * number * h) + p * 0
            positive c t u v h e = let q = neg_cancel p (number * h) (omega arith) in omega arith

    pub returning_end : (x : ℕ → ℕ) (terms pending result : List (ℕ × ℕ)) (bound : ℕ) → Returning p n D ks x terms pending bound → ((k : ℕ) → coefficient pending k ≡ 0) → ((g : ℕ) → Same p (coefficient result g) (coefficient terms g)) → (g : ℕ) → Same p (coefficient result g) (homotopy_all p n D (steps_of ks) x g)
    returning_end x terms pending result bound r none e g =
        let z : total bound (λ t. coefficient pending (length ks - 1 - t) * included_at p n D ks t g) ≡ 0 = total-same bound (λ t. coefficient pending (length ks - 1 - t) * included_at p n D ks t g) (λ t. 0) (λ t q. ap (λ v. v * included_at p n D ks t g) (none (length ks - 1 - t)) ∙ omega arith) ∙ total-zero bound in
        same_trans (e g) (same_sym (same_trans (r.value g) (exact p _ _ (ap (λ v. coefficient terms g + v) z ∙ omega arith))))
