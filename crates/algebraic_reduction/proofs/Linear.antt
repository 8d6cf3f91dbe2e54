-- Projection, inclusion and homotopy are linear, the homotopy raises degrees by one, and what is left is a complex on the
-- generators in no step.
use Rattle.std.proofs.Common.{◌≡◌, ◌≢◌, ℕ, ◌+◌, ◌*◌, ◌≤◌, refl, sym, ap, arith, ⊎_elim, true, false, cond, eqb, eq-eqb, List, [], ◌∷◌, subst}
use Rattle.std.proofs.lemmas.Bool.{cases_eq}
use Rattle.field_mod.specs.Modular.{Same, minus}
use Rattle.field_mod.proofs.Sums.{total-same, total-add, total-scale}
use Rattle.field_mod.proofs.Modular.{same_by, same_refl, same_trans, same-add, same-scale}
use Rattle.algebraic_reduction.specs.Reduction.{boundary_by, Step, project, include, homotopy, left, IsBoundary, IsUnpaired, AreSteps, left_all, project_all, include_all, homotopy_all}
use Rattle.algebraic_reduction.specs.Laws.{AreApart, IsLinear}
use Rattle.algebraic_reduction.proofs.OneStep.{include-same, degrees}
use Rattle.algebraic_reduction.proofs.Steps.{IsDead, step_apart, dead_left, pair-dead_a, pair-dead_b, step_one, exact, project_all-same, homotopy_all-same, include-degree, project-degree}
use Rattle.chains.proofs.TermLists.{eqb_cases}

-- ---- one step, exactly

pub boundary-linear : (n : ℕ) (D : ℕ → ℕ → ℕ) (u v : ℕ) (x y : ℕ → ℕ) (g : ℕ) → boundary_by n D (λ h. u * x h + v * y h) g ≡ u * boundary_by n D x g + v * boundary_by n D y g
boundary-linear n D u v x y g =
    let a = total-add n (λ h. u * (x h * D h g)) (λ h. v * (y h * D h g)) in
    let b = total-scale n u (λ h. x h * D h g) in
    let c = total-scale n v (λ h. y h * D h g) in
    let d = total-same n (λ h. (u * x h + v * y h) * D h g) (λ h. u * (x h * D h g) + v * (y h * D h g)) (λ h k. omega arith) in
    omega arith

pub project-linear : (p : ℕ) (D : ℕ → ℕ → ℕ) (s : Step) (u v : ℕ) (x y : ℕ → ℕ) (g : ℕ) → project p D s (λ h. u * x h + v * y h) g ≡ u * project p D s x g + v * project p D s y g
project-linear p D s u v x y g = elim (eqb g s.b) as (λ t. cond t 0 (u * x g + v * y g + minus p (s.inverse * (u * x s.a + v * y s.a) * D s.b g)) ≡ u * cond t 0 (x g + minus p (s.inverse * x s.a * D s.b g)) + v * cond t 0 (y g + minus p (s.inverse * y s.a * D s.b g))) [
  | true ↦ omega arith
  | false ↦ omega arith
]

pub include-linear : (p n : ℕ) (D : ℕ → ℕ → ℕ) (s : Step) (u v : ℕ) (x y : ℕ → ℕ) (g : ℕ) → include p n D s (λ h. u * x h + v * y h) g ≡ u * include p n D s x g + v * include p n D s y g
include-linear p n D s u v x y g =
    let a = boundary-linear n D u v x y s.a in
    elim (eqb g s.b) as (λ t. cond t (u * x g + v * y g + minus p (s.inverse * boundary_by n D (λ h. u * x h + v * y h) s.a)) (u * x g + v * y g) ≡ u * cond t (x g + minus p (s.inverse * boundary_by n D x s.a)) (x g) + v * cond t (y g + minus p (s.inverse * boundary_by n D y s.a)) (y g)) [
      | true ↦ let b = ap (λ q. minus p (s.inverse * q)) a in omega arith
      | false ↦ refl
    ]

pub homotopy-linear : (s : Step) (u v : ℕ) (x y : ℕ → ℕ) (g : ℕ) → homotopy s (λ h. u * x h + v * y h) g ≡ u * homotopy s x g + v * homotopy s y g
homotopy-linear s u v x y g = elim (eqb g s.b) as (λ t. cond t (s.inverse * (u * x s.a + v * y s.a)) 0 ≡ u * cond t (s.inverse * x s.a) 0 + v * cond t (s.inverse * y s.a) 0) [ true ↦ omega arith | false ↦ omega arith ]

-- ---- a list of steps

module _ (p n : ℕ) (degree : ℕ → ℕ) (two : 2 ≤ p) where
  pub project_all-linear : (D : ℕ → ℕ → ℕ) (ss : List Step) → IsBoundary p n degree D → AreSteps p n D ss → IsLinear p (project_all p D ss)
  project_all-linear D [] bd l u v x y g = same_refl p _
  project_all-linear D (s ∷ ss) bd l u v x y g =
      same_trans (project_all-same p n degree two (left p D s) ss (step_one p n degree two bd l.0) l.1 _ _ (λ h. exact p n degree two (project-linear p D s u v x y h)) g)
      (project_all-linear (left p D s) ss (step_one p n degree two bd l.0) l.1 u v (project p D s x) (project p D s y) g)

  pub include_all-linear : (D : ℕ → ℕ → ℕ) (ss : List Step) → IsBoundary p n degree D → AreSteps p n D ss → IsLinear p (include_all p n D ss)
  include_all-linear D [] bd l u v x y g = same_refl p _
  include_all-linear D (s ∷ ss) bd l u v x y g =
      let after = left p D s in
      let i = include_all-linear after ss (step_one p n degree two bd l.0) l.1 u v x y in
      same_trans (include-same p n degree D s two bd l.0 _ (λ h. u * include_all p n after ss x h + v * include_all p n after ss y h) i g)
      (exact p n degree two (include-linear p n D s u v (include_all p n after ss x) (include_all p n after ss y) g))

  pub homotopy_all-linear : (D : ℕ → ℕ → ℕ) (ss : List Step) → IsBoundary p n degree D → AreSteps p n D ss → IsLinear p (homotopy_all p n D ss)
  homotopy_all-linear D [] bd l u v x y g = same_by p 0 0 _ _ (omega arith)
  homotopy_all-linear D (s ∷ ss) bd l u v x y g =
      let after = left p D s in
      let bd1 = step_one p n degree two bd l.0 in
      let hx = homotopy_all p n after ss (project p D s x) in
      let hy = homotopy_all p n after ss (project p D s y) in
      let a : (h : ℕ) → Same p (homotopy_all p n after ss (project p D s (λ h. u * x h + v * y h)) h) (u * hx h + v * hy h) = λ h.
      same_trans (homotopy_all-same p n degree two after ss bd1 l.1 _ _ (λ k. exact p n degree two (project-linear p D s u v x y k)) h) (homotopy_all-linear after ss bd1 l.1 u v (project p D s x) (project p D s y) h) in
      let b = include-same p n degree D s two bd l.0 _ (λ h. u * hx h + v * hy h) a g in
      let c = include-linear p n D s u v hx hy g in
      let d = homotopy-linear s u v x y g in
      same_trans (same-add (exact p n degree two d) (same_trans b (exact p n degree two c))) (same_by p 0 0 _ _ (omega arith))

  -- the homotopy raises the degree by one
  pub homotopy-degree : (D : ℕ → ℕ → ℕ) (ss : List Step) → IsBoundary p n degree D → AreSteps p n D ss → (k : ℕ) (x : ℕ → ℕ) → ((g : ℕ) → degree g ≢ k → Same p (x g) 0) → (g : ℕ) → degree g ≢ k + 1 → Same p (homotopy_all p n D ss x g) 0
  homotopy-degree D [] bd l k x h g f = same_refl p 0
  homotopy-degree D (s ∷ ss) bd l k x h g f =
      let after = left p D s in
      let d = degrees p n degree D s two bd l.0 in
      let r = homotopy-degree after ss (step_one p n degree two bd l.0) l.1 k (project p D s x) (project-degree p n degree two D (s ∷ []) bd (l.0, tt) k x h) in
      let i = include-degree p n degree two D (s ∷ []) bd (l.0, tt) (k + 1) (homotopy_all p n after ss (project p D s x)) r g f in
      let first : Same p (homotopy s x g) 0 = ⊎_elim
      (λ e. let q : degree g ≡ degree s.b = ap degree e in let none : degree s.a ≢ k = omega arith in rw (eq-eqb g s.b e) (same_trans (same-scale s.inverse (h s.a none)) (same_by p 0 0 _ _ (omega arith))))
      (λ w. rw w (same_refl p 0))
      (eqb_cases g s.b) in
      same_trans (same-add first i) (same_by p 0 0 _ _ (omega arith))

  -- what is dead stays so, and is in no later step
  pub dead_left_all : (D : ℕ → ℕ → ℕ) (ss : List Step) (v : ℕ) → IsDead p D v → IsDead p (left_all p D ss) v
  dead_left_all D [] v d = d
  dead_left_all D (s ∷ ss) v d = dead_left_all (left p D s) ss v (dead_left p n degree two D s v d)

  pub dead_unpaired : (D : ℕ → ℕ → ℕ) (ss : List Step) (v : ℕ) → AreSteps p n D ss → IsDead p D v → IsUnpaired ss v
  dead_unpaired D [] v l d = tt
  dead_unpaired D (s ∷ ss) v l d =
      let w = step_apart p n degree two D s v l.0 d in
      ((λ e. w.0 (sym e)), (λ e. w.1 (sym e)), dead_unpaired (left p D s) ss v l.1 (dead_left p n degree two D s v d))

  pub steps_apart : (D : ℕ → ℕ → ℕ) (ss : List Step) → IsBoundary p n degree D → AreSteps p n D ss → AreApart ss
  steps_apart D [] bd l = tt
  steps_apart D (s ∷ ss) bd l = (
    dead_unpaired (left p D s) ss s.a l.1 (pair-dead_a p n degree two D s bd l.0),
    dead_unpaired (left p D s) ss s.b l.1 (pair-dead_b p n degree two D s bd l.0),
    steps_apart (left p D s) ss (step_one p n degree two bd l.0) l.1,
  )

  pub paired_dead : (D : ℕ → ℕ → ℕ) (ss : List Step) (v : ℕ) → IsBoundary p n degree D → AreSteps p n D ss → (IsUnpaired ss v → ⊥) → IsDead p (left_all p D ss) v
  paired_dead D [] v bd l w = absurd (w tt)
  paired_dead D (s ∷ ss) v bd l w =
      let after = left p D s in
      ⊎_elim
      (λ e. subst (λ (k : ℕ). IsDead p (left_all p after ss) k) (sym e) (dead_left_all after ss s.a (pair-dead_a p n degree two D s bd l.0)))
      (λ f. ⊎_elim
      (λ e. subst (λ (k : ℕ). IsDead p (left_all p after ss) k) (sym e) (dead_left_all after ss s.b (pair-dead_b p n degree two D s bd l.0)))
      (λ h. paired_dead after ss v (step_one p n degree two bd l.0) l.1 (λ u. w (f, h, u)))
      (cases_eq v s.b))
      (cases_eq v s.a)

  pub left_all_is_boundary : (D : ℕ → ℕ → ℕ) (ss : List Step) → IsBoundary p n degree D → AreSteps p n D ss → IsBoundary p n degree (left_all p D ss)
  left_all_is_boundary D [] bd l = bd
  left_all_is_boundary D (s ∷ ss) bd l = left_all_is_boundary (left p D s) ss (step_one p n degree two bd l.0) l.1
