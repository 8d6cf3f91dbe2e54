-- Lists of steps: projection, inclusion and homotopy of the whole list, and what it leaves.
use Rattle.std.proofs.Common.{◌≡◌, ◌≢◌, ℕ, ◌+◌, ◌-◌, ◌*◌, ◌≤◌, inl, inr, refl, sym, ap, ◌∙◌, arith, ⊎_elim, true, false, cond, eqb, eq-eqb, ne_eqb, List, [], ◌∷◌, subst}
use Rattle.std.proofs.lemmas.Bool.{cases_eq}
use Rattle.field_mod.specs.Sums.{total}
use Rattle.field_mod.specs.Modular.{Same, minus}
use Rattle.field_mod.proofs.Sums.{total-same, total-zero, total_same}
use Rattle.field_mod.proofs.Modular.{same_by, same_refl, same_sym, same_trans, same-add, same-scale, same-mul, one_nonzero}
use Rattle.algebraic_reduction.specs.Reduction.{boundary_by, Step, project, include, homotopy, left, IsBoundary, IsStep, IsOff, IsOnLeft, AreSteps, left_all, project_all, include_all, homotopy_all}
use Rattle.algebraic_reduction.proofs.OneStep.{identity, project-same, include-same, include-add, homotopy-same, apply-add, project-off, project-boundary, include-boundary, left_is_boundary, row, row_none, round_trip, include-combination, degrees}
use Rattle.chains.proofs.TermLists.{eqb_cases}

-- neither row nor column of v is left
pub record IsDead (p : ℕ) (D : ℕ → ℕ → ℕ) (v : ℕ) : Type 0 where
  pub row : (g : ℕ) → Same p (D v g) 0
  pub column : (h : ℕ) → Same p (D h v) 0

module _ (p n : ℕ) (degree : ℕ → ℕ) (two : 2 ≤ p) where
  pub step_apart : (D : ℕ → ℕ → ℕ) (s : Step) (v : ℕ) → IsStep p n D s → IsDead p D v → (s.a ≢ v) × (s.b ≢ v)
  step_apart D s v st d = ((λ e. no (subst (λ (k : ℕ). Same p (D s.b k) 0) (sym e) (d.column s.b))), (λ e. no (subst (λ (k : ℕ). Same p (D k s.a) 0) (sym e) (d.row s.a))))
    where
      no : Same p (D s.b s.a) 0 → ⊥
      no z = one_nonzero p two (same_trans (same_sym st.inverts) (same_trans (same-scale s.inverse z) (same_by p 0 0 _ _ (omega arith))))

  pub dead_left : (D : ℕ → ℕ → ℕ) (s : Step) (v : ℕ) → IsDead p D v → IsDead p (left p D s) v
  dead_left D s v d = record { row = λ g. entry v g (d.row g) (d.row s.a); column = λ h. column h }
    where
      value : (h g : ℕ) → Same p (D h g + minus p (s.inverse * D h s.a * D s.b g)) 0 → Same p (left p D s h g) 0
      value h g z = elim (eqb g s.b) as (λ v. Same p (cond v 0 (cond (eqb h s.b) 0 (cond (eqb h s.a) 0 (D h g + minus p (s.inverse * D h s.a * D s.b g))))) 0) [
        | true ↦ same_refl p 0
        | false ↦ elim (eqb h s.b) as (λ v. Same p (cond v 0 (cond (eqb h s.a) 0 (D h g + minus p (s.inverse * D h s.a * D s.b g)))) 0) [
          | true ↦ same_refl p 0
          | false ↦ elim (eqb h s.a) as (λ v. Same p (cond v 0 (D h g + minus p (s.inverse * D h s.a * D s.b g))) 0) [ true ↦ same_refl p 0 | false ↦ z ]
        ]
      ]

      entry : (h g : ℕ) → Same p (D h g) 0 → Same p (D h s.a) 0 → Same p (left p D s h g) 0
      entry h g x y = value h g (same_trans (same_by p 0 0 _ (D h g + (p - 1) * s.inverse * D s.b g * D h s.a) (omega arith)) (same_trans (same-add x (same-scale ((p - 1) * s.inverse * D s.b g) y)) (same_by p 0 0 _ _ (omega arith))))

      column : (h : ℕ) → Same p (left p D s h v) 0
      column h = value h v (same_trans (same_by p 0 0 _ (D h v + (p - 1) * s.inverse * D h s.a * D s.b v) (omega arith)) (same_trans (same-add (d.column h) (same-scale ((p - 1) * s.inverse * D h s.a) (d.column s.b))) (same_by p 0 0 _ _ (omega arith))))

  -- a homotopy puts nothing at what is dead
  homotopy-dead : (D : ℕ → ℕ → ℕ) (ss : List Step) (v : ℕ) → AreSteps p n D ss → IsDead p D v → (x : ℕ → ℕ) → homotopy_all p n D ss x v ≡ 0
  homotopy-dead D [] v l d x = refl
  homotopy-dead D (s ∷ ss) v l d x =
      let r = homotopy-dead (left p D s) ss v l.1 (dead_left D s v d) (project p D s x) in
      let f = ne_eqb v s.b (λ e. (step_apart D s v l.0 d).1 (sym e)) in
      let a : homotopy s x v ≡ 0 = rw f in
      let b : include p n D s (homotopy_all p n (left p D s) ss (project p D s x)) v ≡ homotopy_all p n (left p D s) ss (project p D s x) v = rw f in
      omega arith

  pub homotopy_all-same : (D : ℕ → ℕ → ℕ) (ss : List Step) → IsBoundary p n degree D → AreSteps p n D ss → (x y : ℕ → ℕ) → ((h : ℕ) → Same p (x h) (y h)) → (g : ℕ) → Same p (homotopy_all p n D ss x g) (homotopy_all p n D ss y g)
  homotopy_all-same D [] bd l x y e g = same_refl p 0
  homotopy_all-same D (s ∷ ss) bd l x y e g =
      same-add (homotopy-same p n degree D s two bd l.0 x y e g)
      (include-same p n degree D s two bd l.0 _ _ (homotopy_all-same (left p D s) ss (left_is_boundary p n degree D s two bd l.0) l.1 _ _ (project-same p n degree D s two bd l.0 x y e)) g)

  pub pair-dead_a : (D : ℕ → ℕ → ℕ) (s : Step) → IsBoundary p n degree D → IsStep p n D s → IsDead p (left p D s) s.a
  pair-dead_a D s bd st = record { row = λ g. same_by p 0 0 _ _ (ap (λ v. v + p * 0) (row_none p n degree D s two bd st s.a g (inl refl))); column = λ h. column h }
    where
      column : (h : ℕ) → Same p (left p D s h s.a) 0
      column h = ⊎_elim
          (λ e. same_by p 0 0 _ _ (ap (λ v. v + p * 0) (row_none p n degree D s two bd st h s.a (inl e))))
          (λ na. ⊎_elim
          (λ e. same_by p 0 0 _ _ (ap (λ v. v + p * 0) (row_none p n degree D s two bd st h s.a (inr e))))
          (λ nb. same_trans (same_by p 0 0 _ _ (ap (λ v. v + p * 0) (row p n degree D s two bd st h s.a na nb))) ((project-off p n degree D s two bd st (D h)).at_a))
          (cases_eq h s.b))
          (cases_eq h s.a)

  pub pair-dead_b : (D : ℕ → ℕ → ℕ) (s : Step) → IsBoundary p n degree D → IsStep p n D s → IsDead p (left p D s) s.b
  pair-dead_b D s bd st = record { row = λ g. same_by p 0 0 _ _ (ap (λ v. v + p * 0) (row_none p n degree D s two bd st s.b g (inr refl))); column = λ h. rw (eq-eqb s.b s.b refl) (same_refl p 0) }

  -- the identity less its image is the boundary of the homotopy and the homotopy of the boundary
  pub log_identity : (D : ℕ → ℕ → ℕ) (ss : List Step) → IsBoundary p n degree D → AreSteps p n D ss → (x : ℕ → ℕ) (g : ℕ) → Same p (include_all p n D ss (project_all p D ss x) g + (boundary_by n D (homotopy_all p n D ss x) g + homotopy_all p n D ss (boundary_by n D x) g)) (x g)
  log_identity D [] bd l x g = same_by p 0 0 _ _ (omega (arith, total-same n (λ h. 0 * D h g) (λ h. 0) (λ h k. omega arith), total-zero n))
  log_identity D (s ∷ ss) bd l x g =
      let after = left p D s in
      let bd1 = left_is_boundary p n degree D s two bd l.0 in
      let x1 = project p D s x in
      let h1 = homotopy_all p n after ss x1 in
      let i1 = include_all p n after ss (project_all p after ss x1) in
      let k1 = homotopy_all p n after ss (boundary_by n after x1) in
      let k2 = homotopy_all p n after ss (project p D s (boundary_by n D x)) in
      let inc : (ℕ → ℕ) → ℕ = λ y. include p n D s y g in
      let off : IsOff p s h1 = record { at_a = same_by p 0 0 _ _ (ap (λ v. v + p * 0) (homotopy-dead after ss s.a l.1 (pair-dead_a D s bd l.0) x1)); at_b = same_by p 0 0 _ _ (ap (λ v. v + p * 0) (homotopy-dead after ss s.b l.1 (pair-dead_b D s bd l.0) x1)) } in
      let a = include-same p n degree D s two bd l.0 (λ k. i1 k + (boundary_by n after h1 k + k1 k)) x1 (log_identity after ss bd1 l.1 x1) g in
      let b1 = include-add p n degree D s two bd l.0 i1 (λ k. boundary_by n after h1 k + k1 k) g in
      let b2 = include-add p n degree D s two bd l.0 (boundary_by n after h1) k1 g in
      let c = include-boundary p n degree D s two bd l.0 h1 off g in
      let d : Same p (inc k2) (inc k1) = include-same p n degree D s two bd l.0 k2 k1 (homotopy_all-same after ss bd1 l.1 (project p D s (boundary_by n D x)) (boundary_by n after x1) (λ k. same_sym (project-boundary p n degree D s two bd l.0 x k))) g in
      let e = identity p n degree D s two bd l.0 x g in
      let f = apply-add p n degree D s two bd l.0 D (homotopy s x) (include p n D s h1) g in
      let hs = boundary_by n D (homotopy s x) g in
      let hd = homotopy s (boundary_by n D x) g in
      same_trans (same_by p 0 0 _ ((inc i1 + hs + hd) + (boundary_by n D (include p n D s h1) g + inc k2)) (omega arith))
      (same_trans (same-add (same_refl p (inc i1 + hs + hd)) (same-add c d))
      (same_trans (same_by p 0 0 _ (inc (λ k. i1 k + (boundary_by n after h1 k + k1 k)) + (hs + hd)) (omega arith))
      (same_trans (same-add a (same_refl p (hs + hd))) e)))

  pub step_one : {D : ℕ → ℕ → ℕ} {s : Step} → IsBoundary p n degree D → IsStep p n D s → IsBoundary p n degree (left p D s)
  step_one {D} {s} bd st = left_is_boundary p n degree D s two bd st

  pub exact : {a b : ℕ} → a ≡ b → Same p a b
  exact e = same_by p 0 0 _ _ (ap (λ v. v + p * 0) e)

  include-dead : (D : ℕ → ℕ → ℕ) (ss : List Step) (v : ℕ) → AreSteps p n D ss → IsDead p D v → (y : ℕ → ℕ) → include_all p n D ss y v ≡ y v
  include-dead D [] v l d y = refl
  include-dead D (s ∷ ss) v l d y =
      let f = ne_eqb v s.b (λ e. (step_apart D s v l.0 d).1 (sym e)) in
      let b : include p n D s (include_all p n (left p D s) ss y) v ≡ include_all p n (left p D s) ss y v = rw f in
      b ∙ include-dead (left p D s) ss v l.1 (dead_left D s v d) y

  project-dead : (D : ℕ → ℕ → ℕ) (ss : List Step) (v : ℕ) → AreSteps p n D ss → IsDead p D v → (x : ℕ → ℕ) → Same p (x v) 0 → Same p (project_all p D ss x v) 0
  project-dead D [] v l d x z = z
  project-dead D (s ∷ ss) v l d x z =
      let f = ne_eqb v s.b (λ e. (step_apart D s v l.0 d).1 (sym e)) in
      let b : project p D s x v ≡ x v + minus p (s.inverse * x s.a * D s.b v) = rw f in
      let q = same-scale ((p - 1) * (s.inverse * x s.a)) (d.column s.b) in
      project-dead (left p D s) ss v l.1 (dead_left D s v d) (project p D s x)
      (same_trans (same_by p 0 0 _ (x v + (p - 1) * (s.inverse * x s.a) * D s.b v) (omega arith)) (same_trans (same-add z q) (same_by p 0 0 _ _ (omega arith))))

  pub project_all-same : (D : ℕ → ℕ → ℕ) (ss : List Step) → IsBoundary p n degree D → AreSteps p n D ss → (x y : ℕ → ℕ) → ((h : ℕ) → Same p (x h) (y h)) → (g : ℕ) → Same p (project_all p D ss x g) (project_all p D ss y g)
  project_all-same D [] bd l x y e g = e g
  project_all-same D (s ∷ ss) bd l x y e g = project_all-same (left p D s) ss (step_one bd l.0) l.1 _ _ (project-same p n degree D s two bd l.0 x y e) g

  pub include_all-same : (D : ℕ → ℕ → ℕ) (ss : List Step) → IsBoundary p n degree D → AreSteps p n D ss → (x y : ℕ → ℕ) → ((h : ℕ) → Same p (x h) (y h)) → (g : ℕ) → Same p (include_all p n D ss x g) (include_all p n D ss y g)
  include_all-same D [] bd l x y e g = e g
  include_all-same D (s ∷ ss) bd l x y e g = include-same p n degree D s two bd l.0 _ _ (include_all-same (left p D s) ss (step_one bd l.0) l.1 x y e) g

  include-off : (D : ℕ → ℕ → ℕ) (s : Step) (ss : List Step) → IsBoundary p n degree D → AreSteps p n D (s ∷ ss) → (y : ℕ → ℕ) → IsOff p s y → IsOff p s (include_all p n (left p D s) ss y)
  include-off D s ss bd l y off = record {
    at_a = same_trans (exact (include-dead (left p D s) ss s.a l.1 (pair-dead_a D s bd l.0) y)) off.at_a;
    at_b = same_trans (exact (include-dead (left p D s) ss s.b l.1 (pair-dead_b D s bd l.0) y)) off.at_b;
  }

  pub log_round_trip : (D : ℕ → ℕ → ℕ) (ss : List Step) → IsBoundary p n degree D → AreSteps p n D ss → (y : ℕ → ℕ) → IsOnLeft p ss y → (g : ℕ) → Same p (project_all p D ss (include_all p n D ss y) g) (y g)
  log_round_trip D [] bd l y off g = same_refl p (y g)
  log_round_trip D (s ∷ ss) bd l y off g =
      same_trans (project_all-same (left p D s) ss (step_one bd l.0) l.1 _ _ (round_trip p n degree D s two bd l.0 (include_all p n (left p D s) ss y) (include-off D s ss bd l y off.0)) g)
      (log_round_trip (left p D s) ss (step_one bd l.0) l.1 y off.1 g)

  pub log_include-boundary : (D : ℕ → ℕ → ℕ) (ss : List Step) → IsBoundary p n degree D → AreSteps p n D ss → (y : ℕ → ℕ) → IsOnLeft p ss y → (g : ℕ) → Same p (boundary_by n D (include_all p n D ss y) g) (include_all p n D ss (boundary_by n (left_all p D ss) y) g)
  log_include-boundary D [] bd l y off g = same_refl p (boundary_by n D y g)
  log_include-boundary D (s ∷ ss) bd l y off g =
      same_trans (include-boundary p n degree D s two bd l.0 (include_all p n (left p D s) ss y) (include-off D s ss bd l y off.0) g)
      (include-same p n degree D s two bd l.0 _ _ (log_include-boundary (left p D s) ss (step_one bd l.0) l.1 y off.1) g)

  pub log_project-boundary : (D : ℕ → ℕ → ℕ) (ss : List Step) → IsBoundary p n degree D → AreSteps p n D ss → (x : ℕ → ℕ) (g : ℕ) → Same p (boundary_by n (left_all p D ss) (project_all p D ss x) g) (project_all p D ss (boundary_by n D x) g)
  log_project-boundary D [] bd l x g = same_refl p (boundary_by n D x g)
  log_project-boundary D (s ∷ ss) bd l x g =
      same_trans (log_project-boundary (left p D s) ss (step_one bd l.0) l.1 (project p D s x) g)
      (project_all-same (left p D s) ss (step_one bd l.0) l.1 _ _ (project-boundary p n degree D s two bd l.0 x) g)

  pub log_combination : (D : ℕ → ℕ → ℕ) (ss : List Step) → IsBoundary p n degree D → AreSteps p n D ss → (m : ℕ) (x : ℕ → ℕ) (y : ℕ → ℕ → ℕ) (g : ℕ) → Same p (include_all p n D ss (λ h. total m (λ i. x i * y i h)) g) (total m (λ i. x i * include_all p n D ss (y i) g))
  log_combination D [] bd l m x y g = same_refl p (total m (λ i. x i * y i g))
  log_combination D (s ∷ ss) bd l m x y g =
      same_trans (include-same p n degree D s two bd l.0 _ _ (log_combination (left p D s) ss (step_one bd l.0) l.1 m x y) g)
      (exact (include-combination p n degree D s two bd l.0 m x (λ i. include_all p n (left p D s) ss (y i)) g))

  pub homotopy_all-none : (D : ℕ → ℕ → ℕ) (ss : List Step) → IsBoundary p n degree D → AreSteps p n D ss → (x : ℕ → ℕ) → ((h : ℕ) → Same p (x h) 0) → (g : ℕ) → Same p (homotopy_all p n D ss x g) 0
  homotopy_all-none D [] bd l x z g = same_refl p 0
  homotopy_all-none D (s ∷ ss) bd l x z g =
      let px : (h : ℕ) → Same p (project p D s x h) 0 = λ h. project-zero D s x z h in
      let a = include-same p n degree D s two bd l.0 _ (λ h. 0) (homotopy_all-none (left p D s) ss (step_one bd l.0) l.1 (project p D s x) px) g in
      let b = include-combination p n degree D s two bd l.0 0 (λ i. 0) (λ i h. 0) g in
      same_trans (same-add (homotopy-zero s x z g) (same_trans a (exact b))) (same_by p 0 0 _ _ (omega arith))
    where
      homotopy-zero : (s : Step) (x : ℕ → ℕ) → ((h : ℕ) → Same p (x h) 0) → (g : ℕ) → Same p (homotopy s x g) 0
      homotopy-zero s x z g = elim (eqb g s.b) as (λ v. Same p (cond v (s.inverse * x s.a) 0) 0) [ true ↦ same_trans (same-scale s.inverse (z s.a)) (same_by p 0 0 _ _ (omega arith)) | false ↦ same_refl p 0 ]

      project-zero : (D : ℕ → ℕ → ℕ) (s : Step) (x : ℕ → ℕ) → ((h : ℕ) → Same p (x h) 0) → (g : ℕ) → Same p (project p D s x g) 0
      project-zero D s x z g = elim (eqb g s.b) as (λ v. Same p (cond v 0 (x g + minus p (s.inverse * x s.a * D s.b g))) 0) [
        | true ↦ same_refl p 0
        | false ↦ same_trans (same_by p 0 0 _ (x g + (p - 1) * s.inverse * D s.b g * x s.a) (omega arith)) (same_trans (same-add (z g) (same-scale ((p - 1) * s.inverse * D s.b g) (z s.a))) (same_by p 0 0 _ _ (omega arith)))
      ]

  -- a projected chain has nothing at the pairs, and keeps its degree
  pub project-off_all : (D : ℕ → ℕ → ℕ) (ss : List Step) → IsBoundary p n degree D → AreSteps p n D ss → (x : ℕ → ℕ) → IsOnLeft p ss (project_all p D ss x)
  project-off_all D [] bd l x = tt
  project-off_all D (s ∷ ss) bd l x =
      let off = project-off p n degree D s two bd l.0 x in (
        record {
          at_a = project-dead (left p D s) ss s.a l.1 (pair-dead_a D s bd l.0) (project p D s x) off.at_a;
          at_b = project-dead (left p D s) ss s.b l.1 (pair-dead_b D s bd l.0) (project p D s x) off.at_b;
        },
        project-off_all (left p D s) ss (step_one bd l.0) l.1 (project p D s x),
      )

  pub project-degree : (D : ℕ → ℕ → ℕ) (ss : List Step) → IsBoundary p n degree D → AreSteps p n D ss → (k : ℕ) (x : ℕ → ℕ) → ((g : ℕ) → degree g ≢ k → Same p (x g) 0) → (g : ℕ) → degree g ≢ k → Same p (project_all p D ss x g) 0
  project-degree D [] bd l k x h g f = h g f
  project-degree D (s ∷ ss) bd l k x h g f = project-degree (left p D s) ss (step_one bd l.0) l.1 k (project p D s x) (λ g f. one g f) g f
    where
      one : (g : ℕ) → degree g ≢ k → Same p (project p D s x g) 0
      one g f =
          let d = degrees p n degree D s two bd l.0 in
          let z : Same p (x s.a * D s.b g) 0 = ⊎_elim
          (λ e. same_trans (same-scale (x s.a) (bd.lowers s.b g (λ q. f (omega arith)))) (same_by p 0 0 _ _ (omega arith)))
          (λ w. same_trans (same-mul (h s.a w) (same_refl p (D s.b g))) (same_by p 0 0 _ _ (omega arith)))
          (cases_eq (degree s.a) k) in
          elim (eqb g s.b) as (λ v. Same p (cond v 0 (x g + minus p (s.inverse * x s.a * D s.b g))) 0) [
            | true ↦ same_refl p 0
            | false ↦ same_trans (same_by p 0 0 _ (x g + (p - 1) * s.inverse * (x s.a * D s.b g)) (omega arith)) (same_trans (same-add (h g f) (same-scale ((p - 1) * s.inverse) z)) (same_by p 0 0 _ _ (omega arith)))
          ]

  pub include-degree : (D : ℕ → ℕ → ℕ) (ss : List Step) → IsBoundary p n degree D → AreSteps p n D ss → (k : ℕ) (y : ℕ → ℕ) → ((g : ℕ) → degree g ≢ k → Same p (y g) 0) → (g : ℕ) → degree g ≢ k → Same p (include_all p n D ss y g) 0
  include-degree D [] bd l k y h g f = h g f
  include-degree D (s ∷ ss) bd l k y h g f =
      let z = include_all p n (left p D s) ss y in
      let r = include-degree (left p D s) ss (step_one bd l.0) l.1 k y h in
      let d = degrees p n degree D s two bd l.0 in
      ⊎_elim
      (λ e.
      let b : degree g ≡ degree s.b = ap degree e in
      let none : degree s.a + 1 ≢ k = λ q. f (b ∙ sym d ∙ q) in
      let a : Same p (boundary_by n D z s.a) 0 = same_trans (total_same p n (λ h. z h * D h s.a) (λ h. 0) (λ h m. term z r h none)) (same_by p 0 0 (total n (λ h. 0)) 0 (omega (arith, total-zero n))) in
      let v : Same p (z g + minus p (s.inverse * boundary_by n D z s.a)) 0 = same_trans (same_by p 0 0 (z g + minus p (s.inverse * boundary_by n D z s.a)) (z g + (p - 1) * s.inverse * boundary_by n D z s.a) (omega arith)) (same_trans (same-add (r g f) (same-scale ((p - 1) * s.inverse) a)) (same_by p 0 0 (0 + (p - 1) * s.inverse * 0) 0 (omega arith))) in
      rw (eq-eqb g s.b e) v)
      (λ w. rw w (r g f))
      (eqb_cases g s.b)
    where
      term : (z : ℕ → ℕ) → ((g : ℕ) → degree g ≢ k → Same p (z g) 0) → (h : ℕ) → degree s.a + 1 ≢ k → Same p (z h * D h s.a) 0
      term z r h none = ⊎_elim
          (λ e. same_trans (same-scale (z h) (bd.lowers h s.a (λ q. none (q ∙ e)))) (same_by p 0 0 _ _ (omega arith)))
          (λ w. same_trans (same-mul (r h w) (same_refl p (D h s.a))) (same_by p 0 0 _ _ (omega arith)))
          (cases_eq (degree h) k)
