-- The generators that are left, where no boundary is left, give a basis.
use Rattle.std.proofs.Common.{◌≡◌, ◌≢◌, ℕ, ◌+◌, ◌*◌, ◌<◌, ◌≤◌, ◌⊎◌, inl, inr, sym, ap, ◌∙◌, arith, ⊎_elim, cond, eqb, eq-eqb, ne_eqb, List, [], ◌∷◌, length, subst}
use Rattle.std.proofs.lemmas.Bool.{cases_eq, cases_lt, lt-ltb}
use Rattle.field_mod.specs.Sums.{total}
use Rattle.field_mod.specs.Modular.{Same}
use Rattle.field_mod.proofs.Sums.{total-same, total-zero, total_same, total-single}
use Rattle.field_mod.proofs.Modular.{same_by, same_refl, same_sym, same_trans, same-add, same-scale}
use Rattle.algebraic_reduction.specs.Reduction.{boundary_by, Step, IsBoundary, AreSteps, left_all, project_all, include_all, homotopy_all, single, IsUnpaired, IsOnLeft}
use Rattle.chains.specs.Homology.{IsCycle, IsNull, combination}
use Rattle.chains.specs.ChainComplex.{ChainComplex, incidence, boundary, IsComplex, system}
use Rattle.algebraic_reduction.specs.Laws.{include_of, LeftGeneratorsAreBasis}
use Rattle.algebraic_reduction.proofs.Bridge.{grade, grade_in, grade_past, grade_inside, is_boundary, to_grade, of_grade}
use Rattle.algebraic_reduction.proofs.Linear.{homotopy-degree}
use Rattle.algebraic_reduction.proofs.Steps.{exact, log_identity, log_round_trip, log_include-boundary, log_project-boundary, log_combination, homotopy_all-none, project_all-same, include_all-same, project-off_all, project-degree, include-degree}

pub decide_unpaired : (ss : List Step) (g : ℕ) → IsUnpaired ss g ⊎ ((IsUnpaired ss g) → ⊥)
decide_unpaired [] g = inl tt
decide_unpaired (s ∷ ss) g = ⊎_elim (λ e. inr (λ u. u.0 e)) (λ f. ⊎_elim (λ e. inr (λ u. u.1 e)) (λ h. ⊎_elim (λ u. inl (f, h, u)) (λ w. inr (λ u. w u.2)) (decide_unpaired ss g)) (cases_eq g s.b)) (cases_eq g s.a)

-- a chain with nothing at the pairs has nothing at a generator that is one of a pair
pub off_paired : (p : ℕ) (ss : List Step) (y : ℕ → ℕ) (g : ℕ) → IsOnLeft p ss y → (IsUnpaired ss g → ⊥) → Same p (y g) 0
off_paired p [] y g off w = absurd (w tt)
off_paired p (s ∷ ss) y g off w =
    ⊎_elim (λ e. subst (λ (k : ℕ). Same p (y k) 0) (sym e) off.0.at_a) (λ f. ⊎_elim (λ e. subst (λ (k : ℕ). Same p (y k) 0) (sym e) off.0.at_b) (λ h. off_paired p ss y g off.1 (λ u. w (f, h, u))) (cases_eq g s.b)) (cases_eq g s.a)

-- at 0 .. m - 1 stand the generators of degree k that are in no step, each once
pub record AreLeft (degree : ℕ → ℕ) (k : ℕ) (ss : List Step) (m : ℕ) (at : ℕ → ℕ) : Type 0 where
  pub of_degree : (i : ℕ) → i < m → degree (at i) ≡ k
  pub unpaired : (i : ℕ) → i < m → IsUnpaired ss (at i)
  pub once : (i j : ℕ) → i < m → j < m → at i ≡ at j → i ≡ j
  pub all : (g : ℕ) → degree g ≡ k → IsUnpaired ss g → (i : ℕ) × (i < m) × (at i ≡ g)

module _ (p n : ℕ) (degree : ℕ → ℕ) (D : ℕ → ℕ → ℕ) (ss : List Step) (k m : ℕ) (at : ℕ → ℕ) (two : 2 ≤ p) (bd : IsBoundary p n degree D) (l : AreSteps p n D ss) (done : (h g : ℕ) → Same p (left_all p D ss h g) 0) (lf : AreLeft degree k ss m at) where
  apply-done : (y : ℕ → ℕ) (g : ℕ) → Same p (boundary_by n (left_all p D ss) y g) 0
  apply-done y g = same_trans (total_same p n (λ h. y h * left_all p D ss h g) (λ h. 0) (λ h _. same_trans (same-scale (y h) (done h g)) (same_by p 0 0 _ _ (omega arith)))) (exact p n degree two (total-zero n))

  include_none : (y : ℕ → ℕ) → ((g : ℕ) → Same p (y g) 0) → (g : ℕ) → Same p (include_all p n D ss y g) 0
  include_none y z g = same_trans (include_all-same p n degree two D ss bd l y (λ h. 0) z g) (log_combination p n degree two D ss bd l 0 (λ i. 0) (λ i h. 0) g)

  -- a combination of the generators that are left
  abbrev pub sums : (ℕ → ℕ) → ℕ → ℕ
  sums x h = total m (λ i. x i * single (at i) h)

  pub sums_none : (x : ℕ → ℕ) (h : ℕ) → ((i : ℕ) → i < m → at i ≢ h) → sums x h ≡ 0
  sums_none x h w = total-same m (λ i. x i * single (at i) h) (λ i. 0) (λ i q. rw (ne_eqb h (at i) (λ e. w i q (sym e))) (omega arith)) ∙ total-zero m

  pub sums_at : (x : ℕ → ℕ) (j : ℕ) → j < m → sums x (at j) ≡ x j
  sums_at x j q = total-same m (λ i. x i * single (at i) (at j)) (λ i. cond (eqb j i) 1 0 * x i) (λ i r. each i r) ∙ total-single m j 1 x q ∙ omega arith
    where
      each : (i : ℕ) → i < m → x i * single (at i) (at j) ≡ cond (eqb j i) 1 0 * x i
      each i r = ⊎_elim
          (λ e. rw (eq-eqb j i e, eq-eqb (at j) (at i) (ap at e)) (omega arith))
          (λ f. let a = ne_eqb j i f in let b = ne_eqb (at j) (at i) (λ e. f (lf.once j i q r e)) in rw a (rw b (omega arith)))
          (cases_eq j i)

  sums_off : (ts : List Step) (x : ℕ → ℕ) → ((i : ℕ) → i < m → IsUnpaired ts (at i)) → IsOnLeft p ts (sums x)
  sums_off [] x u = tt
  sums_off (s ∷ ts) x u = (record { at_a = exact p n degree two (sums_none x s.a (λ i q. (u i q).0)); at_b = exact p n degree two (sums_none x s.b (λ i q. (u i q).1)) }, sums_off ts x (λ i q. (u i q).2))

  pub single_off : (ts : List Step) (g : ℕ) → IsUnpaired ts g → IsOnLeft p ts (single g)
  single_off [] g u = tt
  single_off (s ∷ ts) g u = (record { at_a = rw (ne_eqb s.a g (λ e. u.0 (sym e))) (same_refl p 0); at_b = rw (ne_eqb s.b g (λ e. u.1 (sym e))) (same_refl p 0) }, single_off ts g u.2)

  pub cycle-degree : (i : ℕ) → i < m → (g : ℕ) → degree g ≢ k → Same p (include_all p n D ss (single (at i)) g) 0
  cycle-degree i q = include-degree p n degree two D ss bd l k (single (at i)) (λ g f. rw (ne_eqb g (at i) (λ e. f (ap degree e ∙ lf.of_degree i q))) (same_refl p 0))

  pub cycle-closed : (i : ℕ) → i < m → (g : ℕ) → Same p (boundary_by n D (include_all p n D ss (single (at i))) g) 0
  cycle-closed i q g = same_trans (log_include-boundary p n degree two D ss bd l (single (at i)) (single_off ss (at i) (lf.unpaired i q)) g) (include_none (boundary_by n (left_all p D ss) (single (at i))) (apply-done (single (at i))) g)

  pub free : (x c : ℕ → ℕ) → ((g : ℕ) → Same p (total m (λ i. x i * include_all p n D ss (single (at i)) g)) (boundary_by n D c g)) → (i : ℕ) → i < m → Same p (x i) 0
  free x c e i q =
      let combined : (g : ℕ) → Same p (include_all p n D ss (sums x) g) (boundary_by n D c g) = λ g. same_trans (log_combination p n degree two D ss bd l m x (λ i. single (at i)) g) (e g) in
      let a = log_round_trip p n degree two D ss bd l (sums x) (sums_off ss x lf.unpaired) (at i) in
      let b = project_all-same p n degree two D ss bd l (include_all p n D ss (sums x)) (boundary_by n D c) combined (at i) in
      let d = log_project-boundary p n degree two D ss bd l c (at i) in
      same_trans (exact p n degree two (sym (sums_at x i q))) (same_trans (same_sym a) (same_trans b (same_trans (same_sym d) (apply-done (project_all p D ss c) (at i)))))

  abbrev pub coeffs : (ℕ → ℕ) → ℕ → ℕ
  coeffs y i = project_all p D ss y (at i)

  -- a cycle is the combination of the inclusions with its projection's coefficients, and the boundary of its homotopy
  pub span : (y : ℕ → ℕ) → ((g : ℕ) → degree g ≢ k → Same p (y g) 0) → ((g : ℕ) → Same p (boundary_by n D y g) 0) → (g : ℕ) → Same p (y g) (total m (λ i. coeffs y i * include_all p n D ss (single (at i)) g) + boundary_by n D (homotopy_all p n D ss y) g)
  span y of_degree closed = final
    where
      -- the projection is a combination of what is left
      same_sums : (g : ℕ) → Same p (project_all p D ss y g) (sums (coeffs y) g)
      same_sums g = ⊎_elim
          (λ e. ⊎_elim
          (λ u. let w = lf.all g e u in subst (λ (h : ℕ). Same p (project_all p D ss y h) (sums (coeffs y) h)) w.2 (exact p n degree two (sym (sums_at (coeffs y) w.0 w.1))))
          (λ v. same_trans (off_paired p ss (project_all p D ss y) g (project-off_all p n degree two D ss bd l y) v) (exact p n degree two (sym (sums_none (coeffs y) g (λ i q e. v (subst (IsUnpaired ss) e (lf.unpaired i q)))))))
          (decide_unpaired ss g))
          (λ f. same_trans (project-degree p n degree two D ss bd l k y of_degree g f) (exact p n degree two (sym (sums_none (coeffs y) g (λ i q e. f (sym (ap degree e) ∙ lf.of_degree i q))))))
          (cases_eq (degree g) k)

      final : (g : ℕ) → Same p (y g) (total m (λ i. coeffs y i * include_all p n D ss (single (at i)) g) + boundary_by n D (homotopy_all p n D ss y) g)
      final g =
          let a = log_identity p n degree two D ss bd l y g in
          let b = homotopy_all-none p n degree two D ss bd l (boundary_by n D y) closed g in
          let c = include_all-same p n degree two D ss bd l (project_all p D ss y) (sums (coeffs y)) same_sums g in
          let d = log_combination p n degree two D ss bd l m (coeffs y) (λ i. single (at i)) g in
          same_trans (same_sym a) (same_trans (same-add (same_trans c d) (same-add (same_refl p (boundary_by n D (homotopy_all p n D ss y) g)) b)) (same_by p 0 0 _ _ (omega arith)))

-- no boundary has a coefficient past the generators
boundary_past : (p : ℕ) (K : ChainComplex) → IsComplex p K → (z : ℕ → ℕ) (g : ℕ) → length K.boundaries ≤ g → Same p (boundary K.boundaries z g) 0
boundary_past p K c z g l = same_trans (total_same p (length K.boundaries) (λ h. z h * incidence K.boundaries h g) (λ h. 0) (λ h q. same_trans (same-scale (z h) ((is_boundary p K c).lowers h g (past h q))) (same_by p 0 0 _ _ (omega arith)))) (same_by p 0 0 _ _ (omega (arith, total-zero (length K.boundaries))))
  where
    past : (h : ℕ) → h < length K.boundaries → grade K.degrees g + 1 ≢ grade K.degrees h
    past h q = let a = grade_past K.degrees g (omega (arith, c.sizes)) in let b = grade_in K.degrees h (omega (arith, c.sizes)) in omega arith

closed_all : (p k : ℕ) (K : ChainComplex) (z : ℕ → ℕ) → IsComplex p K → IsCycle p (system K) k z → (g : ℕ) → Same p (boundary K.boundaries z g) 0
closed_all p k K z c cy g = ⊎_elim (λ l. cy.closed g (lt-ltb g (length K.boundaries) l)) (λ l. boundary_past p K c z g l) (cases_lt g (length K.boundaries))

-- a combination of chains that is a boundary at each generator is one past them too
fills_all : (p k m : ℕ) (K : ChainComplex) (zs : ℕ → ℕ → ℕ) → IsComplex p K → ((i : ℕ) → i < m → (g : ℕ) → length K.boundaries ≤ g → Same p (zs i g) 0) → (x : ℕ → ℕ) (nul : IsNull p (system K) k (combination m x zs)) → (g : ℕ) → Same p (total m (λ i. x i * zs i g)) (boundary K.boundaries nul.filling g)
fills_all p k m K zs c off x nul g = ⊎_elim
    (λ l. nul.fills g (lt-ltb g (length K.boundaries) l))
    (λ l. same_trans (total_same p m (λ i. x i * zs i g) (λ i. 0) (λ i q. same_trans (same-scale (x i) (off i q g l)) (same_by p 0 0 _ _ (omega arith)))) (same_trans (same_by p 0 0 _ _ (omega (arith, total-zero m))) (same_sym (boundary_past p K c nul.filling g l))))
    (cases_lt g (length K.boundaries))

pub left_generators : LeftGeneratorsAreBasis
left_generators p k m K ss at two c l done lf =
    let n = length K.boundaries in
    let d = grade K.degrees in
    let D = incidence K.boundaries in
    let bd = is_boundary p K c in
    let al : AreLeft d (k + 2) ss m at = record {
      of_degree = λ i q. grade_in K.degrees (at i) (let a = lf.inside i q in omega (arith, c.sizes)) ∙ ap (λ v. v + 2) (lf.of_degree i q);
      unpaired = lf.unpaired;
      once = lf.once;
      all = λ g e u. let a = grade_inside K.degrees g (omega arith) in lf.all g (omega (arith, c.sizes)) (let b = grade_in K.degrees g a in omega arith) u;
    } in
    record {
      cycles = λ i q. record {
        chain = of_grade p k K _ c.sizes (cycle-degree p n d D ss (k + 2) m at two bd l done al i q);
        closed = λ g _. cycle-closed p n d D ss (k + 2) m at two bd l done al i q g;
      };
      independent = λ x nul. free p n d D ss (k + 2) m at two bd l done al x nul.filling (fills_all p k m K (λ i. include_of p K ss (single (at i))) c (λ i q g w. cycle-degree p n d D ss (k + 2) m at two bd l done al i q g (λ e. let a = grade_past K.degrees g (omega (arith, c.sizes)) in absurd (omega arith))) x nul);
      spanning = λ z cy. record {
        x = coeffs p n d D ss (k + 2) m at two bd l done al z;
        filling = homotopy_all p n D ss z;
        chain = of_grade p (k + 1) K _ c.sizes (λ g f. homotopy-degree p n d two D ss bd l (k + 2) z (to_grade p k K z c.sizes cy.chain) g (λ q. f (omega arith)));
        differs = λ g _. span p n d D ss (k + 2) m at two bd l done al z (to_grade p k K z c.sizes cy.chain) (closed_all p k K z c cy) g;
      };
    }
