-- The cocycles of a basis: what they give the cycles, the boundaries and the generators.
use Rattle.std.proofs.Common.{◌≡◌, ◌≢◌, ℕ, ◌+◌, ◌*◌, ◌<◌, ◌≤◌, ◌^◌, ◌==◌, if◌then◌else◌, refl, sym, ap, ◌∙◌, arith, ⊎_elim, cond, eqb, eq-eqb, ne_eqb, List, [], ◌∷◌, length, get_or}
use Rattle.std.proofs.lemmas.Bool.{cases_eq, cases_lt, le-ltb, ltb-false}
use Rattle.field_mod.specs.Sums.{total}
use Rattle.field_mod.specs.Modular.{Same}
use Rattle.field_mod.proofs.Sums.{total-zero, total-scale, total_same}
use Rattle.field_mod.proofs.Modular.{same_refl, same_sym, same_trans, same-scale, same-mul}
use Rattle.chains.specs.Terms.{coefficient, product, IsNormal, IsNormalWithin}
use Rattle.chains.specs.Homology.{IsChain}
use Rattle.chains.specs.ChainComplex.{ChainComplex, IsComplex, system, incidence, boundary}
use Rattle.chains.proofs.Boundary.{product-total}
use Rattle.algebraic_reduction.specs.Reduction.{single, Step}
use Rattle.algebraic_reduction.specs.Laws.{IsReduction, IsLeft, NothingLeft, include_of, project_of, left_of, left_boundary_of}
use Rattle.algebraic_reduction.proofs.LinearMaps.{exact, of_generators, single-other, single-self}
use Rattle.algebraic_reduction.proofs.Singles.{single_left, single_chain, incidence_off, boundary_single}

-- a normal chain without coefficients from n on is normal below n
pub within : (p low high n : ℕ) (ts : List (ℕ × ℕ)) → IsNormalWithin p low high ts → low ≤ n → ((g : ℕ) → n ≤ g → coefficient ts g ≡ 0) → IsNormalWithin p low n ts
within p low high n [] w l off = l
within p low high n (t ∷ ts) w l off = ⊎_elim
    (λ q. (w.0, w.1, w.2, within p (t.0 + 1) high n ts w.3 (omega arith) (λ g r. let e = off g r in omega arith)))
    (λ r. absurd (let e = off t.0 r in let f : cond (eqb t.0 t.0) t.1 0 ≡ t.1 = rw (eq-eqb t.0 t.0 refl) refl in let a = w.1 in omega arith))
    (cases_lt t.0 n)

module _ (p k m : ℕ) (K : ChainComplex) (ss : List Step) (at : ℕ → ℕ) (two : 2 ≤ p) (cx : IsComplex p K) (r : IsReduction p K ss) (done : NothingLeft p K ss) (lf : IsLeft K k ss m at) where
  -- what the projection of the generator s has at the i-th generator that is left
  abbrev pub seen : ℕ → ℕ → ℕ
  seen i s = project_of p K ss (single s) (at i)

  -- the value of that on a chain is what its projection has there
  pub seen_of : (i : ℕ) (x : ℕ → ℕ) → ((g : ℕ) → length K.boundaries ≤ g → Same p (x g) 0) → Same p (total (length K.boundaries) (λ s. x s * seen i s)) (project_of p K ss x (at i))
  seen_of i x off = same_sym (of_generators p (project_of p K ss) r.project_linear r.project_same (length K.boundaries) x off (at i))

  include_off : (j g : ℕ) → j < m → length K.boundaries ≤ g → Same p (include_of p K ss (single (at j)) g) 0
  include_off j g q l = (r.include_degree (get_or K.degrees (at j) 0) (single (at j)) (single_chain p K (at j) (lf.inside j q))).on g (le-ltb g (length K.boundaries) l)

  -- the inclusion of the j-th is projected to the j-th
  pub seen_included : (i j : ℕ) → j < m → Same p (total (length K.boundaries) (λ s. include_of p K ss (single (at j)) s * seen i s)) (single (at j) (at i))
  seen_included i j q = same_trans (seen_of i (include_of p K ss (single (at j))) (λ g l. include_off j g q l)) (r.round_trip (single (at j)) (single_left p ss (at j) (lf.unpaired j q)) (at i))

  nothing : (y : ℕ → ℕ) (g : ℕ) → Same p (left_boundary_of p K ss y g) 0
  nothing y g = same_trans (total_same p (length K.boundaries) (λ h. y h * left_of p K ss h g) (λ h. 0) (λ h _. same_trans (same-scale (y h) (done h g)) (exact p (y h * 0) 0 (omega arith)))) (exact p _ 0 (total-zero (length K.boundaries)))

  -- boundaries are projected to nothing
  pub seen_boundary : (i s : ℕ) → s < length K.boundaries → Same p (total (length K.boundaries) (λ g. incidence K.boundaries s g * seen i g)) 0
  seen_boundary i s q =
      same_trans (seen_of i (incidence K.boundaries s) (λ g l. exact p _ 0 (incidence_off p K cx s g q l)))
      (same_trans (r.project_same (incidence K.boundaries s) (boundary K.boundaries (single s)) (λ g. exact p _ _ (sym (boundary_single K.boundaries s g q))) (at i))
      (same_trans (same_sym (r.project_boundary (single s) (at i))) (nothing (project_of p K ss (single s)) (at i))))

  -- only generators of degree k are seen
  pub seen_other : (i s : ℕ) → i < m → s < length K.boundaries → get_or K.degrees s 0 ≢ k → Same p (seen i s) 0
  seen_other i s q l f = (r.project_degree (get_or K.degrees s 0) (single s) (single_chain p K s l)).of_degree (at i) (λ e. f (sym e ∙ lf.of_degree i q))

  -- ---- a cocycle c whose coefficients are those times a number, as a list

  pub is_cochain : (c : List (ℕ × ℕ)) (i a : ℕ) → i < m
      → ((g : ℕ) → g < length K.boundaries → Same p (coefficient c g) (a * seen i g)) → ((g : ℕ) → length K.boundaries ≤ g → coefficient c g ≡ 0)
      → IsChain p (system K) k (coefficient c)
  is_cochain c i a q at_g past = record {
    on = λ g o. exact p _ 0 (past g (ltb-false g (length K.boundaries) o));
    of_degree = λ g f. ⊎_elim
        (λ l. same_trans (at_g g l) (same_trans (same-scale a (seen_other i g q l f)) (exact p (a * 0) 0 (omega arith))))
        (λ l. exact p _ 0 (past g l))
        (cases_lt g (length K.boundaries));
  }

  -- its product with a chain
  pub product_of : (c x : List (ℕ × ℕ)) (i a : ℕ) → IsNormal p c
      → ((g : ℕ) → g < length K.boundaries → Same p (coefficient c g) (a * seen i g)) → ((g : ℕ) → length K.boundaries ≤ g → coefficient c g ≡ 0)
      → Same p (product c x) (a * total (length K.boundaries) (λ s. coefficient x s * seen i s))
  product_of c x i a normal at_g past =
      same_trans (exact p _ _ (product-total p 0 (length K.boundaries) c x (within p 0 (2 ^ 32) (length K.boundaries) c normal (omega arith) past)))
      (same_trans (total_same p (length K.boundaries) (λ h. coefficient c h * coefficient x h) (λ h. a * (coefficient x h * seen i h))
      (λ h l. same_trans (same-mul (at_g h l) (same_refl p (coefficient x h))) (exact p (a * seen i h * coefficient x h) (a * (coefficient x h * seen i h)) (omega arith))))
      (exact p _ _ (total-scale (length K.boundaries) a (λ s. coefficient x s * seen i s))))

  -- on a cycle that is a multiple of the inclusion of the j-th
  pub product_cycle : (c z : List (ℕ × ℕ)) (i j a u : ℕ) → i < m → j < m → IsNormal p c
      → ((g : ℕ) → g < length K.boundaries → Same p (coefficient c g) (a * seen i g)) → ((g : ℕ) → length K.boundaries ≤ g → coefficient c g ≡ 0)
      → ((g : ℕ) → Same p (coefficient z g) (u * include_of p K ss (single (at j)) g)) → (i ≡ j → Same p (u * a) 1)
      → Same p (product c z) (if i == j then 1 else 0)
  product_cycle c z i j a u q r' normal at_g past cycle inverse =
      same_trans (product_of c z i a normal at_g past)
      (same_trans (same-scale a (same_trans (total_same p (length K.boundaries) (λ s. coefficient z s * seen i s) (λ s. u * (include_of p K ss (single (at j)) s * seen i s))
      (λ s _. same_trans (same-mul (cycle s) (same_refl p (seen i s))) (exact p (u * include_of p K ss (single (at j)) s * seen i s) (u * (include_of p K ss (single (at j)) s * seen i s)) (omega arith))))
      (same_trans (exact p _ _ (total-scale (length K.boundaries) u (λ s. include_of p K ss (single (at j)) s * seen i s))) (same-scale u (seen_included i j r')))))
      (⊎_elim
      (λ e. rw (eq-eqb i j e) (same_trans (exact p (a * (u * single (at j) (at i))) (u * a * single (at j) (at i)) (omega arith)) (same_trans (exact p _ (u * a) (ap (λ v. u * a * single (at v) (at i)) (sym e) ∙ ap (λ v. u * a * v) (single-self (at i)) ∙ omega arith)) (inverse e))))
      (λ f. rw (ne_eqb i j f) (exact p _ 0 (ap (λ v. a * (u * v)) (single-other (at j) (at i) (λ e. f (lf.once i j q r' e))) ∙ omega arith)))
      (cases_eq i j)))

  -- on the boundary of a generator
  pub product_boundary : (c : List (ℕ × ℕ)) (i a s : ℕ) → s < length K.boundaries → IsNormal p c
      → ((g : ℕ) → g < length K.boundaries → Same p (coefficient c g) (a * seen i g)) → ((g : ℕ) → length K.boundaries ≤ g → coefficient c g ≡ 0)
      → Same p (product c (get_or K.boundaries s [])) 0
  product_boundary c i a s l normal at_g past =
      same_trans (product_of c (get_or K.boundaries s []) i a normal at_g past) (same_trans (same-scale a (seen_boundary i s l)) (exact p (a * 0) 0 (omega arith)))
