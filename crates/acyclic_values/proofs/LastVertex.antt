-- Steps on a complex in which the boundary of an edge has augmentation 0: where they leave one vertex alone they contract to it, and
-- where they leave more, and no boundary, there is a hole.
use Rattle.std.proofs.Common.{◌≡◌, ◌≢◌, ℕ, ◌+◌, ◌-◌, ◌*◌, ◌<◌, ◌≤◌, sym, ap, ◌∙◌, arith, ⊎_elim, cond, eqb, eq-eqb, ne_eqb, List, [], ◌∷◌, length, get_or, subst, true, false}
use Rattle.std.proofs.lemmas.Bool.{cases_eq, cases_lt, le-ltb, ltb-false}
use Rattle.std.specs.Prelude.{if◌then◌else◌, ◌==◌}
use Rattle.field_mod.specs.Sums.{total}
use Rattle.field_mod.specs.Modular.{Same, minus}
use Rattle.field_mod.proofs.Sums.{total-same, total-add, total-scale, total_same, total_none}
use Rattle.field_mod.proofs.Modular.{same_by, same_refl, same_sym, same_trans, same-add, same-scale, same-mul, one_nonzero, neg_cancel}
use Rattle.chains.specs.Homology.{IsChain, IsNull}
use Rattle.chains.specs.ChainComplex.{ChainComplex, IsComplex, system, incidence, boundary}
use Rattle.chains.proofs.Numbered.{degree_above}
use Rattle.algebraic_reduction.specs.Reduction.{boundary_by, single, Step, left, include_all, IsUnpaired, IsOnLeft}
use Rattle.algebraic_reduction.specs.Laws.{IsReduction, NothingLeft, project_of, include_of, homotopy_of, left_of, left_boundary_of}
use Rattle.algebraic_reduction.proofs.LeftBasis.{off_paired}
use Rattle.acyclic_values.proofs.Sums.{none_by_terms, total_total}
use Rattle.algebraic_reduction.proofs.LinearMaps.{exact, single-self, single-other, total_picked_other, of_generators}
use Rattle.algebraic_reduction.proofs.Singles.{on_left_by, single_chain, incidence_off, boundary_single}

-- ---- the inclusion of a chain without boundary is itself

still_flat : (p : ℕ) (D : ℕ → ℕ → ℕ) (s : Step) (y : ℕ → ℕ) → ((h g : ℕ) → Same p (y h * D h g) 0) → (h g : ℕ) → Same p (y h * left p D s h g) 0
still_flat p D s y f h g =
    elim (eqb g s.b) as (λ u. Same p (y h * cond u 0 (cond (eqb h s.b) 0 (cond (eqb h s.a) 0 (D h g + minus p (s.inverse * D h s.a * D s.b g))))) 0) [
      | true ↦ exact p _ 0 (omega arith)
      | false ↦ elim (eqb h s.b) as (λ u. Same p (y h * cond u 0 (cond (eqb h s.a) 0 (D h g + minus p (s.inverse * D h s.a * D s.b g)))) 0) [
        | true ↦ exact p _ 0 (omega arith)
        | false ↦ elim (eqb h s.a) as (λ u. Same p (y h * cond u 0 (D h g + minus p (s.inverse * D h s.a * D s.b g))) 0) [
          | true ↦ exact p _ 0 (omega arith)
          | false ↦
              let a = y h * D h g in
              let b = y h * D h s.a in
              let c = (p - 1) * (s.inverse * D s.b g) in
              let e : y h * (D h g + (p - 1) * (s.inverse * D h s.a * D s.b g)) ≡ a + c * b = omega arith in
              same_trans (exact p _ _ e) (same_trans (same-add (f h g) (same-scale c (f h s.a))) (exact p _ 0 (omega arith)))
        ]
      ]
    ]

flat_all : (p n : ℕ) (D : ℕ → ℕ → ℕ) (ss : List Step) (y : ℕ → ℕ) → ((h g : ℕ) → Same p (y h * D h g) 0) → (g : ℕ) → Same p (include_all p n D ss y g) (y g)
flat_all p n D [] y f g = same_refl p (y g)
flat_all p n D (s ∷ ss) y f g =
    let z : ℕ → ℕ = include_all p n (left p D s) ss y in
    let k : (h : ℕ) → Same p (z h) (y h) = flat_all p n (left p D s) ss y (still_flat p D s y f) in
    let b : Same p (boundary_by n D z s.a) 0 = total_none p n (λ h. z h * D h s.a) (λ h _. same_trans (same-mul (k h) (same_refl p (D h s.a))) (f h s.a)) in
    elim (eqb g s.b) as (λ u. Same p (cond u (z g + minus p (s.inverse * boundary_by n D z s.a)) (z g)) (y g)) [
      | true ↦ same_trans (same-add (k g) (same-scale (p - 1) (same-scale s.inverse b))) (exact p _ _ (omega arith))
      | false ↦ k g
    ]

-- ---- a complex with its steps

module _ (p : ℕ) (K : ChainComplex) (ss : List Step) (two : 2 ≤ p) (cx : IsComplex p K) (r : IsReduction p K ss) (balanced : (h : ℕ) → h < length K.boundaries → get_or K.degrees h 0 ≡ 1 → Same p (total (length K.boundaries) (incidence K.boundaries h)) 0) where
  abbrev n : ℕ
  n = length K.boundaries

  abbrev D : ℕ → ℕ → ℕ
  D = incidence K.boundaries

  abbrev deg : ℕ → ℕ
  deg g = get_or K.degrees g 0

  abbrev B : (ℕ → ℕ) → ℕ → ℕ
  B = boundary K.boundaries

  abbrev H : (ℕ → ℕ) → ℕ → ℕ
  H = homotopy_of p K ss

  abbrev P : (ℕ → ℕ) → ℕ → ℕ
  P = project_of p K ss

  abbrev I : (ℕ → ℕ) → ℕ → ℕ
  I = include_of p K ss

  abbrev Chain : ℕ → (ℕ → ℕ) → Type 0
  Chain k c = IsChain p (system K) k c

  -- chains of degree 0 have no boundary
  no_incidence : (y : ℕ → ℕ) → Chain 0 y → (h g : ℕ) → Same p (y h * D h g) 0
  no_incidence y c h g = ⊎_elim
      (λ l. ⊎_elim
      (λ e. same_trans (same-scale (y h) (exact p _ 0 (⊎_elim (λ z. z) (λ f. absurd (let d = degree_above p K cx h g l f in let q = d.1 in omega arith)) (cases_eq (D h g) 0)))) (exact p _ 0 (omega arith)))
      (λ f. same_trans (same-mul (c.of_degree h f) (same_refl p (D h g))) (exact p _ 0 (omega arith)))
      (cases_eq (deg h) 0))
      (λ l. same_trans (same-mul (c.on h (le-ltb h n l)) (same_refl p (D h g))) (exact p _ 0 (omega arith)))
      (cases_lt h n)

  flat_boundary : (y : ℕ → ℕ) → Chain 0 y → (g : ℕ) → Same p (B y g) 0
  flat_boundary y c g = total_none p n (λ h. y h * D h g) (λ h _. no_incidence y c h g)

  pub flat : (y : ℕ → ℕ) → Chain 0 y → (g : ℕ) → Same p (I y g) (y g)
  flat y c g = flat_all p n D ss y (no_incidence y c) g

  -- the homotopy of nothing, and the inclusion of nothing
  zero_homotopy : (x : ℕ → ℕ) → ((g : ℕ) → Same p (x g) 0) → (g : ℕ) → Same p (H x g) 0
  zero_homotopy x z g = same_trans (r.homotopy_same x (λ h. 0 * 0 + 0 * 0) (λ h. same_trans (z h) (exact p 0 _ (omega arith))) g) (same_trans (r.homotopy_linear 0 0 (λ h. 0) (λ h. 0) g) (exact p _ 0 (omega arith)))

  zero_include : (x : ℕ → ℕ) → ((g : ℕ) → Same p (x g) 0) → (g : ℕ) → Same p (I x g) 0
  zero_include x z g = same_trans (r.include_same x (λ h. 0 * 0 + 0 * 0) (λ h. same_trans (z h) (exact p 0 _ (omega arith))) g) (same_trans (r.include_linear 0 0 (λ h. 0) (λ h. 0) g) (exact p _ 0 (omega arith)))

  -- a chain whose projection is nothing is the boundary of its homotopy and the homotopy of its boundary
  pub split : (x : ℕ → ℕ) → ((g : ℕ) → Same p (P x g) 0) → (g : ℕ) → Same p (B (H x) g + H (B x) g) (x g)
  split x z g = same_trans (same_trans (exact p _ (0 + (B (H x) g + H (B x) g)) (omega arith)) (same-add (same_sym (zero_include (P x) z g)) (same_refl p (B (H x) g + H (B x) g)))) (r.identity x g)

  -- the augmentation of the boundary of a chain of degree 1 is 0
  pub boundary_balanced : (c : ℕ → ℕ) → Chain 1 c → Same p (total n (B c)) 0
  boundary_balanced c ch =
      let a = total_total n n c D (λ g. 1) in
      let b = total-same n (B c) (λ g. B c g * 1) (λ g _. omega arith) in
      same_trans (exact p _ _ (b ∙ a)) (none_by_terms p n c (λ h. total n (λ g. D h g * 1)) (λ h l nz. same_trans (exact p _ _ (total-same n (λ g. D h g * 1) (D h) (λ g _. omega arith))) (balanced h l (⊎_elim (λ e. e) (λ f. absurd (nz (ch.of_degree h f))) (cases_eq (deg h) 1)))))

  -- the projection keeps the augmentation
  pub project_balanced : (x : ℕ → ℕ) → Chain 0 x → Same p (total n (P x)) (total n x)
  project_balanced x c =
      let e = total_same p n (λ g. I (P x) g + (B (H x) g + H (B x) g)) x (λ g _. r.identity x g) in
      let u = total_same p n (λ g. I (P x) g + (B (H x) g + H (B x) g)) (λ g. P x g + B (H x) g) (λ g _. same-add (flat (P x) (r.project_degree 0 x c) g) (same_trans (same-add (same_refl p (B (H x) g)) (zero_homotopy (B x) (flat_boundary x c) g)) (exact p _ _ (omega arith)))) in
      let v = total-add n (P x) (B (H x)) in
      let w = boundary_balanced (H x) (r.homotopy_degree 0 x c) in
      same_trans (same_trans (exact p _ (total n (P x) + 0) (omega arith)) (same_trans (same-add (same_refl p (total n (P x))) (same_sym w)) (exact p _ _ (sym v)))) (same_trans (same_sym u) e)

  -- the projection of a chain of a degree in which no generator is left
  pub gone : (k : ℕ) (x : ℕ → ℕ) → Chain k x → ((g : ℕ) → g < n → deg g ≡ k → IsUnpaired ss g → ⊥) → (g : ℕ) → Same p (P x g) 0
  gone k x c none g = ⊎_elim
      (λ l. ⊎_elim
      (λ e. off_paired p ss (P x) g (r.project_on_left x) (none g l e))
      (λ f. (r.project_degree k x c).of_degree g f)
      (cases_eq (deg g) k))
      (λ l. (r.project_degree k x c).on g (le-ltb g n l))
      (cases_lt g n)

  -- some vertex is left
  pub some_vertex : (m : ℕ) → m < n → deg m ≡ 0 → ((g : ℕ) → g < n → deg g ≡ 0 → IsUnpaired ss g → ⊥) → ⊥
  some_vertex m l d none =
      let c : Chain 0 (single m) = subst (λ (k : ℕ). Chain k (single m)) d (single_chain p K m l) in
      let z : Same p (total n (P (single m))) 0 = total_none p n (P (single m)) (λ g _. gone 0 (single m) c none g) in
      one_nonzero p two (same_trans (exact p 1 _ (sym (total_one m l))) (same_trans (same_sym (project_balanced (single m) c)) z))
    where
      total_one : (m : ℕ) → m < n → total n (single m) ≡ 1
      total_one m l = total-same n (single m) (λ t. single m t * 1) (λ t _. omega arith) ∙ total_picked_other n m (λ t. 1) l

  -- ---- one vertex is left

  module _ (u : ℕ) (u_in : u < n) (u_low : deg u ≡ 0) (u_left : IsUnpaired ss u) where
    single_total : (m : ℕ) → m < n → total n (single m) ≡ 1
    single_total m l = total-same n (single m) (λ t. single m t * 1) (λ t _. omega arith) ∙ total_picked_other n m (λ t. 1) l

    pub one_left : ((g : ℕ) → g < n → deg g ≡ 0 → IsUnpaired ss g → g ≡ u) → (x : ℕ → ℕ) → Chain 0 x → (g : ℕ) → Same p (P x g) (total n x * single u g)
    one_left only x c g =
        let off : (h : ℕ) → h ≢ u → Same p (P x h) 0 = λ h f. ⊎_elim
        (λ l. ⊎_elim (λ e. off_paired p ss (P x) h (r.project_on_left x) (λ w. f (only h l e w))) (λ q. (r.project_degree 0 x c).of_degree h q) (cases_eq (deg h) 0))
        (λ l. (r.project_degree 0 x c).on h (le-ltb h n l))
        (cases_lt h n) in
        let at : (h : ℕ) → Same p (P x h) (single u h * P x u) = λ h. ⊎_elim
        (λ e. exact p _ _ (ap (P x) e ∙ sym (ap (λ v. single u v * P x u) e ∙ ap (λ v. v * P x u) (single-self u) ∙ omega arith)))
        (λ f. same_trans (off h f) (exact p 0 _ (sym (ap (λ v. v * P x u) (single-other u h f) ∙ omega arith))))
        (cases_eq h u) in
        let sum : Same p (total n (P x)) (P x u) = same_trans (total_same p n (P x) (λ h. single u h * P x u) (λ h _. at h)) (exact p _ _ (total_picked_other n u (λ h. P x u) u_in)) in
        let value : Same p (P x u) (total n x) = same_trans (same_sym sum) (project_balanced x c) in
        same_trans (at g) (same_trans (same-scale (single u g) value) (exact p _ _ (omega arith)))

    abbrev aug : ℕ → ℕ
    aug m = if deg m == 0 then 1 else 0

    -- it is left alone: the homotopy contracts to it
    pub contracts : ((g : ℕ) → g < n → IsUnpaired ss g → g ≡ u) → (m s : ℕ) → m < n
        → Same p (aug m * single u s + (B (H (single m)) s + total n (λ t. D m t * H (single t) s))) (single m s)
    contracts only m s l =
        let h1 : Same p (H (B (single m)) s) (total n (λ t. D m t * H (single t) s)) =
        same_trans (r.homotopy_same (B (single m)) (D m) (λ g. exact p _ _ (boundary_single K.boundaries m g l)) s)
        (of_generators p H r.homotopy_linear r.homotopy_same n (D m) (λ g q. exact p _ 0 (incidence_off p K cx m g l q)) s) in
        let first : Same p (aug m * single u s) (I (P (single m)) s) = ⊎_elim (λ e. vertex e) (λ f. higher f) (cases_eq (deg m) 0) in
        same_trans (same-add first (same-add (same_refl p (B (H (single m)) s)) (same_sym h1))) (r.identity (single m) s)
      where
        vertex : deg m ≡ 0 → Same p (aug m * single u s) (I (P (single m)) s)
        vertex e =
            let c : Chain 0 (single m) = subst (λ (k : ℕ). Chain k (single m)) e (single_chain p K m l) in
            let a : aug m ≡ 1 = ap (λ v. cond v 1 0) (eq-eqb (deg m) 0 e) in
            same_sym (same_trans (flat (P (single m)) (r.project_degree 0 (single m) c) s) (same_trans (one_left (λ g q d w. only g q w) (single m) c s) (exact p _ _ (ap (λ v. v * single u s) (single_total m l) ∙ sym (ap (λ v. v * single u s) a)))))

        higher : deg m ≢ 0 → Same p (aug m * single u s) (I (P (single m)) s)
        higher f =
            let a : aug m ≡ 0 = ap (λ v. cond v 1 0) (ne_eqb (deg m) 0 f) in
            same_trans (exact p _ 0 (ap (λ v. v * single u s) a ∙ omega arith)) (same_sym (zero_include (P (single m)) (gone (deg m) (single m) (single_chain p K m l) (λ g q e w. f (sym e ∙ ap deg (only g q w) ∙ u_low))) s))

    -- ---- another generator is left, and no boundary

    module _ (t : ℕ) (t_in : t < n) (t_left : IsUnpaired ss t) (t_other : t ≢ u) (first : (g : ℕ) → g < n → IsUnpaired ss g → g ≢ u → deg t ≤ deg g) (nothing : NothingLeft p K ss) where
      -- t, less the vertex where t is a vertex
      abbrev pub less : ℕ → ℕ
      less g = single t g + minus p (aug t * single u g)

      abbrev pub cycle : ℕ → ℕ
      cycle = I less

      abbrev pub cocycle : ℕ → ℕ
      cocycle g = P (single g) t

      less_off : (g : ℕ) → (IsUnpaired ss g → ⊥) → Same p (less g) 0
      less_off g f = exact p _ 0 (ap (λ v. v + minus p (aug t * single u g)) (single-other t g (λ e. f (subst (λ (x : ℕ). IsUnpaired ss x) (sym e) t_left))) ∙ ap (λ v. 0 + minus p (aug t * v)) (single-other u g (λ e. f (subst (λ (x : ℕ). IsUnpaired ss x) (sym e) u_left))) ∙ omega arith)

      less_on_left : IsOnLeft p ss less
      less_on_left = on_left_by p ss less less_off

      less_chain : Chain (deg t) less
      less_chain = record {
        on = λ g o. exact p _ 0 (ap (λ v. v + minus p (aug t * single u g)) (single-other t g (λ e. absurd (omega (arith, ltb-false g n o)))) ∙ ap (λ v. 0 + minus p (aug t * v)) (single-other u g (λ e. absurd (omega (arith, ltb-false g n o)))) ∙ omega arith);
        of_degree = λ g f. exact p _ 0 (ap (λ v. v + minus p (aug t * single u g)) (single-other t g (λ e. f (ap deg e))) ∙ second g f ∙ omega arith);
      }
        where
          second : (g : ℕ) → deg g ≢ deg t → 0 + minus p (aug t * single u g) ≡ 0
          second g f = ⊎_elim
              (λ e. ap (λ v. 0 + minus p (aug t * v)) (single-other u g (λ q. f (ap deg q ∙ u_low ∙ sym e))) ∙ omega arith)
              (λ e. ap (λ v. 0 + minus p (cond v 1 0 * single u g)) (ne_eqb (deg t) 0 e) ∙ omega arith)
              (cases_eq (deg t) 0)

      no_left : (y : ℕ → ℕ) (g : ℕ) → Same p (left_boundary_of p K ss y g) 0
      no_left y g = total_none p n (λ h. y h * left_of p K ss h g) (λ h _. same_trans (same-scale (y h) (nothing h g)) (exact p _ 0 (omega arith)))

      pub cycle_chain : Chain (deg t) cycle
      cycle_chain = r.include_degree (deg t) less less_chain

      pub cycle_closed : (g : ℕ) → Same p (B cycle g) 0
      cycle_closed g = same_trans (r.include_boundary less less_on_left g) (zero_include (left_boundary_of p K ss less) (no_left less) g)

      pub cycle_balanced : deg t ≡ 0 → Same p (total n cycle) 0
      cycle_balanced e =
          let c : Chain 0 less = subst (λ (k : ℕ). Chain k less) e less_chain in
          let a : aug t ≡ 1 = ap (λ v. cond v 1 0) (eq-eqb (deg t) 0 e) in
          let b = total-same n less (λ g. single t g + (p - 1) * single u g) (λ g _. ap (λ v. single t g + (p - 1) * (v * single u g)) a ∙ omega arith) in
          let d = total-add n (single t) (λ g. (p - 1) * single u g) in
          let f = total-scale n (p - 1) (single u) in
          same_trans (total_same p n cycle less (λ g _. flat less c g)) (same_trans (exact p _ (1 + (p - 1) * 1) (b ∙ d ∙ ap (λ v. v + total n (λ g. (p - 1) * single u g)) (single_total t t_in) ∙ ap (λ v. 1 + v) (f ∙ ap (λ v. (p - 1) * v) (single_total u u_in)))) (same_by p 0 1 _ _ (omega (arith, neg_cancel p 1 (omega arith)))))

      pub cocycle_chain : (g : ℕ) → g < n → deg g ≢ deg t → Same p (cocycle g) 0
      cocycle_chain g l f = (r.project_degree (deg g) (single g) (single_chain p K g l)).of_degree t (λ e. f (sym e))

      -- the product of the cocycle with a chain is the coefficient of its projection
      pub product_is : (x : ℕ → ℕ) → ((g : ℕ) → n ≤ g → Same p (x g) 0) → Same p (total n (λ g. x g * cocycle g)) (P x t)
      product_is x off = same_sym (of_generators p P r.project_linear r.project_same n x off t)

      pub cocycle_closed : (h : ℕ) → h < n → Same p (total n (λ g. D h g * cocycle g)) 0
      cocycle_closed h l =
          same_trans (product_is (D h) (λ g q. exact p _ 0 (incidence_off p K cx h g l q)))
          (same_trans (r.project_same (D h) (B (single h)) (λ g. exact p _ _ (sym (boundary_single K.boundaries h g l))) t)
          (same_trans (same_sym (r.project_boundary (single h) t)) (no_left (P (single h)) t)))

      pub product_one : Same p (total n (λ g. cycle g * cocycle g)) 1
      product_one =
          same_trans (product_is cycle (λ g q. cycle_chain.on g (le-ltb g n q)))
          (same_trans (r.round_trip less less_on_left t)
          (exact p _ 1 (ap (λ v. v + minus p (aug t * single u t)) (single-self t) ∙ ap (λ v. 1 + minus p (aug t * v)) (single-other u t t_other) ∙ omega arith)))

      pub least : (l : ℕ) (y : ℕ → ℕ) → l < deg t → Chain l y → ((g : ℕ) → Same p (B y g) 0) → (l ≡ 0 → Same p (total n y) 0) → IsNull p (system K) l y
      least l y below c closed none = record {
        filling = H y;
        chain = r.homotopy_degree l y c;
        fills = λ g _. same_sym (same_trans (same_trans (exact p _ _ (let k : B (H y) g ≡ B (H y) g + 0 = omega arith in k)) (same-add (same_refl p (B (H y) g)) (same_sym (zero_homotopy (B y) closed g)))) (split y projected g));
      }
        where
          projected : (g : ℕ) → Same p (P y g) 0
          projected g = ⊎_elim
              (λ e. same_trans (one_left (λ h q d w. ⊎_elim (λ s. s) (λ f. absurd (let a = first h q w f in omega arith)) (cases_eq h u)) y (subst (λ (k : ℕ). Chain k y) e c) g) (same_trans (same-mul (none e) (same_refl p (single u g))) (exact p _ 0 (omega arith))))
              (λ f. gone l y c (λ h q d w. let a = first h q w (λ s. f (sym d ∙ ap deg s ∙ u_low)) in absurd (omega arith)) g)
              (cases_eq l 0)
