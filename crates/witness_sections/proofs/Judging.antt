-- The laws of a section, over the numbers of its cells and over the cells.
use Rattle.std.proofs.Common.{◌≡◌, ℕ, zero, suc, ◌+◌, ◌*◌, ◌<◌, ◌≤◌, refl, sym, ap, ◌∙◌, subst, arith, ⊎_elim, List, [], ◌∷◌, length, get_or, true, cond, eqb, eq-eqb, ne_eqb}
use Rattle.std.proofs.lemmas.Bool.{cases_lt, cases_eq}
use Rattle.std.proofs.lemmas.List.{get_or_past, get_or-map}
use native.Mathlib.Nat.{mul-zero}
use Rattle.field_mod.specs.Sums.{total}
use Rattle.field_mod.specs.Modular.{Same}
use Rattle.field_mod.proofs.Sums.{total-same, total-zero, total_same, total_none}
use Rattle.field_mod.proofs.Modular.{same_refl, same_sym, same_trans, same-add, same-mul}
use Rattle.elem_cubes.specs.Cells.{Factor, dimension_of, same_cell}
use Rattle.elem_cubes.specs.Boundary.{boundary_at, boundary_coefficient}
use Rattle.elem_cubes.specs.Laws.{cell_at}
use Rattle.elem_cubes.specs.OrderLemmas.{cell_refl, cell_cases}
use Rattle.elem_cubes.proofs.Modular.{exact}
use Rattle.chains.specs.Terms.{coefficient, nth_chain}
use Rattle.chains.specs.Homology.{combination}
use Rattle.chains.specs.ChainComplex.{ChainComplex, boundary, incidence}
use Rattle.cell_complex.specs.RelativeComplex.{is_relative, relative_complex, restriction_to}
use Rattle.cell_complex.specs.Numbering.{IsRelativeComplex, number_of}
use Rattle.cell_complex.specs.Boundaries.{unit_at}
use Rattle.cell_complex.specs.Acyclic.{sum_over}
use Rattle.cell_complex.proofs.Numbering.{found, listed, number_at, boundary_by_cell}
use Rattle.algebraic_reduction.specs.Reduction.{single}
use Rattle.homology_basis.specs.Bases.{in_degree}
use Rattle.chain_lists.specs.Lists.{IsTranspose}
use Rattle.witness_laws.specs.Inputs.{all_cells, relative_cells}
use Rattle.witness_laws.specs.Parts.{chain_of, nth}
use Rattle.witness_laws.specs.Sections.{IsClosedAt, IsCocycleAt, ContractsAt}
use Rattle.witness_laws.specs.Tables.{PairTables, section_of}
use Rattle.witness_sections.specs.declared.section.Degree.{Degree}
use Rattle.witness_sections.specs.declared.section.Section.{Section}
use Rattle.witness_sections.specs.Readings.{IsRead, AreRead, IsSectionOf, IsNoneBy, IsDualBy, ContractsBy, projection_by}
use Rattle.witness_sections.proofs.Testing.{single-flip}

module _ (p : ℕ) (x a : List (List Factor)) (K : ChainComplex) (R : IsRelativeComplex p x a (relative_cells x a) K) where
  abbrev C : List (List Factor)
  C = relative_cells x a

  abbrev D : List (List Factor)
  D = all_cells x a

  place : (q : List Factor) → is_relative x a q ≡ true → (i : ℕ) × (i < length C) × (cell_at C i ≡ q)
  place q e = found (is_relative x a) C R.listing q e

  there : (g : ℕ) → g < length C → is_relative x a (cell_at C g) ≡ true
  there g l = listed (is_relative x a) C R.listing g l

  single-past : (i g : ℕ) → i < g → single i g ≡ 0
  single-past i g l = ap (λ b. cond b 1 0) (ne_eqb g i (λ e. omega (arith, e, l)))

  -- ---- boundaries

  boundary_is : (ts us : List (ℕ × ℕ)) → IsRead p D C ts us → (g : ℕ) → Same p (boundary K.boundaries (coefficient us) g) ((relative_complex p x a).boundary (chain_of D ts) (cell_at C g))
  boundary_is ts us r g = boundary_by_cell p x a C K R (coefficient us) (chain_of D ts) r.at g

  boundary_past : (ts us : List (ℕ × ℕ)) → IsRead p D C ts us → (g : ℕ) → length C ≤ g → Same p (boundary K.boundaries (coefficient us) g) 0
  boundary_past ts us r g past = same_trans (boundary_is ts us r g) (exact p (ap (λ (q : List Factor). boundary_at p q (restriction_to (is_relative x a) (chain_of D ts))) (get_or_past C g [] past)))

  pub closed_to : (ts us : List (ℕ × ℕ)) → IsRead p D C ts us → IsNoneBy p K.boundaries us → IsClosedAt p x a (chain_of D ts)
  closed_to ts us r h q e =
      let w = place q e in
      subst (λ (s : List Factor). Same p ((relative_complex p x a).boundary (chain_of D ts) s) 0) w.2 (same_trans (same_sym (boundary_is ts us r w.0)) (h w.0))

  pub closed_from : (ts us : List (ℕ × ℕ)) → IsRead p D C ts us → IsClosedAt p x a (chain_of D ts) → IsNoneBy p K.boundaries us
  closed_from ts us r h g = ⊎_elim
      (λ l. same_trans (boundary_is ts us r g) (h (cell_at C g) (there g l)))
      (λ past. boundary_past ts us r g past)
      (cases_lt g (length C))

  -- ---- products

  module _ (T zs ds : List (List (ℕ × ℕ))) (lengths : length T ≡ length C) (t : IsTranspose p (length C) ds T) (m : AreRead p D C zs ds) (cs us : List (ℕ × ℕ)) (r : IsRead p D C cs us) where
    abbrev products : ℕ → ℕ
    products j = sum_over C (λ q. chain_of D cs q * chain_of D (nth zs j) q)

    product_is : (j : ℕ) → Same p (boundary T (coefficient us) j) (products j)
    product_is j = same_trans
        (exact p (ap (λ n. total n (λ h. coefficient us h * incidence T h j)) lengths))
        (total_same p (length C) (λ h. coefficient us h * incidence T h j) (λ h. chain_of D cs (cell_at C h) * chain_of D (nth zs j) (cell_at C h)) (λ h l. same-mul (r.at h l) (same_trans (t.value h j l) ((m.each j).at h l))))

    products_past : (j : ℕ) → length zs ≤ j → products j ≡ 0
    products_past j past =
        ap (λ (ts : List (ℕ × ℕ)). sum_over C (λ q. chain_of D cs q * chain_of D ts q)) (get_or_past zs j [] past)
        ∙ total-same (length C) (λ h. chain_of D cs (cell_at C h) * 0) (λ h. 0) (λ h l. mul-zero (chain_of D cs (cell_at C h)))
        ∙ total-zero (length C)

    pub dual_to : (i : ℕ) → IsDualBy p T us i → (j : ℕ) → j < length zs → Same p (products j) (cond (eqb i j) 1 0)
    dual_to i h j l = same_trans (same_sym (product_is j)) (same_trans (h j) (exact p (sym (single-flip i j))))

    pub dual_from : (i : ℕ) → i < length zs → ((j : ℕ) → j < length zs → Same p (products j) (cond (eqb i j) 1 0)) → IsDualBy p T us i
    dual_from i inside h j = same_trans (product_is j) (⊎_elim
        (λ l. same_trans (h j l) (exact p (single-flip i j)))
        (λ past. exact p (products_past j past ∙ sym (single-past i j (omega (arith, inside, past)))))
        (cases_lt j (length zs)))

  -- ---- coboundaries

  module _ (T : List (List (ℕ × ℕ))) (lengths : length T ≡ length C) (t : IsTranspose p (length C) K.boundaries T) (cs us : List (ℕ × ℕ)) (r : IsRead p D C cs us) where
    abbrev value_on : List Factor → ℕ
    value_on s = sum_over C (λ q. boundary_coefficient p s q * chain_of D cs q)

    over : (g : ℕ) → Same p (boundary T (coefficient us) g) (total (length C) (λ h. coefficient us h * incidence T h g))
    over g = exact p (ap (λ n. total n (λ h. coefficient us h * incidence T h g)) lengths)

    value_is : (g : ℕ) → g < length C → Same p (boundary T (coefficient us) g) (value_on (cell_at C g))
    value_is g lg = same_trans (over g)
        (total_same p (length C) (λ h. coefficient us h * incidence T h g) (λ h. boundary_coefficient p (cell_at C g) (cell_at C h) * chain_of D cs (cell_at C h)) (λ h l.
        same_trans (same-mul (r.at h l) (same_trans (t.value h g l) (R.complex.incidences g h lg))) (exact p (turned (chain_of D cs (cell_at C h)) (boundary_coefficient p (cell_at C g) (cell_at C h))))))
      where
        turned : (b c : ℕ) → b * c ≡ c * b
        turned b c = omega arith

    value_past : (g : ℕ) → length C ≤ g → Same p (boundary T (coefficient us) g) 0
    value_past g past = same_trans (over g) (total_none p (length C) (λ h. coefficient us h * incidence T h g) (λ h l.
        same_trans (same-mul (same_refl p (coefficient us h)) (same_trans (t.value h g l) (exact p (none h)))) (exact p (mul-zero (coefficient us h)))))
      where
        none : (h : ℕ) → nth_chain K.boundaries g h ≡ 0
        none h = ap (λ (ts : List (ℕ × ℕ)). coefficient ts h) (get_or_past K.boundaries g [] (let e = R.complex.count in omega (arith, e, past)))

    pub cocycle_to : IsNoneBy p T us → IsCocycleAt p x a C (chain_of D cs)
    cocycle_to h s e = let w = place s e in subst (λ (q : List Factor). Same p (value_on q) 0) w.2 (same_trans (same_sym (value_is w.0 w.1)) (h w.0))

    pub cocycle_from : IsCocycleAt p x a C (chain_of D cs) → IsNoneBy p T us
    cocycle_from h g = ⊎_elim
        (λ l. same_trans (value_is g l) (h (cell_at C g) (there g l)))
        (λ past. value_past g past)
        (cases_lt g (length C))

  -- ---- contractions

  module _ (zs cs zd cd A : List (List (ℕ × ℕ))) (mz : AreRead p D C zs zd) (mc : AreRead p D C cs cd) (t : IsTranspose p (length C) cd A) (i : ℕ) (li : i < length C) where
    projected : (g : ℕ) → g < length C → Same p (boundary zd (nth_chain A i) g) (combination (length zs) (λ j. chain_of D (nth cs j) (cell_at C i)) (λ j. chain_of D (nth zs j)) (cell_at C g))
    projected g lg = same_trans
        (exact p (ap (λ n. total n (λ h. nth_chain A i h * incidence zd h g)) mz.count))
        (total_same p (length zs) (λ h. nth_chain A i h * incidence zd h g) (λ h. chain_of D (nth cs h) (cell_at C i) * chain_of D (nth zs h) (cell_at C g)) (λ h l.
        same-mul (same_trans (t.value i h li) ((mc.each h).at i li)) ((mz.each h).at g lg)))

    projected_past : (g : ℕ) → length C ≤ g → Same p (boundary zd (nth_chain A i) g) 0
    projected_past g past = total_none p (length zd) (λ h. nth_chain A i h * incidence zd h g) (λ h l. exact p (ap (λ v. nth_chain A i h * v) ((mz.each h).within g past) ∙ mul-zero (nth_chain A i h)))

  module _ (hs hd : List (List (ℕ × ℕ))) (m : AreRead p D C hs hd) (count : length hs ≡ length C) (i : ℕ) (li : i < length C) where
    number_here : (h : ℕ) → h < length C → nth hs (number_of C (cell_at C h)) ≡ nth hs h
    number_here h l = ap (nth hs) (number_at (is_relative x a) C R.listing h l)

    around : (g : ℕ) → g < length C → Same p (boundary hd (incidence K.boundaries i) g) (sum_over C (λ t. boundary_coefficient p (cell_at C i) t * chain_of D (nth hs (number_of C t)) (cell_at C g)))
    around g lg = same_trans
        (exact p (ap (λ n. total n (λ h. incidence K.boundaries i h * incidence hd h g)) (m.count ∙ count)))
        (total_same p (length C) (λ h. incidence K.boundaries i h * incidence hd h g) (λ h. boundary_coefficient p (cell_at C i) (cell_at C h) * chain_of D (nth hs (number_of C (cell_at C h))) (cell_at C g)) (λ h l.
        same-mul (R.complex.incidences i h li) (same_trans ((m.each h).at g lg) (exact p (ap (λ (ts : List (ℕ × ℕ)). chain_of D ts (cell_at C g)) (sym (number_here h l)))))))

    around_past : (g : ℕ) → length C ≤ g → Same p (boundary hd (incidence K.boundaries i) g) 0
    around_past g past = total_none p (length hd) (λ h. incidence K.boundaries i h * incidence hd h g) (λ h l. exact p (ap (λ v. incidence K.boundaries i h * v) ((m.each h).within g past) ∙ mul-zero (incidence K.boundaries i h)))

    filled : (g : ℕ) → Same p (boundary K.boundaries (nth_chain hd i) g) ((relative_complex p x a).boundary (chain_of D (nth hs (number_of C (cell_at C i)))) (cell_at C g))
    filled g = same_trans (boundary_is (get_or hs i []) (get_or hd i []) (m.each i) g) (exact p (ap (λ (ts : List (ℕ × ℕ)). (relative_complex p x a).boundary (chain_of D ts) (cell_at C g)) (sym (number_here i li))))

    filled_past : (g : ℕ) → length C ≤ g → Same p (boundary K.boundaries (nth_chain hd i) g) 0
    filled_past g past = boundary_past (get_or hs i []) (get_or hd i []) (m.each i) g past

  unit_is : (i g : ℕ) → i < length C → g < length C → unit_at (cell_at C i) (cell_at C g) ≡ single i g
  unit_is i g li lg = ap (λ b. cond b 1 0) (⊎_elim
      (λ e. ap (λ n. same_cell (cell_at C n) (cell_at C i)) e ∙ cell_refl (cell_at C i) ∙ sym (eq-eqb g i e))
      (λ f. ⊎_elim (λ e. absurd (f (R.listing.once g i lg li e))) (λ e. e) (cell_cases (cell_at C g) (cell_at C i)) ∙ sym (ne_eqb g i f))
      (cases_eq g i))

-- the degree at a place, or none
pub by_degree : {p : ℕ} (ds : List (Degree p)) (k i g v : ℕ)
    → ((d : Degree p) → k < length ds → Same p (boundary (get_or ds k d).cycles.items (nth_chain (get_or ds k d).at_cocycles.items i) g) v)
    → (length ds ≤ k → Same p 0 v) → Same p (projection_by ds k i g) v
by_degree [] k i g v here past = past (omega arith)
by_degree (d ∷ ds) zero i g v here past = here d (omega arith)
by_degree (d ∷ ds) (suc k) i g v here past = by_degree ds k i g v (λ e l. here e (omega (arith, l))) (λ l. past (omega (arith, l)))

module _ {p : ℕ} (x a : List (List Factor)) (S : PairTables) (s : Section p) (w : IsSectionOf x a S s) (i : ℕ) (li : i < length (relative_cells x a)) where
  abbrev R : IsRelativeComplex p x a (relative_cells x a) s.complex
  R = w.complex

  abbrev cells : List (List Factor)
  cells = relative_cells x a

  abbrev k : ℕ
  k = dimension_of (cell_at cells i)

  degree_is : get_or s.complex.degrees i 0 ≡ k
  degree_is = ap (λ (ds : List ℕ). get_or ds i 0) R.complex.degrees ∙ get_or-map dimension_of cells i [] 0 li

  abbrev first : List Factor → ℕ
  first q = combination ((section_of x a S).size k) (λ j. (section_of x a S).cocycle k j (cell_at cells i)) ((section_of x a S).cycle k) q

  first_is : (g : ℕ) → g < length cells → Same p (projection_by s.degrees.items (get_or s.complex.degrees i 0) i g) (first (cell_at cells g))
  first_is g lg = same_trans (exact p (ap (λ n. projection_by s.degrees.items n i g) degree_is)) (by_degree s.degrees.items k i g (first (cell_at cells g))
      (λ d l. let e = w.degrees k d (let c = w.count in omega (arith, c, l)) in projected p x a s.complex R (in_degree S.cycles k) (in_degree S.cocycles k) (get_or s.degrees.items k d).cycles.items (get_or s.degrees.items k d).cocycles.items (get_or s.degrees.items k d).at_cocycles.items e.cycles e.cocycles e.at_cocycles i li g lg)
      (λ l. exact p (sym (ap (λ n. total n (λ j. (section_of x a S).cocycle k j (cell_at cells i) * (section_of x a S).cycle k j (cell_at cells g))) (ap length (get_or_past S.cycles k [] (let c = w.count in omega (arith, c, l))))))))

  first_past : (g : ℕ) → length cells ≤ g → Same p (projection_by s.degrees.items (get_or s.complex.degrees i 0) i g) 0
  first_past g past = same_trans (exact p (ap (λ n. projection_by s.degrees.items n i g) degree_is)) (by_degree s.degrees.items k i g 0
      (λ d l. let e = w.degrees k d (let c = w.count in omega (arith, c, l)) in projected_past p x a s.complex R (in_degree S.cycles k) (in_degree S.cocycles k) (get_or s.degrees.items k d).cycles.items (get_or s.degrees.items k d).cocycles.items (get_or s.degrees.items k d).at_cocycles.items e.cycles e.cocycles e.at_cocycles i li g past)
      (λ l. exact p refl))

  whole_is : (g : ℕ) → g < length cells
      → Same p (projection_by s.degrees.items (get_or s.complex.degrees i 0) i g + (boundary s.complex.boundaries (nth_chain s.homotopies.items i) g + boundary s.homotopies.items (incidence s.complex.boundaries i) g))
      (first (cell_at cells g) + ((relative_complex p x a).boundary ((section_of x a S).homotopy (cell_at cells i)) (cell_at cells g) + sum_over cells (λ t. boundary_coefficient p (cell_at cells i) t * (section_of x a S).homotopy t (cell_at cells g))))
  whole_is g lg = same-add (first_is g lg) (same-add (filled p x a s.complex R S.homotopies s.homotopies.items w.homotopies w.cells i li g) (around p x a s.complex R S.homotopies s.homotopies.items w.homotopies w.cells i li g lg))

  pub contracts_to : ContractsBy s i → ContractsAt p x a cells (section_of x a S) (cell_at cells i)
  contracts_to h q e =
      let f = found (is_relative x a) cells R.listing q e in
      subst (λ (r : List Factor). Same p (first r + ((relative_complex p x a).boundary ((section_of x a S).homotopy (cell_at cells i)) r + sum_over cells (λ t. boundary_coefficient p (cell_at cells i) t * (section_of x a S).homotopy t r))) (unit_at (cell_at cells i) r)) f.2
      (same_trans (same_sym (whole_is f.0 f.1)) (same_trans (h f.0) (exact p (sym (unit_is p x a s.complex R i f.0 li f.1)))))

  pub contracts_from : ContractsAt p x a cells (section_of x a S) (cell_at cells i) → ContractsBy s i
  contracts_from h g = ⊎_elim
      (λ l. same_trans (whole_is g l) (same_trans (h (cell_at cells g) (listed (is_relative x a) cells R.listing g l)) (exact p (unit_is p x a s.complex R i g li l))))
      (λ past. same_trans
      (same-add (first_past g past) (same-add (filled_past p x a s.complex R S.homotopies s.homotopies.items w.homotopies w.cells i li g past) (around_past p x a s.complex R S.homotopies s.homotopies.items w.homotopies w.cells i li g past)))
      (exact p (sym (single-past p x a s.complex R i g (omega (arith, li, past))))))
      (cases_lt g (length cells))

pub projection_here : {p : ℕ} (ds : List (Degree p)) (k i g : ℕ) (d : Degree p) → k < length ds → d ≡ get_or ds k d → projection_by ds k i g ≡ boundary d.cycles.items (nth_chain d.at_cocycles.items i) g
projection_here [] k i g d l e = absurd (omega (arith, l))
projection_here {p} (c ∷ ds) zero i g d l e = ap (λ (b : Degree p). boundary b.cycles.items (nth_chain b.at_cocycles.items i) g) (sym e)
projection_here (c ∷ ds) (suc k) i g d l e = projection_here ds k i g d (omega (arith, l)) e

pub projection_past : {p : ℕ} (ds : List (Degree p)) (k i g : ℕ) → length ds ≤ k → projection_by ds k i g ≡ 0
projection_past [] k i g l = refl
projection_past (c ∷ ds) zero i g l = absurd (omega (arith, l))
projection_past (c ∷ ds) (suc k) i g l = projection_past ds k i g (omega (arith, l))
