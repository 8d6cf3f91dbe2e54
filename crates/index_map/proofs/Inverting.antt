-- Inclusions by their matrices: where these are invertible, and what is killed or missed where they are not.
use Rattle.std.proofs.Common.{◌≡◌, ℕ, ◌+◌, ◌*◌, ◌%◌, ◌<◌, ◌≤◌, sym, ap, ◌∙◌, arith, ⊎_elim, List, length, Bool, true, false, cond, eqb, ltb}
use Rattle.std.proofs.lemmas.Bool.{cases_Bool, cases_eq, lt-ltb, ltb-true, and_parts}
use Rattle.std.specs.Prelude.{not}
use Rattle.field_mod.specs.Sums.{total}
use Rattle.field_mod.specs.Modular.{Same}
use Rattle.field_mod.proofs.Sums.{total-same, total-add, total_same, total_none, total-single}
use Rattle.field_mod.proofs.Modular.{same_refl, same_sym, same_trans, same-add, same-scale, same-mul}
use Rattle.elem_cubes.specs.Cells.{Factor}
use Rattle.elem_cubes.specs.Boundary.{boundary_coefficient}
use Rattle.elem_cubes.specs.Laws.{cell_at}
use Rattle.elem_cubes.proofs.Modular.{exact}
use Rattle.chains.specs.Terms.{nth_chain}
use Rattle.chains.specs.Homology.{System, IsBoundaryOperator, IsChain, IsCycle, IsNull, IsBasis, combination}
use Rattle.chains.specs.ChainComplex.{ChainComplex, incidence, boundary}
use Rattle.chains.proofs.Systems.{boundary-zero, chain-combination, cycle-combination}
use Rattle.cube_sets.specs.Closures.{is_cell_of, cells_of}
use Rattle.cell_complex.specs.RelativeComplex.{is_relative, relative_complex, restriction_to}
use Rattle.cell_complex.specs.Numbering.{IsListing, IsRelativeComplex, by_cell, by_number, number_of}
use Rattle.cell_complex.proofs.Squares.{restriction-on, restriction-off, relative_complexes_are_complexes}
use Rattle.elem_cubes.proofs.Boundaries.{boundary_at_is_boundary}
use Rattle.cell_complex.proofs.Numbering.{listed, found, number_at, number_within, at_number}
use Rattle.cell_complex.proofs.ByCell.{matching, by_cell_matches, bases_are_by_number_or_cell}
use Rattle.homology_basis.specs.Bases.{BasisOfLog, CyclesOfLog, in_degree, IsBasisByCycles, IsBasisWithContraction}
use Rattle.leray_conley.specs.Products.{product, transpose}
use Rattle.leray_conley.specs.Inverses.{IsInverse}
use Rattle.leray_conley.specs.Kernels.{IsKilled as LeraysKilled}
use Rattle.acyclic_values.specs.CarriedMaps.{IsSameClass, image}
use Rattle.acyclic_values.proofs.Sums.{total_total, total_behind}
use Rattle.acyclic_values.proofs.Cells.{cells_listing, sum_within}
use Rattle.induced_map.specs.Pairs.{nth_by_cell}
use Rattle.index_map.specs.Inclusion.{IsIncluded, IsReached, IsInvertibleInclusion, IsKilled, IsMissed, product_on}
use Rattle.index_map.specs.Laws.{IndexMatricesSolveInclusions, FaultsAreFaults}
use Rattle.induced_map.proofs.Columns.{product_boundary, product_combination, dual_to, class_by_products, pick_one}
use Rattle.index_map.proofs.Inclusions.{cycle_included, null_included}
use Rattle.index_map.proofs.Classes.{class_same, class_trans, class_sym, null_of, of_null, of_spanned, sent, sends, solved, solved_none}

-- ---- products with the cocycles of a basis

module _ (p k : ℕ) (y b cells : List (List Factor)) (B : BasisOfLog) (one : 1 ≤ p) (R : IsRelativeComplex p y b cells B.log.complex) (bb : IsBasisWithContraction p B) where
  abbrev pub ws : List (List (ℕ × ℕ))
  ws = in_degree B.cycles k

  abbrev pub cs : List (List (ℕ × ℕ))
  cs = in_degree B.cocycles k

  -- the product of a chain of cells with the i-th cocycle
  abbrev pub with_cocycle : ℕ → (List Factor → ℕ) → ℕ
  with_cocycle i c = total (length cells) (λ g. nth_chain cs i g * c (cell_at cells g))

  by_cell_at : (c : ℕ → ℕ) (g : ℕ) → g < length cells → by_cell cells c (cell_at cells g) ≡ c g
  by_cell_at c g l = ap (λ m. cond (ltb m (length cells)) (c m) 0) (number_at (is_relative y b) cells R.listing g l) ∙ ap (λ t. cond t (c g) 0) (lt-ltb g (length cells) l)

  -- for a chain of the class of a combination it is the coefficient
  pub product_class : (c : List Factor → ℕ) (x : ℕ → ℕ) → IsSameClass p (relative_complex p y b) k c (combination (length ws) x (nth_by_cell cells ws)) → (i : ℕ) → i < length ws → Same p (with_cocycle i c) (x i)
  product_class c x s i l =
      let L : ChainComplex = B.log.complex in
      let n = length cells in
      let M = matching p y b cells L R in
      let d = dual_to p k B one bb i l in
      let f : ℕ → ℕ = by_number cells s.filling in
      let v : ℕ → ℕ = nth_chain cs i in
      let e = total_same p n (λ g. v g * c (cell_at cells g)) (λ g. v g * (combination (length ws) x (nth_chain ws) g + boundary L.boundaries f g)) (λ g q.
      let on : ltb g (length L.boundaries) ≡ true = lt-ltb g (length L.boundaries) (omega (arith, R.complex.count)) in
      let comb = total-same (length ws) (λ r. x r * nth_by_cell cells ws r (cell_at cells g)) (λ r. x r * nth_chain ws r g) (λ r _. ap (λ t. x r * t) (by_cell_at (nth_chain ws r) g q)) in
      same-scale (v g) (same_trans (s.differs (cell_at cells g) (listed (is_relative y b) cells R.listing g q)) (same-add (exact p comb) (same_sym (M.boundary f s.filling (λ h o. exact p (ap (λ t. cond t (s.filling (cell_at cells h)) 0) (lt-ltb h n (omega (arith, ltb-true h (length L.boundaries) o, R.complex.count))))) g on))))) in
      let a = total_behind n v (combination (length ws) x (nth_chain ws)) (boundary L.boundaries f) in
      let c1 : total n (λ g. v g * combination (length ws) x (nth_chain ws) g) ≡ total (length L.boundaries) (λ g. v g * combination (length ws) x (nth_chain ws) g) = ap (λ q. total q (λ g. v g * combination (length ws) x (nth_chain ws) g)) (sym R.complex.count) in
      let c2 : total n (λ g. v g * boundary L.boundaries f g) ≡ total (length L.boundaries) (λ g. v g * boundary L.boundaries f g) = ap (λ q. total q (λ g. v g * boundary L.boundaries f g)) (sym R.complex.count) in
      same_trans e (same_trans (exact p a) (same_trans (same-add (same_trans (exact p c1) (product_combination p k L ws v (λ j. cond (eqb i j) 1 0) x d)) (same_trans (exact p c2) (product_boundary p k L ws v (λ j. cond (eqb i j) 1 0) f d))) (exact p (let q : total (length ws) (λ j. x j * cond (eqb i j) 1 0) + 0 ≡ total (length ws) (λ j. x j * cond (eqb i j) 1 0) = omega arith in q ∙ pick_one (length ws) i x l))))

  -- the product with a combination of the cocycles
  pub pairing : (z : List Factor → ℕ) (u : ℕ → ℕ) → Same p (product_on y z (combination (length ws) u (nth_by_cell cells cs))) (total (length ws) (λ r. u r * with_cocycle r z))
  pairing z u =
      let n = length cells in
      let c : List Factor → ℕ = combination (length ws) u (nth_by_cell cells cs) in
      let off : (q : List Factor) → is_relative y b q ≡ false → Same p (c q) 0 = λ q e. total_none p (length ws) (λ r. u r * nth_by_cell cells cs r q) (λ r _. same_trans (same-scale (u r) ((by_cell_matches p y b cells B.log.complex R (nth_chain cs r)).off q e)) (exact p (omega arith))) in
      let a = sum_within p (is_relative y b) (is_cell_of y) cells (cells_of y) R.listing (cells_listing y) (λ q e. (and_parts (is_cell_of y q) (not (is_cell_of b q)) e).0) (λ q. z q * c q) (λ q e. same_trans (same-scale (z q) (off q e)) (exact p (omega arith))) in
      let d = total-same n (λ g. z (cell_at cells g) * c (cell_at cells g)) (λ g. total (length ws) (λ r. u r * nth_chain cs r g) * z (cell_at cells g)) (λ g l. ap (λ t. z (cell_at cells g) * t) (total-same (length ws) (λ r. u r * nth_by_cell cells cs r (cell_at cells g)) (λ r. u r * nth_chain cs r g) (λ r _. ap (λ t. u r * t) (by_cell_at (nth_chain cs r) g l))) ∙ omega arith) in
      let e = total_total (length ws) n u (nth_chain cs) (λ g. z (cell_at cells g)) in
      same_trans a (exact p (d ∙ e))

-- ---- an inclusion of bases

-- what is given of two included pairs, a basis of each, and the products of the cycles of the first
-- with the cocycles of the second
pub record IsInclusionOfBases (p : ℕ) (x a y b domain_cells range_cells : List (List Factor)) (A : CyclesOfLog) (B : BasisOfLog) (k : ℕ) (entry : ℕ → ℕ → ℕ) : Type 0 where
  pub included : IsIncluded x a y b
  pub domain : IsRelativeComplex p x a domain_cells A.log.complex
  pub range : IsRelativeComplex p y b range_cells B.log.complex
  pub domain_basis : IsBasisByCycles p A
  pub range_basis : IsBasisWithContraction p B
  pub products : (i j : ℕ) → i < length (in_degree B.cycles k) → j < length (in_degree A.cycles k) → Same p (entry i j) (total (length range_cells)
      (λ g. nth_chain (in_degree B.cocycles k) i g * nth_by_cell domain_cells (in_degree A.cycles k) j (cell_at range_cells g)))

module _ (p k : ℕ) (x a y b dc rc : List (List Factor)) (A : CyclesOfLog) (B : BasisOfLog) (entry : ℕ → ℕ → ℕ) (one : 1 ≤ p) (h : IsInclusionOfBases p x a y b dc rc A B k entry) where
  abbrev K : System (List Factor)
  K = relative_complex p x a

  abbrev L : System (List Factor)
  L = relative_complex p y b

  abbrev n : ℕ
  n = length (in_degree A.cycles k)

  abbrev m : ℕ
  m = length (in_degree B.cycles k)

  abbrev zs : ℕ → List Factor → ℕ
  zs = nth_by_cell dc (in_degree A.cycles k)

  abbrev vs : ℕ → List Factor → ℕ
  vs = nth_by_cell rc (in_degree B.cycles k)

  opk : IsBoundaryOperator p K
  opk = relative_complexes_are_complexes.operator p x a

  opl : IsBoundaryOperator p L
  opl = relative_complexes_are_complexes.operator p y b

  basis_a : IsBasis p K k n zs
  basis_a = (bases_are_by_number_or_cell p x a dc A.log.complex one h.domain).basis_by_cell k n (nth_chain (in_degree A.cycles k)) (h.domain_basis.cycles k)

  basis_b : IsBasis p L k m vs
  basis_b = (bases_are_by_number_or_cell p y b rc B.log.complex one h.range).basis_by_cell k m (nth_chain (in_degree B.cycles k)) (h.range_basis.cycles k)

  pub matrix : (j : ℕ) → j < n → IsSameClass p L k (zs j) (combination m (λ i. entry i j) vs)
  matrix j l = class_by_products p k y b rc B one h.range h.range_basis (zs j) (λ i. entry i j) (cycle_included p x a y b h.included k (zs j) (basis_a.cycles j l)) (λ i q. h.products i j q l)

  -- a cycle of the first pair, in the second, by its coefficients
  record IsSent (z : List Factor → ℕ) : Type 0 where
    numbers : ℕ → ℕ
    filling : List Factor → ℕ
    spans : (g : List Factor) → K.on g ≡ true → Same p (z g) (combination n numbers zs g + K.boundary filling g)
    chain : IsChain p K (k + 1) filling
    alike : IsSameClass p L k z (combination n numbers zs)
    class : IsSameClass p L k z (combination m (sent p k L opl one n m zs vs entry matrix numbers) vs)

  sent_cycle : (z : List Factor → ℕ) → IsCycle p K k z → IsSent z
  sent_cycle z cy =
      let s = basis_a.spanning z cy in
      let y1 : List Factor → ℕ = combination n s.x zs in
      let N : List Factor → ℕ = restriction_to (is_relative x a) (K.boundary s.filling) in
      let nc : IsChain p K k N = record {
        on = λ g e. exact p (restriction-off (is_relative x a) (K.boundary s.filling) g e);
        of_degree = λ g f. ⊎_elim
            (λ e. same_trans (exact p (restriction-on (is_relative x a) (K.boundary s.filling) g e)) (same_trans (opk.lowers s.filling (λ q. 0) g e (λ q o d. s.chain.of_degree q (λ t. f (omega (arith, t, d))))) (boundary-zero p K opk g e)))
            (λ e. exact p (restriction-off (is_relative x a) (K.boundary s.filling) g e))
            (cases_Bool (is_relative x a g));
      } in
      let nn = null_included p x a y b h.included k N nc (record { filling = s.filling; chain = s.chain; fills = λ g e. exact p (restriction-on (is_relative x a) (K.boundary s.filling) g e) }) in
      let yc = chain-combination p K k n s.x zs (λ j l. (basis_a.cycles j l).chain) in
      let al : IsSameClass p L k z y1 = record {
        filling = nn.filling;
        chain = nn.chain;
        differs = λ g o. same_trans (⊎_elim
            (λ e. same_trans (s.differs g e) (same-add (same_refl p (y1 g)) (exact p (sym (restriction-on (is_relative x a) (K.boundary s.filling) g e)))))
            (λ e. same_trans (cy.chain.on g e) (same_trans (exact p (let q : 0 ≡ 0 + 0 = omega arith in q)) (same-add (same_sym (yc.on g e)) (exact p (sym (restriction-off (is_relative x a) (K.boundary s.filling) g e))))))
            (cases_Bool (is_relative x a g))) (same-add (same_refl p (y1 g)) (nn.fills g o));
      } in
      record {
        numbers = s.x;
        filling = s.filling;
        spans = s.differs;
        chain = s.chain;
        alike = al;
        class = class_trans p k L opl one z y1 (combination m (sent p k L opl one n m zs vs entry matrix s.x) vs) al (sends p k L opl one n m zs vs entry matrix s.x);
      }

  -- ---- no vector is killed

  module _ (unkilled : (v : ℕ → ℕ) → LeraysKilled p m n entry v → ⊥) where
    -- numbers that the matrix sends to 0 are 0
    all_none : (v : ℕ → ℕ) → ((r : ℕ) → r < m → Same p (sent p k L opl one n m zs vs entry matrix v r) 0) → (i : ℕ) → i < n → Same p (v i) 0
    all_none v zero i l = ⊎_elim
        (λ e. record { same = e })
        (λ e. absurd (unkilled v (record {
          place = i;
          within = l;
          nonzero = λ s. e s.same;
          kills = λ r q. same_trans (exact p (total-same n (λ s. entry r s * v s) (λ s. v s * entry r s) (λ s _. omega arith))) (zero r q);
        })))
        (cases_eq (v i % p) (0 % p))

    pub injective : (z : List Factor → ℕ) → IsCycle p K k z → IsNull p L k z → IsNull p K k z
    injective z cy null =
        let s = sent_cycle z cy in
        let t : ℕ → ℕ = sent p k L opl one n m zs vs entry matrix s.numbers in
        let c = class_trans p k L opl one (combination m t vs) z (λ g. 0) (class_sym p k L opl one z (combination m t vs) s.class) (of_null p k L opl one z null) in
        let zero = basis_b.independent t (null_of p k L opl one (combination m t vs) (λ g. 0) c (λ g _. same_refl p 0)) in
        let none = all_none s.numbers zero in
        record {
          filling = s.filling;
          chain = s.chain;
          fills = λ g o. same_trans (s.spans g o) (same_trans (same-add (total_none p n (λ i. s.numbers i * zs i g) (λ i l. same_trans (same-mul (none i l) (same_refl p (zs i g))) (exact p (omega arith)))) (same_refl p (K.boundary s.filling g))) (exact p (omega arith)));
        }

    pub none_killed : (z : List Factor → ℕ) → IsKilled p x a y b k z → ⊥
    none_killed z q = q.lives (injective z q.cycle q.dies)

  -- ---- an inverse

  module _ (square : m ≡ n) (inverse : ℕ → ℕ → ℕ) (inv : IsInverse p n entry inverse) where
    unkilled_by : (v : ℕ → ℕ) → LeraysKilled p m n entry v → ⊥
    unkilled_by v q = q.nonzero (solved_none p n entry inverse inv v (λ r l. same_trans (exact p (total-same n (λ s. v s * entry r s) (λ s. entry r s * v s) (λ s _. omega arith))) (q.kills r (omega arith))) q.place q.within)

    pub invertible : IsInvertibleInclusion p x a y b k
    invertible = record {
      injective = injective unkilled_by;
      surjective = λ w cw.
          let t = basis_b.spanning w cw in
          let v : ℕ → ℕ = λ s. total n (λ q. t.x q * inverse s q) in
          let u : ℕ → ℕ = sent p k L opl one n m zs vs entry matrix v in
          let same : IsSameClass p L k (combination m t.x vs) (combination m u vs) = class_same p k L opl one (combination m t.x vs) (combination m u vs) (λ g _. total_same p m (λ r. t.x r * vs r g) (λ r. u r * vs r g) (λ r l. same-mul (same_sym (solved p n entry inverse inv t.x r (omega arith))) (same_refl p (vs r g)))) in
          let back = class_sym p k L opl one (combination n v zs) (combination m u vs) (sends p k L opl one n m zs vs entry matrix v) in
          record {
            source = combination n v zs;
            cycle = cycle-combination p K k n v zs opk (λ i l. basis_a.cycles i l);
            same = class_trans p k L opl one w (combination m t.x vs) (combination n v zs) (of_spanned p k L opl one m vs w t) (class_trans p k L opl one (combination m t.x vs) (combination m u vs) (combination n v zs) same back);
          };
    }

  -- ---- killed and missed

  pub killed : (v : ℕ → ℕ) → LeraysKilled p m n entry v → IsKilled p x a y b k (combination n v zs)
  killed v q = record {
    cycle = cycle-combination p K k n v zs opk (λ i l. basis_a.cycles i l);
    lives = λ null. q.nonzero (basis_a.independent v null q.place q.within);
    dies = null_of p k L opl one (combination n v zs) (combination m (sent p k L opl one n m zs vs entry matrix v) vs) (sends p k L opl one n m zs vs entry matrix v) (λ g _. total_none p m (λ r. sent p k L opl one n m zs vs entry matrix v r * vs r g) (λ r l. same_trans (same-mul (same_trans (exact p (total-same n (λ s. v s * entry r s) (λ s. entry r s * v s) (λ s _. omega arith))) (q.kills r l)) (same_refl p (vs r g))) (exact p (omega arith))));
  }

  pub missed : (u : ℕ → ℕ) → LeraysKilled p n m (transpose entry) u → IsMissed p x a y b k (combination m u (nth_by_cell rc (in_degree B.cocycles k)))
  missed u q = record {
    chain = record {
      on = λ g e. total_none p m (λ r. u r * nth_by_cell rc (in_degree B.cocycles k) r g) (λ r _. same_trans (same-scale (u r) ((by_cell_matches p y b rc B.log.complex h.range (nth_chain (in_degree B.cocycles k) r)).off g e)) (exact p (omega arith)));
      of_degree = λ g f. total_none p m (λ r. u r * nth_by_cell rc (in_degree B.cocycles k) r g) (λ r l. same_trans (same-scale (u r) ((cochain r l).of_degree g f)) (exact p (omega arith)));
    };
    coclosed = λ g e. same_trans (pairing p k y b rc B one h.range h.range_basis (boundary_coefficient p g) u) (total_none p m (λ r. u r * with_cocycle p k y b rc B one h.range h.range_basis r (boundary_coefficient p g)) (λ r l. same_trans (same-scale (u r) (on_boundary g e r l)) (exact p (omega arith))));
    images = λ z cy.
        let s = sent_cycle z cy in
        let t : ℕ → ℕ = sent p k L opl one n m zs vs entry matrix s.numbers in
        let e = total_same p m (λ r. u r * with_cocycle p k y b rc B one h.range h.range_basis r z) (λ r. t r * u r) (λ r l. same_trans (same-scale (u r) (product_class p k y b rc B one h.range h.range_basis z t s.class r l)) (exact p (omega arith))) in
        let f = total_total n m s.numbers (λ j r. entry r j) u in
        same_trans (pairing p k y b rc B one h.range h.range_basis z u) (same_trans e (same_trans (exact p f) (total_none p n (λ j. s.numbers j * total m (λ r. entry r j * u r)) (λ j l. same_trans (same-scale (s.numbers j) (q.kills j l)) (exact p (omega arith))))));
    seen = vs q.place;
    cycle = basis_b.cycles q.place q.within;
    nonzero = λ zero.
        let j = q.place in
        let one_at : ℕ → ℕ = λ i. cond (eqb j i) 1 0 in
        let self : IsSameClass p L k (vs j) (combination m one_at vs) = class_same p k L opl one (vs j) (combination m one_at vs) (λ g _. exact p (sym (total-single m j 1 (λ i. vs i g) q.within ∙ omega arith))) in
        let e = total_same p m (λ r. u r * with_cocycle p k y b rc B one h.range h.range_basis r (vs j)) (λ r. u r * one_at r) (λ r l. same-scale (u r) (product_class p k y b rc B one h.range h.range_basis (vs j) one_at self r l)) in
        q.nonzero (same_trans (exact p (sym (pick_one m j u q.within))) (same_trans (same_sym e) (same_trans (same_sym (pairing p k y b rc B one h.range h.range_basis (vs j) u)) zero)));
  }
    where
      cochain : (r : ℕ) → r < m → IsChain p L k (nth_by_cell rc (in_degree B.cocycles k) r)
      cochain r l = (bases_are_by_number_or_cell p y b rc B.log.complex one h.range).chain_by_cell k (nth_chain (in_degree B.cocycles k) r) ((h.range_basis.cocycles k).cochains r (omega (arith, (h.range_basis.cocycles k).count)))

      on_boundary : (g : List Factor) → is_relative y b g ≡ true → (r : ℕ) → r < m → Same p (with_cocycle p k y b rc B one h.range h.range_basis r (boundary_coefficient p g)) 0
      on_boundary g e r l =
          let num : ℕ = number_of rc g in
          let q1 : num < length rc = number_within (is_relative y b) rc h.range.listing g e in
          let at : cell_at rc num ≡ g = at_number (is_relative y b) rc h.range.listing g e in
          let d = dual_to p k B one h.range_basis r l in
          let v : ℕ → ℕ = nth_chain (in_degree B.cocycles k) r in
          let s = total_same p (length rc) (λ i. v i * boundary_coefficient p g (cell_at rc i)) (λ i. v i * incidence B.log.complex.boundaries num i) (λ i _. same-scale (v i) (same_trans (exact p (ap (λ t. boundary_coefficient p t (cell_at rc i)) (sym at))) (same_sym (h.range.complex.incidences num i q1)))) in
          same_trans s (same_trans (exact p (ap (λ t. total t (λ i. v i * incidence B.log.complex.boundaries num i)) (sym h.range.complex.count))) (d.closed num (omega (arith, h.range.complex.count))))

-- ---- the laws

-- the inverse of the inclusion's matrix times the induced matrix goes before the inclusion to the
-- induced one
pub inverse_times_induced_solves : (p : ℕ) (y b : List (List Factor)) (k n : ℕ) (zs ws : ℕ → List Factor → ℕ) (entry inverse induced : ℕ → ℕ → ℕ) → 1 ≤ p
    → ((j : ℕ) → j < n → IsSameClass p (relative_complex p y b) k (zs j) (combination n (λ i. entry i j) ws)) → IsInverse p n entry inverse
    → (j : ℕ) → IsSameClass p (relative_complex p y b) k (combination n (λ i. product n inverse induced i j) zs) (combination n (λ i. induced i j) ws)
inverse_times_induced_solves p y b k n zs ws entry inverse induced one matrix inv j =
    let L : System (List Factor) = relative_complex p y b in
    let op = relative_complexes_are_complexes.operator p y b in
    let v : ℕ → ℕ = λ i. product n inverse induced i j in
    let u : ℕ → ℕ = sent p k L op one n n zs ws entry matrix v in
    let t : ℕ → ℕ = λ q. induced q j in
    let value : (r : ℕ) → r < n → Same p (u r) (t r) = λ r l. same_trans (exact p (total-same n (λ s. v s * entry r s) (λ s. total n (λ q. t q * inverse s q) * entry r s) (λ s _. ap (λ e. e * entry r s) (total-same n (λ q. inverse s q * induced q j) (λ q. t q * inverse s q) (λ q _. omega arith))))) (solved p n entry inverse inv t r l) in
    class_trans p k L op one (combination n v zs) (combination n u ws) (combination n t ws) (sends p k L op one n n zs ws entry matrix v)
    (class_same p k L op one (combination n u ws) (combination n t ws) (λ g _. total_same p n (λ r. u r * ws r g) (λ r. t r * ws r g) (λ r l. same-mul (value r l) (same_refl p (ws r g)))))

pub index_matrices_solve_inclusions : IndexMatricesSolveInclusions
index_matrices_solve_inclusions p map domain range y b k n m zs ws induced index one ind solves f mf j l =
    let L : System (List Factor) = relative_complex p y b in
    let op = relative_complexes_are_complexes.operator p y b in
    let u : List Factor → ℕ = combination n (λ i. index i j) zs in
    let v : List Factor → ℕ = combination m (λ i. induced i j) ws in
    let s = ind f mf j l in
    class_trans p k L op one (image (cells_of domain) f (zs j)) v u s (class_sym p k L op one u v (solves j l))

pub faults_are_faults : FaultsAreFaults
faults_are_faults = record {
  killed = λ p x a y b k z q inv. q.lives (inv.injective z q.cycle q.dies);
  missed = λ p x a y b k c q inv. refuted p x a y b k c q (inv.surjective q.seen q.cycle);
}
  where
    refuted : (p : ℕ) (x a y b : List (List Factor)) (k : ℕ) (c : List Factor → ℕ) → (q : IsMissed p x a y b k c) → IsReached p x a y b k q.seen → ⊥
    refuted p x a y b k c q r =
        let on : List Factor → Bool = is_relative y b in
        let cells : List (List Factor) = cells_of y in
        let n = length cells in
        let ls : IsListing (is_cell_of y) cells = cells_listing y in
        let F : List Factor → ℕ = restriction_to on r.same.filling in
        let at : ℕ → List Factor = cell_at cells in
        let inside : (h : List Factor) → on h ≡ true → is_cell_of y h ≡ true = λ h e. (and_parts (is_cell_of y h) (not (is_cell_of b h)) e).0 in
        let bound = λ (i : ℕ). boundary_at_is_boundary p cells F (at i) ls.once (λ h f nz. ⊎_elim (λ e. found (is_cell_of y) cells ls h (inside h e)) (λ e. absurd (nz (restriction-off on r.same.filling h e))) (cases_Bool (on h))) in
        let u : ℕ → ℕ = λ i. total n (λ h. F (at h) * boundary_coefficient p (at h) (at i)) in
        let e = total_same p n (λ i. q.seen (at i) * c (at i)) (λ i. r.source (at i) * c (at i) + u i * c (at i)) (λ i l. ⊎_elim
        (λ o. same_trans (same-mul (same_trans (r.same.differs (at i) o) (same-add (same_refl p (r.source (at i))) (same_sym (bound i)))) (same_refl p (c (at i)))) (exact p (omega arith)))
        (λ o. let z = q.chain.on (at i) o in same_trans (same-scale (q.seen (at i)) z) (same_trans (exact p (let k : q.seen (at i) * 0 ≡ r.source (at i) * 0 + u i * 0 = omega arith in k)) (same-add (same-scale (r.source (at i)) (same_sym z)) (same-scale (u i) (same_sym z)))))
        (cases_Bool (on (at i)))) in
        let a = total-add n (λ i. r.source (at i) * c (at i)) (λ i. u i * c (at i)) in
        let d = total_total n n (λ h. F (at h)) (λ h i. boundary_coefficient p (at h) (at i)) (λ i. c (at i)) in
        let z = total_none p n (λ h. F (at h) * total n (λ i. boundary_coefficient p (at h) (at i) * c (at i))) (λ h l. ⊎_elim
        (λ o. same_trans (same-scale (F (at h)) (q.coclosed (at h) o)) (exact p (omega arith)))
        (λ o. exact p (ap (λ t. t * total n (λ i. boundary_coefficient p (at h) (at i) * c (at i))) (restriction-off on r.same.filling (at h) o) ∙ zero_mul (total n (λ i. boundary_coefficient p (at h) (at i) * c (at i)))))
        (cases_Bool (on (at h)))) in
        q.nonzero (same_trans e (same_trans (exact p a) (same_trans (same-add (q.images r.source r.cycle) (same_trans (exact p d) z)) (exact p (omega arith)))))
      where
        zero_mul : (t : ℕ) → 0 * t ≡ 0
        zero_mul t = omega arith
