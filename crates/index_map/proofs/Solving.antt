-- What the inverse of the matrix of an inclusion gives, degree by degree.
use Rattle.std.proofs.Common.{◌≡◌, ℕ, ◌+◌, ◌*◌, ◌%◌, ◌<◌, ◌≤◌, sym, ap, ◌∙◌, subst, arith, ⊎_elim, List, [], ◌∷◌, ◌++◌, length, get_or}
use Rattle.std.proofs.lemmas.Bool.{cases_lt, le-ltb}
use Rattle.std.proofs.lemmas.List.{get_or_append_left, get_or_push, length_push}
use native.Mathlib.Nat.{mod-mod}
use Rattle.field_mod.specs.Modular.{Same}
use Rattle.field_mod.proofs.Sums.{total_same}
use Rattle.field_mod.proofs.Modular.{same_refl, same_trans, same-mul}
use Rattle.elem_cubes.specs.Cells.{Factor}
use Rattle.elem_cubes.specs.Laws.{cell_at}
use Rattle.elem_cubes.proofs.Modular.{exact}
use Rattle.chains.specs.Terms.{coefficient, IsNormal}
use Rattle.chains.specs.Homology.{System, combination}
use Rattle.cell_complex.specs.Numbering.{by_cell}
use Rattle.cell_complex.specs.RelativeComplex.{relative_complex}
use Rattle.cell_complex.proofs.Squares.{relative_complexes_are_complexes}
use Rattle.homology_basis.specs.Bases.{BasisOfLog, CyclesOfLog, in_degree, IsBasisByCycles, IsBasisWithContraction}
use Rattle.leray_conley.specs.Tables.{Table, HasEntries, entry}
use Rattle.leray_conley.specs.Products.{product, transpose}
use Rattle.leray_conley.specs.Inverses.{IsInverse}
use Rattle.leray_conley.specs.Kernels.{IsKernelVector, IsKilled as LeraysKilled}
use Rattle.acyclic_values.specs.CarriedMaps.{IsSameClass}
use Rattle.induced_map.specs.Pairs.{nth_by_cell}
use Rattle.induced_map.specs.Lists.{AreEach}
use Rattle.induced_map.specs.Within.{AreWithin}
use Rattle.induced_map.specs.Images.{AreProducts}
use Rattle.induced_map.specs.Matrices.{none, nth}
use Rattle.induced_map.proofs.Making.{product_is}
use Rattle.chain_selector.specs.Renumbered.{IsRenumbered}
use Rattle.index_map.specs.Inclusion.{IsInvertibleInclusion, IsKilled, IsMissed}
use Rattle.index_map.specs.Pairs.{IsIncludedPair, AreIncludedPairs, AreSized, IsSolution}
use Rattle.index_map.specs.Combinations.{IsCombination}
use Rattle.index_map.specs.Inverses.{AreProductsOf, AreInclusionProducts, IsInverseInclusion}
use Rattle.index_map.proofs.Classes.{class_same, class_trans}
use Rattle.index_map.proofs.Inverting.{IsInclusionOfBases, matrix, none_killed, invertible, killed, missed, inverse_times_induced_solves}
use Rattle.index_map.proofs.Combining.{combined_by_cell, combined_within}
use Rattle.index_map.proofs.Sides.{killed_same, missed_same, killed_sized}

-- the complex of the first pair has a generator for each of its relative cells
pub count_of_cells : (p : ℕ) (dc : List (List Factor)) (A : CyclesOfLog) (rc : List (List Factor)) (B : BasisOfLog) → AreIncludedPairs p dc A rc B → length A.log.complex.boundaries ≡ length dc
count_of_cells p dc A rc B h = h.pairs.domain.complex.count

module _ (p k : ℕ) (dc : List (List Factor)) (A : CyclesOfLog) (rc : List (List Factor)) (B : BasisOfLog) (ba : IsBasisByCycles p A) (bb : IsBasisWithContraction p B) (one : 1 ≤ p) where
  abbrev n : ℕ
  n = length (in_degree A.cycles k)

  abbrev m : ℕ
  m = length (in_degree B.cycles k)

  abbrev zs : ℕ → List Factor → ℕ
  zs = nth_by_cell dc (in_degree A.cycles k)

  abbrev ws : ℕ → List Factor → ℕ
  ws = nth_by_cell rc (in_degree B.cycles k)

  -- the products of the restricted cycles with the cocycles are the matrix of the inclusion
  pub products_are : (chains : List (List (ℕ × ℕ))) (entries : List ℕ) (t : Table) → AreEach (IsRenumbered p dc rc) (in_degree A.cycles k) n chains → AreProducts p (in_degree B.cocycles k) chains m entries
      → t.rows ≡ m → t.columns ≡ n → t.entries ≡ entries → AreInclusionProducts p dc A rc B k t
  products_are chains entries t re pr rows columns same = record {
    rows = rows;
    columns = columns;
    products = λ i j l q.
        let r : IsRenumbered p dc rc (get_or (in_degree A.cycles k) j []) (get_or chains j []) = re.each j q in
        same_trans (exact p (at i j ∙ pr.products i j l (omega (arith, re.count)))) (product_is p (length rc) (get_or (in_degree B.cocycles k) i []) (get_or chains j []) (λ g. zs j (cell_at rc g)) r.normal r.within r.at);
  }
    where
      at : (i j : ℕ) → entry t i j ≡ get_or entries (i * length chains + j) 0
      at i j = ap (λ (es : List ℕ). get_or es (i * t.columns + j) 0) same ∙ ap (λ c. get_or entries (i * c + j) 0) (columns ∙ sym re.count)

  module _ (entry_of : ℕ → ℕ → ℕ) (products : AreProductsOf p dc A rc B k entry_of) (x a y b : List (List Factor)) (pair : IsIncludedPair p x a y b dc A rc B) where
    pub of_bases : IsInclusionOfBases p x a y b dc rc A B k entry_of
    of_bases = record { included = pair.included; domain = pair.domain; range = pair.range; domain_basis = ba; range_basis = bb; products = products }

    pub killed_in : (v : ℕ → ℕ) (ts : List (ℕ × ℕ)) → LeraysKilled p m n entry_of v → IsCombination p v (in_degree A.cycles k) n ts → IsKilled p x a y b k (by_cell dc (coefficient ts))
    killed_in v ts q c = killed_same p k x a y b (combination n v zs) (by_cell dc (coefficient ts)) (combined_by_cell p n v (in_degree A.cycles k) ts dc c) (killed p k x a y b dc rc A B entry_of one of_bases v q)

    pub missed_in : (u : ℕ → ℕ) (ts : List (ℕ × ℕ)) → LeraysKilled p n m (transpose entry_of) u → IsCombination p u (in_degree B.cocycles k) m ts → IsMissed p x a y b k (by_cell rc (coefficient ts))
    missed_in u ts q c = missed_same p k x a y b (combination m u (nth_by_cell rc (in_degree B.cocycles k))) (by_cell rc (coefficient ts)) (combined_by_cell p m u (in_degree B.cocycles k) ts rc c) (missed p k x a y b dc rc A B entry_of one of_bases u q)

    pub none_killed_in : ((v : ℕ → ℕ) → LeraysKilled p m n entry_of v → ⊥) → (z : List Factor → ℕ) → IsKilled p x a y b k z → ⊥
    none_killed_in unkilled z q = none_killed p k x a y b dc rc A B entry_of one of_bases unkilled z q

  -- combinations of the cycles and of the cocycles name no number past the cells
  cycles_within : (v : List ℕ) (ts : List (ℕ × ℕ)) (x a y b : List (List Factor)) → IsIncludedPair p x a y b dc A rc B → IsNormal p ts → IsCombination p (λ i. get_or v i 0) (in_degree A.cycles k) n ts → AreWithin dc ts
  cycles_within v ts x a y b pair normal c = combined_within p n (λ i. get_or v i 0) (in_degree A.cycles k) ts dc one normal c
      (λ i g l past. ((ba.cycles k).cycles i l).chain.on g (le-ltb g (length A.log.complex.boundaries) (omega (arith, past, pair.domain.complex.count))))

  cocycles_within : (u : List ℕ) (ts : List (ℕ × ℕ)) (x a y b : List (List Factor)) → IsIncludedPair p x a y b dc A rc B → IsNormal p ts → IsCombination p (λ i. get_or u i 0) (in_degree B.cocycles k) m ts → AreWithin rc ts
  cocycles_within u ts x a y b pair normal c = combined_within p m (λ i. get_or u i 0) (in_degree B.cocycles k) ts rc one normal c
      (λ i g l past. ((bb.cocycles k).cochains i (omega (arith, l, (bb.cocycles k).count))).on g (le-ltb g (length B.log.complex.boundaries) (omega (arith, past, pair.range.complex.count))))

  -- what a fault of the matrix shows, whatever the pairs are
  pub killed_by : (t : Table) (v : List ℕ) (ts : List (ℕ × ℕ)) → AreInclusionProducts p dc A rc B k t → IsKernelVector p t.rows t.columns (entry t) v → IsNormal p ts → IsCombination p (λ i. get_or v i 0) (in_degree A.cycles k) n ts
      → (x a y b : List (List Factor)) → IsIncludedPair p x a y b dc A rc B → AreWithin dc ts × IsKilled p x a y b k (by_cell dc (coefficient ts))
  killed_by t v ts pr q normal c x a y b pair = (
    cycles_within v ts x a y b pair normal c,
    killed_in (entry t) pr.products x a y b pair (λ i. get_or v i 0) ts (killed_sized p t.rows t.columns m n (entry t) (λ i. get_or v i 0) pr.rows pr.columns q.killed) c,
  )

  pub missed_by : (t : Table) (u : List ℕ) (ts : List (ℕ × ℕ)) → AreInclusionProducts p dc A rc B k t → ((v : ℕ → ℕ) → LeraysKilled p t.rows t.columns (entry t) v → ⊥) → IsKernelVector p t.columns t.rows (transpose (entry t)) u
      → IsNormal p ts → IsCombination p (λ i. get_or u i 0) (in_degree B.cocycles k) m ts → (x a y b : List (List Factor)) → IsIncludedPair p x a y b dc A rc B
      → AreWithin rc ts × IsMissed p x a y b k (by_cell rc (coefficient ts)) × ((z : List Factor → ℕ) → IsKilled p x a y b k z → ⊥)
  missed_by t u ts pr unkilled q normal c x a y b pair = (
    cocycles_within u ts x a y b pair normal c,
    missed_in (entry t) pr.products x a y b pair (λ i. get_or u i 0) ts (killed_sized p t.columns t.rows n m (transpose (entry t)) (λ i. get_or u i 0) pr.columns pr.rows q.killed) c,
    none_killed_in (entry t) pr.products x a y b pair (λ v w. unkilled v (killed_sized p m n t.rows t.columns (entry t) v (sym pr.rows) (sym pr.columns) w)),
  )

  -- the inverse of a square matrix
  pub inverse_is : (t s : Table) → AreInclusionProducts p dc A rc B k t → t.rows ≡ t.columns → s.rows ≡ t.rows → s.columns ≡ t.rows → IsInverse p t.rows (entry t) (entry s) → IsInverseInclusion p dc A rc B k s
  inverse_is t s pr sq rows columns inv = record {
    forward = entry t;
    products = pr.products;
    square = sym pr.rows ∙ sq ∙ pr.columns;
    rows = rows ∙ sq ∙ pr.columns;
    columns = columns ∙ sq ∙ pr.columns;
    inverse = subst (λ d. IsInverse p d (entry t) (entry s)) (sq ∙ pr.columns) inv;
  }

  -- ---- an inverse

  module _ (s : Table) (i : IsInverseInclusion p dc A rc B k s) (x a y b : List (List Factor)) (pair : IsIncludedPair p x a y b dc A rc B) where
    pub invertible_by : IsInvertibleInclusion p x a y b k
    invertible_by = invertible p k x a y b dc rc A B i.forward one (of_bases i.forward i.products x a y b pair) i.square (entry s) i.inverse

    pub solution_by : (induced t : Table) → HasEntries s.rows induced.columns (λ r j. product s.columns (entry s) (entry induced) r j % p) t → induced.columns ≡ n → IsSolution p y b dc A rc B k induced t
    solution_by induced t has columns = record {
      rows = has.has_rows ∙ i.rows;
      columns = has.has_columns ∙ columns;
      solves = λ j l.
          let K : System (List Factor) = relative_complex p y b in
          let op = relative_complexes_are_complexes.operator p y b in
          let image : (r : ℕ) → r < n → IsSameClass p K k (zs r) (combination n (λ q. i.forward q r) ws) = λ r q. subst (λ d. IsSameClass p K k (zs r) (combination d (λ e. i.forward e r) ws)) i.square (matrix p k x a y b dc rc A B i.forward one (of_bases i.forward i.products x a y b pair) r q) in
          let solved = inverse_times_induced_solves p y b k n zs ws i.forward (entry s) (entry induced) one image i.inverse j in
          let u : List Factor → ℕ = combination n (λ r. entry t r j) zs in
          let v : List Factor → ℕ = combination n (λ r. product n (entry s) (entry induced) r j) zs in
          let same : IsSameClass p K k u v = class_same p k K op one u v (λ g _. total_same p n (λ r. entry t r j * zs r g) (λ r. product n (entry s) (entry induced) r j * zs r g) (λ r q. same-mul (entries r j q l) (same_refl p (zs r g)))) in
          subst (λ d. IsSameClass p K k u (combination d (λ r. entry induced r j) ws)) (sym i.square) (class_trans p k K op one u v (combination n (λ r. entry induced r j) ws) same solved);
    }
      where
        entries : (r j : ℕ) → r < n → j < n → Same p (entry t r j) (product n (entry s) (entry induced) r j)
        entries r j q l = same_trans (exact p (has.at r j (omega (arith, q, i.rows)) (omega (arith, l, columns)))) (same_trans (record { same = mod-mod (product s.columns (entry s) (entry induced) r j) p }) (exact p (ap (λ c. product c (entry s) (entry induced) r j) i.columns)))

-- where both bases are empty the inclusion is invertible
pub invertible_past : (p k : ℕ) (x a y b dc : List (List Factor)) (A : CyclesOfLog) (rc : List (List Factor)) (B : BasisOfLog) → IsBasisByCycles p A → IsBasisWithContraction p B → 1 ≤ p → in_degree A.cycles k ≡ [] → in_degree B.cycles k ≡ []
    → IsIncludedPair p x a y b dc A rc B → IsInvertibleInclusion p x a y b k
invertible_past p k x a y b dc A rc B ba bb one e f pair =
    let na : length (in_degree A.cycles k) ≡ 0 = ap length e in
    let nb : length (in_degree B.cycles k) ≡ 0 = ap length f in
    let nothing : ℕ → ℕ → ℕ = λ i j. 0 in
    invertible p k x a y b dc rc A B nothing one (of_bases p k dc A rc B ba bb one nothing (λ i j l q. absurd (omega (arith, l, nb))) x a y b pair) (nb ∙ sym na) nothing
    (record { at = λ i j l q. absurd (omega (arith, l, na)) }, record { at = λ i j l q. absurd (omega (arith, l, na)) })

-- ---- one degree more

-- the matrices of the degrees below d, which solve the inclusion, and that it is invertible there
pub record AreSolutionsBelow (p : ℕ) (dc : List (List Factor)) (A : CyclesOfLog) (rc : List (List Factor)) (B : BasisOfLog) (induced : List Table) (d : ℕ) (all : List Table) : Type 0 where
  pub count : length all ≡ d
  pub solves : (x a y b : List (List Factor)) → IsIncludedPair p x a y b dc A rc B → (k : ℕ) → k < d → IsSolution p y b dc A rc B k (nth induced k) (nth all k)
  pub invertible : (x a y b : List (List Factor)) → IsIncludedPair p x a y b dc A rc B → (k : ℕ) → k < d → IsInvertibleInclusion p x a y b k

module _ (p : ℕ) (dc : List (List Factor)) (A : CyclesOfLog) (rc : List (List Factor)) (B : BasisOfLog) (induced : List Table) where
  pub solutions_none : (all : List Table) → all ≡ [] → AreSolutionsBelow p dc A rc B induced 0 all
  solutions_none all e = record { count = ap length e; solves = λ x a y b h k l. absurd (omega arith); invertible = λ x a y b h k l. absurd (omega arith) }

  pub solutions_more : (d : ℕ) (all new : List Table) (s t m : Table) → IsBasisByCycles p A → IsBasisWithContraction p B → 1 ≤ p → AreSolutionsBelow p dc A rc B induced d all → new ≡ all ++ t ∷ [] → m ≡ nth induced d → IsInverseInclusion p dc A rc B d s
      → m.columns ≡ length (in_degree A.cycles d) → HasEntries s.rows m.columns (λ r j. product s.columns (entry s) (entry m) r j % p) t → AreSolutionsBelow p dc A rc B induced (d + 1) new
  solutions_more d all new s t m ba bb one so_far e em i columns has = record {
    count = ap length e ∙ length_push all t ∙ ap (λ v. v + 1) so_far.count;
    solves = λ x a y b h k l. ⊎_elim
        (λ lt. subst (λ (u : Table). IsSolution p y b dc A rc B k (nth induced k) u) (sym (ap (λ ts. get_or ts k none) e ∙ get_or_append_left all (t ∷ []) none k (omega (arith, so_far.count)))) (so_far.solves x a y b h k lt))
        (λ ge.
        let q : k ≡ d = omega arith in
        let at : get_or new k none ≡ t = ap (λ ts. get_or ts k none) e ∙ ap (λ j. get_or (all ++ t ∷ []) j none) q ∙ get_or_push all t none d so_far.count in
        subst (λ (u : Table). IsSolution p y b dc A rc B k (nth induced k) u) (sym at)
        (subst (λ (j : ℕ). IsSolution p y b dc A rc B j (nth induced j) t) (sym q)
        (subst (λ (u : Table). IsSolution p y b dc A rc B d u t) em (solution_by p d dc A rc B ba bb one s i x a y b h m t has columns))))
        (cases_lt k d);
    invertible = λ x a y b h k l. ⊎_elim
        (λ lt. so_far.invertible x a y b h k lt)
        (λ ge. let q : k ≡ d = omega arith in subst (λ (j : ℕ). IsInvertibleInclusion p x a y b j) (sym q) (invertible_by p d dc A rc B ba bb one s i x a y b h))
        (cases_lt k d);
  }

  -- all degrees
  pub invertible_everywhere : (d : ℕ) (all : List Table) → IsBasisByCycles p A → IsBasisWithContraction p B → 1 ≤ p → AreSized A B induced → AreSolutionsBelow p dc A rc B induced d all → length induced ≤ d
      → (x a y b : List (List Factor)) → IsIncludedPair p x a y b dc A rc B → (k : ℕ) → IsInvertibleInclusion p x a y b k
  invertible_everywhere d all ba bb one sized so_far past x a y b h k = ⊎_elim
      (λ lt. so_far.invertible x a y b h k lt)
      (λ ge. invertible_past p k x a y b dc A rc B ba bb one (sized.no_cycles k (omega arith)) (sized.no_range_cycles k (omega arith)) h)
      (cases_lt k d)
