-- A reduction of a closed list of cells leaves one vertex exactly where the list is acyclic
use Rattle.std.proofs.Common.{◌≡◌, ◌≢◌, ℕ, zero, suc, ◌+◌, ◌-◌, ◌*◌, ◌<◌, ◌≤◌, ◌⊎◌, inl, inr, refl, sym, ap, ◌∙◌, arith, ⊎_elim, List, [], ◌∷◌, length, true, cond, subst, eqb, eq-eqb, ne_eqb, get_or, ltb}
use Rattle.std.specs.Prelude.{ℤ, slice_index}
use Rattle.std.specs.List.{Contains}
use Rattle.std.specs.Cmp as cmp
use Rattle.std.proofs.lemmas.Bool.{true≢false, cases_Bool, cases_eq, cases_lt, and_parts, and_from, lt-ltb, le-ltb, ltb-true}
use Rattle.std.proofs.lemmas.List.{get_or-map}
use Rattle.std.proofs.lemmas.List.Elements.{Contains-get_or}
use Rattle.field_mod.specs.Sums.{total}
use Rattle.field_mod.specs.Modular.{Same, NonZero, IsField}
use Rattle.field_mod.proofs.Sums.{total-same, total-zero, total-add, total-scale, total-swap, total-single, total_same, total_none}
use Rattle.field_mod.proofs.Modular.{same_by, same_refl, same_sym, same_trans, same-add, same-scale, same-mul, neg_cancel, one_nonzero}
use Rattle.elem_cubes.specs.Cells.{Factor, point, interval, dimension_of, same_cell}
use Rattle.elem_cubes.specs.Faces.{faces_of}
use Rattle.elem_cubes.specs.Boundary.{boundary_pairing, signed_sum, residue}
use Rattle.elem_cubes.specs.Order.{cell_cmp}
use Rattle.elem_cubes.specs.OrderLemmas.{cell_refl, cell_cases}
use Rattle.elem_cubes.specs.Laws.{cell_at}
use Rattle.elem_cubes.proofs.Modular.{exact}
use Rattle.elem_cubes.proofs.Listing.{faces_are_facets}
use Rattle.elem_cubes.proofs.Members.{In, from-In}
use Rattle.elem_cubes.proofs.Signs.{sum_over_faces}
use Rattle.chains.specs.Homology.{System, IsChain, IsCycle, IsNull, IsBasis, IsBoundaryOperator}
use Rattle.chains.specs.ChainComplex.{ChainComplex, IsComplex, incidence, boundary, system}
use Rattle.chains.proofs.Systems.{null-same, boundary-zero}
use Rattle.chains.proofs.Numbered.{is_boundary_operator, degree_above, chain-boundary}
use Rattle.cube_sets.specs.Sorted.{has}
use Rattle.algebraic_reduction.specs.Reduction.{Step, IsUnpaired, IsOnLeft, single}
use Rattle.algebraic_reduction.specs.Laws.{AreStepsOf, NothingLeft, IsReduction, include_of, project_of, homotopy_of, left_boundary_of, left_of}
use Rattle.algebraic_reduction.proofs.Reductions.{steps_are_reductions}
use Rattle.algebraic_reduction.proofs.LeftBasis.{left_generators}
use Rattle.cell_complex.specs.RelativeComplex.{is_relative, relative_complex, complex_on, IsClosedList}
use Rattle.cell_complex.specs.Numbering.{IsRelativeComplex, by_cell, by_number}
use Rattle.cell_complex.specs.Boundaries.{unit_at}
use Rattle.cell_complex.specs.Laws.{ChainsAreByNumberOrCell}
use Rattle.cell_complex.proofs.Deciding.{has_is, has_from, from_has, cells_of_sets_are_closed}
use Rattle.cell_complex.proofs.Facets.{facets_coefficient}
use Rattle.cell_complex.proofs.Numbering.{found, number_at, numbered_cells_are_complex}
use Rattle.cell_complex.proofs.ByCell.{bases_are_by_number_or_cell}
use Rattle.cell_complex.specs.AcyclicLists.{complex_of_cells, IsAcyclicList}
use Rattle.excision.specs.Laws.{IsOneVertex, ReductionsShowAcyclicity}
use Rattle.cell_complex.proofs.Alike.{over-total, lists_and_sets}
use Rattle.cell_complex.proofs.Drawing.{lowest, lowest_face}
use Rattle.algebraic_reduction.proofs.LeftBasis.{decide_unpaired}

-- ---- sums over an edge

pairing_vertex : (p : ℕ) (r : List Factor) (f : List Factor → ℕ) → dimension_of r ≡ 0 → boundary_pairing p r f ≡ 0
pairing_vertex p [] f e = refl
pairing_vertex p (point l ∷ rs) f e = pairing_vertex p rs (λ ts. f (point l ∷ ts)) e
pairing_vertex p (interval l ∷ rs) f e = absurd (omega arith)

pairing_edge : (p : ℕ) (r : List Factor) → 1 ≤ p → dimension_of r ≡ 1 → Same p (boundary_pairing p r (λ s. 1)) 0
pairing_edge p [] h e = absurd (omega arith)
pairing_edge p (point l ∷ rs) h e = pairing_edge p rs h e
pairing_edge p (interval l ∷ rs) h e = let k = ap (λ v. (p - 1) * v) (pairing_vertex p rs (λ ts. 1) (omega arith)) in same_by p 0 1 _ _ (omega (arith, neg_cancel p 1 h))

signed-total : (p n : ℕ) (f : ℕ → List Factor → ℕ) (gs : List (List Factor × ℤ)) → total n (λ i. signed_sum p (f i) gs) ≡ signed_sum p (λ s. total n (λ i. f i s)) gs
signed-total p n f [] = total-zero n
signed-total p n f (g ∷ gs) = total-add n (λ i. residue p g.1 * f i g.0) (λ i. signed_sum p (f i) gs) ∙ (let a = total-scale n (residue p g.1) (λ i. f i g.0) in let b = signed-total p n f gs in omega arith)

signed-ones : (p : ℕ) (f : List Factor → ℕ) (gs : List (List Factor × ℤ)) → ((g : List Factor × ℤ) → In gs g → f g.0 ≡ 1) → signed_sum p f gs ≡ signed_sum p (λ s. 1) gs
signed-ones p f [] h = refl
signed-ones p f (g ∷ gs) h = ap (λ v. residue p g.1 * v + signed_sum p f gs) (h g (inl refl)) ∙ ap (λ v. residue p g.1 * 1 + v) (signed-ones p f gs (λ k i. h k (inr i)))

total-one : (n v : ℕ) → v < n → total n (single v) ≡ 1
total-one n v l = total-same n (single v) (λ h. cond (eqb v h) 1 0 * 1) (λ h k. ap (λ b. cond b 1 0) (turn h) ∙ omega arith) ∙ total-single n v 1 (λ h. 1) l
  where
    turn : (h : ℕ) → eqb h v ≡ eqb v h
    turn h = ⊎_elim (λ e. eq-eqb h v e ∙ sym (eq-eqb v h (sym e))) (λ d. ne_eqb h v d ∙ sym (ne_eqb v h (λ e. d (sym e)))) (cases_eq h v)

-- ---- acyclic by the numbers

module _ (p : ℕ) (cells : List (List Factor)) (K : ChainComplex) (field : IsField p) (closed : IsClosedList cells) (R : IsRelativeComplex p cells [] cells K) where
  abbrev n : ℕ
  n = length cells

  abbrev at : ℕ → List Factor
  at = cell_at cells

  positive : 1 ≤ p
  positive = omega (arith, field.above_one)

  complex : IsComplex p K
  complex = numbered_cells_are_complex p cells [] cells K positive R

  same_test : (q : List Factor) → is_relative cells [] q ≡ has cell_cmp cells q
  same_test q = cmp.both_ways (is_relative cells [] q) (has cell_cmp cells q)
      (λ e. has_is cells q ∙ has_from cells q ((cells_of_sets_are_closed.themselves cells closed q).0 (and_parts (Rattle.cube_sets.specs.Closures.is_cell_of cells q) true e).0))
      (λ e. and_from (Rattle.cube_sets.specs.Closures.is_cell_of cells q) true ((cells_of_sets_are_closed.themselves cells closed q).1 (from_has cells q (sym (has_is cells q) ∙ e))) refl)

  same_complex : relative_complex p cells [] ≡ complex_of_cells p cells
  same_complex = λ i. complex_on p (λ q. same_test q i)

  chains : ChainsAreByNumberOrCell p cells [] cells K
  chains = bases_are_by_number_or_cell p cells [] cells K positive R

  inside : (g : ℕ) → g < n → ltb g (length K.boundaries) ≡ true
  inside g l = lt-ltb g (length K.boundaries) (omega (arith, R.complex.count))

  within : (g : ℕ) → ltb g (length K.boundaries) ≡ true → g < n
  within g e = omega (arith, ltb-true g (length K.boundaries) e, R.complex.count)

  degree_at : (i : ℕ) → i < n → slice_index K.degrees i ≡ dimension_of (at i)
  degree_at i l = ap (λ ds. get_or ds i 0) R.complex.degrees ∙ get_or-map dimension_of cells i [] 0 l

  by_cell-at : (u : ℕ → ℕ) (i : ℕ) → i < n → by_cell cells u (at i) ≡ u i
  by_cell-at u i l = ap (λ m. cond (ltb m n) (u m) 0) (number_at (is_relative cells []) cells R.listing i l) ∙ ap (λ b. cond b (u i) 0) (lt-ltb i n l)

  by_number-at : (c : List Factor → ℕ) (i : ℕ) → i < n → by_number cells c i ≡ c (at i)
  by_number-at c i l = ap (λ b. cond b (c (at i)) 0) (lt-ltb i n l)

  -- no empty list, 0-chains of sum 0 and cycles of higher degree null: the same by numbers
  pub record IsPointLike : Type 0 where
    pub some : 0 < length cells
    pub points : (u : ℕ → ℕ) → IsChain p (system K) 0 u → Same p (total (length cells) u) 0 → IsNull p (system K) 0 u
    pub cycles : (k : ℕ) (u : ℕ → ℕ) → 1 ≤ k → IsCycle p (system K) k u → IsNull p (system K) k u

  to_numbers : (k : ℕ) (u : ℕ → ℕ) → IsNull p (complex_of_cells p cells) k (by_cell cells u) → IsNull p (system K) k u
  to_numbers k u h = null-same p (system K) k (by_number cells (by_cell cells u)) u (λ g e. let l = within g e in exact p (sym (by_number-at (by_cell cells u) g l ∙ by_cell-at u g l)))
      (chains.null_by_number k (by_cell cells u) (subst (λ (C : System (List Factor)). IsNull p C k (by_cell cells u)) (sym same_complex) h))

  to_cells : (k : ℕ) (c : List Factor → ℕ) → IsNull p (system K) k (by_number cells c) → IsNull p (complex_of_cells p cells) k c
  to_cells k c h = subst (λ (C : System (List Factor)). IsNull p C k c) same_complex
      (null-same p (relative_complex p cells []) k (by_cell cells (by_number cells c)) c (λ q e.
      let w = found (is_relative cells []) cells R.listing q e in
      exact p (sym (ap (by_cell cells (by_number cells c)) (sym w.2) ∙ by_cell-at (by_number cells c) w.0 w.1 ∙ by_number-at c w.0 w.1 ∙ ap c w.2)))
      (chains.null_by_cell k (by_number cells c) h))

  from_acyclic : IsAcyclicList p cells → IsPointLike
  from_acyclic a = record {
    some = ⊎_elim (λ l. l) (λ l. absurd (none cells a.some l)) (cases_lt 0 n);
    points = λ u chain zero_sum. to_numbers 0 u (a.points (by_cell cells u)
        (subst (λ (C : System (List Factor)). IsChain p C 0 (by_cell cells u)) same_complex (chains.chain_by_cell 0 u chain))
        (same_trans (exact p (over-total cells (by_cell cells u) ∙ total-same n (λ i. by_cell cells u (at i)) u (by_cell-at u))) zero_sum));
    cycles = λ k u high cycle. to_numbers k u (a.cycles k (by_cell cells u) high (subst (λ (C : System (List Factor)). IsCycle p C k (by_cell cells u)) same_complex (chains.cycle_by_cell k u cycle)));
  }
    where
      none : (xs : List (List Factor)) → xs ≢ [] → length xs ≤ 0 → ⊥
      none [] m l = m refl
      none (x ∷ xs) m l = absurd (omega arith)

  to_acyclic : IsPointLike → IsAcyclicList p cells
  to_acyclic a = record {
    some = λ e. let l = ap length e in let s = a.some in absurd (omega arith);
    points = λ c chain zero_sum. to_cells 0 c (a.points (by_number cells c)
        (chains.chain_by_number 0 c (subst (λ (C : System (List Factor)). IsChain p C 0 c) (sym same_complex) chain))
        (same_trans (exact p (total-same n (by_number cells c) (λ i. c (at i)) (by_number-at c) ∙ sym (over-total cells c))) zero_sum));
    cycles = λ k z high cycle. to_cells k z (a.cycles k (by_number cells z) high (chains.cycle_by_number k z (subst (λ (C : System (List Factor)). IsCycle p C k z) (sym same_complex) cycle)));
  }

  -- ---- the sum of a boundary is 0

  listed_once : (s : List Factor) → Contains cells s → total n (λ g. unit_at (at g) s) ≡ 1
  listed_once s w =
      let f = found (is_relative cells []) cells R.listing s ((R.listing.members s).1 w) in
      total-same n (λ g. unit_at (at g) s) (λ g. cond (eqb f.0 g) 1 0 * 1) (λ g l. ⊎_elim
      (λ e. ap (λ b. cond b 1 0) (ap (λ (r : List Factor). same_cell r (at g)) (sym f.2 ∙ ap at e) ∙ cell_refl (at g)) ∙ sym (ap (λ b. cond b 1 0 * 1) (eq-eqb f.0 g e)))
      (λ d. ap (λ b. cond b 1 0) (⊎_elim (λ e. absurd (d (R.listing.once f.0 g f.1 l (f.2 ∙ e)))) (λ e. e) (cell_cases s (at g))) ∙ sym (ap (λ b. cond b 1 0 * 1) (ne_eqb f.0 g d)))
      (cases_eq f.0 g))
      ∙ total-single n f.0 1 (λ g. 1) f.1

  edge_sum : (h : ℕ) → h < n → dimension_of (at h) ≡ 1 → Same p (total n (λ g. incidence K.boundaries h g)) 0
  edge_sum h l d =
      let q = at h in
      let gs = faces_of q in
      same_trans (total_same p n (λ g. incidence K.boundaries h g) (λ g. signed_sum p (unit_at (at g)) gs) (λ g m. same_trans (R.complex.incidences h g l) (same_sym (facets_coefficient p q (at g) positive))))
      (same_trans (exact p (signed-total p n (λ g. unit_at (at g)) gs ∙ signed-ones p (λ s. total n (λ g. unit_at (at g) s)) gs (λ g i. listed_once g.0 (closed q g.0 (faces_are_facets.facets q g.0 g.1 (from-In gs g i)).0 (Contains-get_or cells h [] l)))))
      (same_trans (sum_over_faces p q (λ s. 1) positive) (pairing_edge p q positive d)))

  boundary_sum : (u : ℕ → ℕ) → IsChain p (system K) 1 u → Same p (total n (boundary K.boundaries u)) 0
  boundary_sum u chain =
      let m = length K.boundaries in
      let D = incidence K.boundaries in
      same_trans (exact p (total-swap n m (λ g h. u h * D h g) ∙ total-same m (λ h. total n (λ g. u h * D h g)) (λ h. u h * total n (D h)) (λ h l. total-scale n (u h) (D h))))
      (total_none p m (λ h. u h * total n (D h)) (λ h l. ⊎_elim
      (λ d. let i : h < n = omega (arith, R.complex.count) in same_trans (same-scale (u h) (edge_sum h i (sym (degree_at h i) ∙ d))) (exact p (omega arith)))
      (λ d. same_trans {b = 0 * total n (D h)} (same-mul (chain.of_degree h d) (same_refl p (total n (D h)))) (exact p (omega arith)))
      (cases_eq (slice_index K.degrees h) 1)))

  -- ---- what a reduction leaves

  module _ (ss : List Step) (steps : AreStepsOf p K ss) (done : NothingLeft p K ss) where
    red : IsReduction p K ss
    red = steps_are_reductions p K ss field.above_one complex steps

    single_chain : (v : ℕ) → v < n → IsChain p (system K) (slice_index K.degrees v) (single v)
    single_chain v l = record {
      on = λ g e. exact p (ap (λ b. cond b 1 0) (ne_eqb g v (λ q. true≢false (sym (inside v l) ∙ sym (ap (λ k. ltb k (length K.boundaries)) q) ∙ e))));
      of_degree = λ g d. exact p (ap (λ b. cond b 1 0) (ne_eqb g v (λ q. d (ap (slice_index K.degrees) q))));
    }

    single-itself : (v : ℕ) → single v v ≡ 1
    single-itself v = ap (λ b. cond b 1 0) (eq-eqb v v refl)

    single-other : (v g : ℕ) → g ≢ v → single v g ≡ 0
    single-other v g d = ap (λ b. cond b 1 0) (ne_eqb g v d)

    single_left : (ts : List Step) (v : ℕ) → IsUnpaired ts v → IsOnLeft p ts (single v)
    single_left [] v u = tt
    single_left (s ∷ ts) v u = (record { at_a = exact p (single-other v s.a (λ e. u.0 (sym e))); at_b = exact p (single-other v s.b (λ e. u.1 (sym e))) }, single_left ts v u.2)

    both_left : (ts : List Step) (a b : ℕ) (x y : ℕ → ℕ) → IsOnLeft p ts x → IsOnLeft p ts y → IsOnLeft p ts (λ g. a * x g + b * y g)
    both_left [] a b x y hx hy = tt
    both_left (s ∷ ts) a b x y hx hy = (
      record {
        at_a = same_trans (same-add (same-scale a hx.0.at_a) (same-scale b hy.0.at_a)) (exact p (omega arith));
        at_b = same_trans (same-add (same-scale a hx.0.at_b) (same-scale b hy.0.at_b)) (exact p (omega arith));
      },
      both_left ts a b x y hx.1 hy.1,
    )

    none_left : (y : ℕ → ℕ) (g : ℕ) → Same p (left_boundary_of p K ss y g) 0
    none_left y g = total_none p (length K.boundaries) (λ h. y h * left_of p K ss h g) (λ h l. same_trans (same-scale (y h) (done h g)) (exact p (omega arith)))

    include_zero : (x : ℕ → ℕ) → ((g : ℕ) → Same p (x g) 0) → (g : ℕ) → Same p (include_of p K ss x g) 0
    include_zero x z g = same_trans (red.include_same x (λ h. 0 * x h + 0 * x h) (λ h. same_trans (z h) (exact p (omega arith))) g) (same_trans (red.include_linear 0 0 x x g) (exact p (omega arith)))

    -- the inclusion of what is left is a cycle, and null only where it is 0
    include_cycle : (k : ℕ) (y : ℕ → ℕ) → IsChain p (system K) k y → IsOnLeft p ss y → IsCycle p (system K) k (include_of p K ss y)
    include_cycle k y chain left = record {
      chain = red.include_degree k y chain;
      closed = λ g e. same_trans (red.include_boundary y left g) (include_zero (left_boundary_of p K ss y) (none_left y) g);
    }

    zero_where_null : (k : ℕ) (y : ℕ → ℕ) → IsChain p (system K) k y → IsOnLeft p ss y → IsNull p (system K) k (include_of p K ss y) → (g : ℕ) → Same p (y g) 0
    zero_where_null k y chain left null g =
        let all : (h : ℕ) → Same p (include_of p K ss y h) (boundary K.boundaries null.filling h) = λ h. ⊎_elim
        (λ e. null.fills h e)
        (λ e. same_trans ((red.include_degree k y chain).on h e) (same_sym ((chain-boundary p k K null.filling complex null.chain).on h e)))
        (cases_Bool (ltb h (length K.boundaries))) in
        same_trans (same_sym (red.round_trip y left g)) (same_trans (red.project_same (include_of p K ss y) (boundary K.boundaries null.filling) all g) (same_trans (same_sym (red.project_boundary null.filling g)) (none_left (project_of p K ss null.filling) g)))

    -- ---- one vertex gives an acyclic list

    module _ (w : IsOneVertex K ss) where
      v_in : w.vertex < n
      v_in = omega (arith, w.inside, R.complex.count)

      basis_zero : IsBasis p (system K) 0 1 (λ i. include_of p K ss (single w.vertex))
      basis_zero = left_generators p 0 1 K ss (λ i. w.vertex) field.above_one complex steps done (record {
        inside = λ i l. w.inside;
        of_degree = λ i l. w.degree;
        unpaired = λ i l. w.unpaired;
        once = λ i j l m e. omega arith;
        all = λ g l d u. (0, omega arith, sym (w.only g l u));
      })

      basis_high : (k : ℕ) → 1 ≤ k → IsBasis p (system K) k 0 (λ i. include_of p K ss (single w.vertex))
      basis_high k high = left_generators p k 0 K ss (λ i. w.vertex) field.above_one complex steps done (record {
        inside = λ i l. absurd (omega arith);
        of_degree = λ i l. absurd (omega arith);
        unpaired = λ i l. absurd (omega arith);
        once = λ i j l m e. absurd (omega arith);
        all = λ g l d u. absurd (let e = ap (slice_index K.degrees) (w.only g l u) in let z = w.degree in omega arith);
      })

      closed_points : (u : ℕ → ℕ) → IsChain p (system K) 0 u → IsCycle p (system K) 0 u
      closed_points u chain =
          let op : IsBoundaryOperator p (system K) = is_boundary_operator p K complex in
          record { chain = chain; closed = λ g e. same_trans (op.lowers u (λ h. 0) g e (λ h i d. chain.of_degree h (λ z. absurd (omega arith)))) (boundary-zero p (system K) op g e) }

      abbrev weight : ℕ
      weight = total n (include_of p K ss (single w.vertex))

      -- the sum of a 0-chain is that of its class
      class_sum : (u : ℕ → ℕ) → IsChain p (system K) 0 u → (x : ℕ) × Same p (total n u) (x * weight) × (Same p x 0 → IsNull p (system K) 0 u)
      class_sum u chain =
          let s = basis_zero.spanning u (closed_points u chain) in
          let z = include_of p K ss (single w.vertex) in (
            s.x 0,
            same_trans (total_same p n u (λ g. s.x 0 * z g + boundary K.boundaries s.filling g) (λ g l. same_trans (s.differs g (inside g l)) (exact p (omega arith))))
                (same_trans (exact p (total-add n (λ g. s.x 0 * z g) (boundary K.boundaries s.filling))) (same_trans (same-add (exact p (total-scale n (s.x 0) z)) (boundary_sum s.filling s.chain)) (exact p (omega arith)))),
            λ zero_x. record { filling = s.filling; chain = s.chain; fills = λ g e. same_trans (s.differs g e) (same_trans (same-add (same-add (same-mul zero_x (same_refl p (z g))) (same_refl p 0)) (same_refl p (boundary K.boundaries s.filling g))) (exact p (omega arith))) },
          )

      point_like : IsPointLike
      point_like = record {
        some = omega (arith, v_in);
        points = λ u chain zero_sum.
            let c = class_sum u chain in
            let e = class_sum (single w.vertex) (subst (λ (k : ℕ). IsChain p (system K) k (single w.vertex)) w.degree (single_chain w.vertex v_in)) in
            let one : Same p 1 (e.0 * weight) = same_trans (exact p (sym (total-one n w.vertex v_in))) e.1 in
            let none : Same p (c.0 * weight) 0 = same_trans (same_sym c.1) zero_sum in
            c.2 (same_trans {b = c.0 * (e.0 * weight)} (same_trans {b = c.0 * 1} (exact p (omega arith)) (same-scale c.0 one)) (same_trans {b = e.0 * (c.0 * weight)} (exact p (omega arith)) (same_trans (same-scale e.0 none) (exact p (omega arith)))));
        cycles = λ k z high cycle.
            let s = (basis_high k high).spanning z cycle in
            record { filling = s.filling; chain = s.chain; fills = λ g e. same_trans (s.differs g e) (exact p (omega arith)) };
      }

    -- ---- an acyclic list gives one vertex

    module _ (a : IsPointLike) where
      abbrev sum_of : ℕ → ℕ
      sum_of g = total n (include_of p K ss (single g))

      left_degree : (g : ℕ) → g < n → IsUnpaired ss g → slice_index K.degrees g ≡ 0
      left_degree g l u = ⊎_elim
          (λ e. e)
          (λ d. absurd (one_nonzero p field.above_one (same_trans (exact p (sym (single-itself g))) (zero_where_null (slice_index K.degrees g) (single g) (single_chain g l) (single_left ss g u) (a.cycles (slice_index K.degrees g) (include_of p K ss (single g)) (omega arith) (include_cycle (slice_index K.degrees g) (single g) (single_chain g l) (single_left ss g u))) g))))
          (cases_eq (slice_index K.degrees g) 0)

      chain_zero : (g : ℕ) → g < n → IsUnpaired ss g → IsChain p (system K) 0 (single g)
      chain_zero g l u = subst (λ (k : ℕ). IsChain p (system K) k (single g)) (left_degree g l u) (single_chain g l)

      -- a generator that is left has a sum other than 0
      sum_nonzero : (g : ℕ) → g < n → IsUnpaired ss g → NonZero p (sum_of g)
      sum_nonzero g l u z = one_nonzero p field.above_one (same_trans (exact p (sym (single-itself g))) (zero_where_null 0 (single g) (chain_zero g l u) (single_left ss g u) (a.points (include_of p K ss (single g)) (red.include_degree 0 (single g) (chain_zero g l u)) z) g))

      alone : (g h : ℕ) → g < n → h < n → IsUnpaired ss g → IsUnpaired ss h → g ≡ h
      alone g h lg lh ug uh = ⊎_elim
          (λ e. e)
          (λ d.
          let x = sum_of g in
          let y = sum_of h in
          let u : ℕ → ℕ = λ i. y * single g i + ((p - 1) * x) * single h i in
          let left : IsOnLeft p ss u = both_left ss y ((p - 1) * x) (single g) (single h) (single_left ss g ug) (single_left ss h uh) in
          let cg = chain_zero g lg ug in
          let ch = chain_zero h lh uh in
          let chain : IsChain p (system K) 0 u = record {
            on = λ i e. same_trans (same-add (same-scale y (cg.on i e)) (same-scale ((p - 1) * x) (ch.on i e))) (exact p (omega arith));
            of_degree = λ i e. same_trans (same-add (same-scale y (cg.of_degree i e)) (same-scale ((p - 1) * x) (ch.of_degree i e))) (exact p (omega arith));
          } in
          let sum : Same p (total n (include_of p K ss u)) 0 = same_trans (total_same p n (include_of p K ss u) (λ i. y * include_of p K ss (single g) i + ((p - 1) * x) * include_of p K ss (single h) i) (λ i l. red.include_linear y ((p - 1) * x) (single g) (single h) i))
          (same_trans (exact p (total-add n (λ i. y * include_of p K ss (single g) i) (λ i. ((p - 1) * x) * include_of p K ss (single h) i)))
          (same_by p 0 (x * y) _ _ (let e1 = total-scale n y (include_of p K ss (single g)) in let e2 = total-scale n ((p - 1) * x) (include_of p K ss (single h)) in let e3 = neg_cancel p (x * y) positive in omega arith))) in
          let null = a.points (include_of p K ss u) (red.include_degree 0 u chain) sum in
          let zero_at = zero_where_null 0 u chain left null g in
          let value : u g ≡ y = ap (λ v. y * v + ((p - 1) * x) * single h g) (single-itself g) ∙ ap (λ v. y * 1 + ((p - 1) * x) * v) (single-other h g d) ∙ omega arith in
          absurd (sum_nonzero h lh uh (same_trans (exact p (sym value)) zero_at)))
          (cases_eq g h)

      -- not all generators are taken: a vertex is not null
      some_left : (g : ℕ) × (g < n) × IsUnpaired ss g
      some_left = ⊎_elim
          (λ w. w)
          (λ none.
          let c = lowest (at 0) in
          let w : Contains cells c = closed (at 0) c (lowest_face (at 0)) (Contains-get_or cells 0 [] a.some) in
          let i = found (is_relative cells []) cells R.listing c ((R.listing.members c).1 w) in
          let d : slice_index K.degrees i.0 ≡ 0 = degree_at i.0 i.1 ∙ ap dimension_of i.2 ∙ flat (at 0) in
          let chain = subst (λ (k : ℕ). IsChain p (system K) k (single i.0)) d (single_chain i.0 i.1) in
          let h = homotopy_of p K ss (single i.0) in
          let x = single i.0 in
          let gone : (g : ℕ) → Same p (project_of p K ss x g) 0 = λ g. ⊎_elim
          (λ l. off_pairs ss (project_of p K ss x) g (red.project_on_left x) (none g l))
          (λ l. (red.project_degree 0 x chain).on g (le-ltb g (length K.boundaries) (omega (arith, R.complex.count))))
          (cases_lt g n) in
          let flat_boundary : (g : ℕ) → Same p (boundary K.boundaries x g) 0 = no_boundary x chain in
          let fill : (g : ℕ) → g < n → Same p (single i.0 g) (boundary K.boundaries h g) = λ g l. same_trans (same_sym (red.identity x g)) (same_trans (same-add (include_zero (project_of p K ss x) gone g) (same-add (same_refl p (boundary K.boundaries h g)) (homotopy_zero (boundary K.boundaries x) flat_boundary g))) (exact p (omega arith))) in
          absurd (one_nonzero p field.above_one (same_trans (exact p (sym (total-one n i.0 i.1))) (same_trans (total_same p n (single i.0) (boundary K.boundaries h) fill) (boundary_sum h (red.homotopy_degree 0 (single i.0) chain))))))
          (search n)
        where
          off_pairs : (ts : List Step) (y : ℕ → ℕ) (g : ℕ) → IsOnLeft p ts y → ¬ IsUnpaired ts g → Same p (y g) 0
          off_pairs [] y g o m = absurd (m tt)
          off_pairs (s ∷ ts) y g o m = ⊎_elim
              (λ e. subst (λ (k : ℕ). Same p (y k) 0) (sym e) o.0.at_a)
              (λ d. ⊎_elim (λ e. subst (λ (k : ℕ). Same p (y k) 0) (sym e) o.0.at_b) (λ c. off_pairs ts y g o.1 (λ u. m (d, c, u))) (cases_eq g s.b))
              (cases_eq g s.a)

          no_boundary : (u : ℕ → ℕ) → IsChain p (system K) 0 u → (g : ℕ) → Same p (boundary K.boundaries u g) 0
          no_boundary u chain g = total_none p (length K.boundaries) (λ h. u h * incidence K.boundaries h g) (λ h l. ⊎_elim
              (λ e. exact p (ap (λ v. u h * v) e ∙ omega arith))
              (λ d. same_trans {b = 0 * incidence K.boundaries h g} (same-mul (chain.of_degree h (λ z. let w = (degree_above p K complex h g l d).1 in absurd (omega arith))) (same_refl p (incidence K.boundaries h g))) (exact p (omega arith)))
              (cases_eq (incidence K.boundaries h g) 0))

          homotopy_zero : (x : ℕ → ℕ) → ((g : ℕ) → Same p (x g) 0) → (g : ℕ) → Same p (homotopy_of p K ss x g) 0
          homotopy_zero x z g = same_trans (red.homotopy_same x (λ h. 0 * x h + 0 * x h) (λ h. same_trans (z h) (exact p (omega arith))) g) (same_trans (red.homotopy_linear 0 0 x x g) (exact p (omega arith)))

          flat : (q : List Factor) → dimension_of (lowest q) ≡ 0
          flat [] = refl
          flat (point l ∷ qs) = flat qs
          flat (interval l ∷ qs) = flat qs

          search : (m : ℕ) → ((g : ℕ) × (g < m) × IsUnpaired ss g) ⊎ ((g : ℕ) → g < m → ¬ IsUnpaired ss g)
          search zero = inr (λ g l. absurd (omega arith))
          search (suc m) = ⊎_elim
              (λ w. inl (w.0, omega (arith, w.1), w.2))
              (λ none. ⊎_elim
              (λ u. inl (m, omega arith, u))
              (λ u. inr (λ g l. ⊎_elim (λ e v. u (subst (λ (k : ℕ). IsUnpaired ss k) e v)) (λ d. none g (omega arith)) (cases_eq g m)))
              (decide_unpaired ss m))
              (search m)

      one_vertex : IsOneVertex K ss
      one_vertex = let w = some_left in record {
        vertex = w.0;
        inside = omega (arith, w.1, R.complex.count);
        degree = left_degree w.0 w.1 w.2;
        unpaired = w.2;
        only = λ g l u. alone g w.0 (omega (arith, R.complex.count)) w.1 u w.2;
      }

pub show : ReductionsShowAcyclicity
show p cells K ss field closed R steps done =
    let sets = lists_and_sets p cells closed R.listing.once in (
      (λ a. one_vertex p cells K field closed R ss steps done (from_acyclic p cells K field closed R (sets.0 a))),
      (λ w. sets.1 (to_acyclic p cells K field closed R (point_like p cells K field closed R ss steps done w))),
    )
