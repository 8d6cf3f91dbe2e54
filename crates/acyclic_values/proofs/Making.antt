-- A contraction and a hole as they are made from a log.
use Rattle.std.proofs.Common.{◌≡◌, ◌≢◌, ◌⊎◌, inl, inr, ℕ, ◌+◌, ◌-◌, ◌*◌, ◌%◌, ◌<◌, ◌≤◌, refl, sym, ap, ◌∙◌, arith, ⊎_elim, List, [], ◌∷◌, ◌++◌, length, get_or, Option, Some, None, cond, eqb, eq-eqb, ne_eqb, Bool, true, false, subst, ◌&&◌}
use Rattle.std.proofs.lemmas.Bool.{cases_eq, cases_lt, lt-ltb, le-ltb}
use Rattle.std.proofs.lemmas.List.{get_or_append_left, get_or_push, length_push}
use Rattle.field_mod.specs.Sums.{total}
use Rattle.field_mod.specs.Modular.{Same, minus}
use Rattle.field_mod.proofs.Sums.{total_same}
use Rattle.field_mod.proofs.Modular.{same_refl, same_trans, same-add, same-scale, same-mul}
use native.Mathlib.Nat.{mod-mod}
use Rattle.elem_cubes.proofs.Modular.{exact}
use Rattle.chains.specs.Terms.{coefficient, nth_chain}
use Rattle.chains.specs.ChainComplex.{ChainComplex}
use Rattle.algebraic_reduction.specs.Reduction.{single, Step, IsUnpaired, IsOnLeft}
use Rattle.algebraic_reduction.specs.Laws.{homotopy_of}
use Rattle.algebraic_reduction.specs.LogWords.{Reduced}
use Rattle.elem_cubes.specs.Cells.{Factor, dimension_of}
use Rattle.elem_cubes.specs.Boundary.{boundary_coefficient}
use Rattle.elem_cubes.specs.Laws.{cell_at}
use Rattle.std.proofs.lemmas.List.{get_or-map}
use Rattle.chains.specs.ChainComplex.{IsComplex}
use Rattle.chains.proofs.Systems.{boundary-same}
use Rattle.cube_sets.specs.Closures.{is_cell_of, cells_of}
use Rattle.cell_complex.specs.RelativeComplex.{is_relative}
use Rattle.cell_complex.specs.Numbering.{IsOfPair, IsComplexOf, by_cell, number_of}
use Rattle.cell_complex.proofs.Squares.{operator}
use Rattle.algebraic_reduction.specs.Laws.{AreStepsOf, NothingLeft, include_of, project_of}
use Rattle.algebraic_reduction.proofs.Reductions.{steps_are_reductions}
use Rattle.cell_complex.specs.Acyclic.{complex_of_set, IsAcyclic, IsHole}
use Rattle.acyclic_values.specs.Contractions.{IsCellList, incidence_at, augmentation_at, IsContraction, LeaveVertex, IsLeftVertex, IsFirstLeft}
use Rattle.acyclic_values.specs.Laws.{less_vertex}
use Rattle.acyclic_values.specs.Faults.{IsWithin}
use Rattle.algebraic_reduction.proofs.LinearMaps.{single-other, total_picked_other}
use Rattle.algebraic_reduction.proofs.Singles.{on_left_by}
use Rattle.acyclic_values.proofs.LastVertex.{cycle_chain}
use Rattle.acyclic_values.proofs.Contracting.{member, listing, balanced, last_vertices_contract, some_vertex_is_left, contractions_are_acyclic, left_generators_are_holes}
use Rattle.acyclic_values.specs.Contracted.{IsBestBelow, IsLower, IsLess, AreHomotopies, IsContracted}

-- ---- the best generator so far

pub best_lower : (K : ChainComplex) (ss : List Step) (u g r : ℕ) (best : Option ℕ) → IsBestBelow K ss u g best → IsUnpaired ss g → g ≢ u → IsLower K best g r → IsBestBelow K ss u (g + 1) (Some r)
best_lower K ss u g r None b left other low =
    let e : r ≡ g = low in (
      omega arith,
      subst (λ (x : ℕ). IsUnpaired ss x) (sym e) left,
      (λ q. other (sym e ∙ q)),
      (λ h l w f. ⊎_elim (λ s. absurd (f (b h s w))) (λ s. let k : h ≡ g = omega arith in omega (arith, ap (λ x. get_or K.degrees x 0) k, ap (λ x. get_or K.degrees x 0) e)) (cases_lt h g)),
    )
best_lower K ss u g r (Some t) b left other (inl low) = (
  omega (arith, b.0, low.0),
  subst (λ (x : ℕ). IsUnpaired ss x) (sym low.0) b.1,
  (λ q. b.2 (sym low.0 ∙ q)),
  (λ h l w f. let e = ap (λ x. get_or K.degrees x 0) low.0 in ⊎_elim (λ s. omega (arith, b.3 h s w f, e)) (λ s. let k : h ≡ g = omega arith in omega (arith, ap (λ x. get_or K.degrees x 0) k, e, low.1)) (cases_lt h g)),
)
best_lower K ss u g r (Some t) b left other (inr low) = (
  omega (arith, low.0),
  subst (λ (x : ℕ). IsUnpaired ss x) (sym low.0) left,
  (λ q. other (sym low.0 ∙ q)),
  (λ h l w f. let e = ap (λ x. get_or K.degrees x 0) low.0 in ⊎_elim (λ s. omega (arith, b.3 h s w f, e, low.1)) (λ s. let k : h ≡ g = omega arith in omega (arith, ap (λ x. get_or K.degrees x 0) k, e)) (cases_lt h g)),
)

-- a generator that is taken, or is the vertex, changes nothing
pub best_same : (K : ChainComplex) (ss : List Step) (u g : ℕ) (best : Option ℕ) → IsBestBelow K ss u g best → ((IsUnpaired ss g → ⊥) ⊎ (g ≡ u)) → IsBestBelow K ss u (g + 1) best
best_same K ss u g None b out = λ h l w. ⊎_elim (λ s. b h s w) (λ s. let k : h ≡ g = omega arith in ⊎_elim (λ f. absurd (f (subst (λ (x : ℕ). IsUnpaired ss x) k w))) (λ e. k ∙ e) out) (cases_lt h g)
best_same K ss u g (Some t) b out = (
  omega (arith, b.0),
  b.1,
  b.2,
  (λ h l w f. ⊎_elim (λ s. b.3 h s w f) (λ s. let k : h ≡ g = omega arith in ⊎_elim (λ n. absurd (n (subst (λ (x : ℕ). IsUnpaired ss x) k w))) (λ e. absurd (f (k ∙ e))) out) (cases_lt h g)),
)

-- ---- the homotopies so far

pub homotopies_none : (p : ℕ) (log : Reduced) (hs : List (List (ℕ × ℕ))) → hs ≡ [] → AreHomotopies p log hs 0
homotopies_none p log hs e = record { count_is = ap length e; each = λ m g l. absurd (omega arith) }

pub homotopies_more : (p : ℕ) (log : Reduced) (hs new : List (List (ℕ × ℕ))) (n : ℕ) (one h : List (ℕ × ℕ)) → AreHomotopies p log hs n → new ≡ hs ++ h ∷ []
    → ((g : ℕ) → Same p (coefficient h g) (homotopy_of p log.complex log.steps (single n) g)) → AreHomotopies p log new (n + 1)
homotopies_more p log hs new n one h a e value = record {
  count_is = ap length e ∙ length_push hs h ∙ ap (λ x. x + 1) a.count_is;
  each = λ m g l. ⊎_elim
      (λ s. same_trans (exact p (ap (λ xs. coefficient (get_or xs m []) g) e ∙ ap (λ (c : List (ℕ × ℕ)). coefficient c g) (get_or_append_left hs (h ∷ []) [] m (omega (arith, s, a.count_is))))) (a.each m g s))
      (λ s. let k : m ≡ n = omega arith in same_trans (exact p (ap (λ xs. coefficient (get_or xs m []) g) e ∙ ap (λ x. coefficient (get_or (hs ++ h ∷ []) x []) g) k ∙ ap (λ (c : List (ℕ × ℕ)). coefficient c g) (get_or_push hs h [] n a.count_is))) (same_trans (value g) (exact p (ap (λ x. homotopy_of p log.complex log.steps (single x) g) (sym k)))))
      (cases_lt m n);
}

-- the chain of one generator
pub one_term : (p b g : ℕ) (one : List (ℕ × ℕ)) → coefficient one g ≡ coefficient ((b, 1) ∷ []) g % p → Same p (coefficient one g) (single b g)
one_term p b g one e = same_trans (record { same = ap (λ n. n % p) e ∙ mod-mod (coefficient ((b, 1) ∷ []) g) p }) (exact p (turn b g))
  where
    turn : (b g : ℕ) → cond (eqb b g) 1 0 + 0 ≡ single b g
    turn b g = ⊎_elim (λ q. rw (eq-eqb b g q, eq-eqb g b (sym q)) refl) (λ f. let a = ne_eqb b g f in let c = ne_eqb g b (λ q. f (sym q)) in rw a (rw c refl)) (cases_eq b g)

-- ---- a generator, less the vertex

pub less_high : (p : ℕ) (K : ChainComplex) (u t : ℕ) (ts : List (ℕ × ℕ)) → get_or K.degrees t 0 ≢ 0 → ((g : ℕ) → coefficient ts g ≡ coefficient ((t, 1) ∷ []) g % p) → IsLess p K u t ts
less_high p K u t ts f e g =
    same_trans (one_term p t g ts (e g)) (exact p (none (single t g) (single u g) ∙ ap (λ b. single t g + minus p (cond b 1 0 * single u g)) (sym (ne_eqb (get_or K.degrees t 0) 0 f))))
  where
    none : (a b : ℕ) → a ≡ a + minus p (0 * b)
    none a b = omega arith

pub less_low : (p : ℕ) (K : ChainComplex) (u t m : ℕ) (ts : List (ℕ × ℕ)) → 1 ≤ p → get_or K.degrees t 0 ≡ 0 → m ≡ (p - 1) % p → ((g : ℕ) → coefficient ts g ≡ coefficient ((t, 1) ∷ (u, m) ∷ []) g % p) → IsLess p K u t ts
less_low p K u t m ts one f n e g =
    let first : Same p (coefficient ts g) (cond (eqb t g) 1 0 + (cond (eqb u g) m 0 + 0)) = record { same = ap (λ q. q % p) (e g) ∙ mod-mod (cond (eqb t g) 1 0 + (cond (eqb u g) m 0 + 0)) p } in
    let second : Same p (cond (eqb u g) m 0) ((p - 1) * single u g) = ⊎_elim
    (λ q. same_trans (exact p (ap (λ b. cond b m 0) (eq-eqb u g q))) (same_trans (record { same = ap (λ x. x % p) n ∙ mod-mod (p - 1) p }) (exact p (one_time ∙ sym (ap (λ b. (p - 1) * cond b 1 0) (eq-eqb g u (sym q)))))))
    (λ q. exact p (ap (λ b. cond b m 0) (ne_eqb u g q) ∙ sym (ap (λ b. (p - 1) * cond b 1 0) (ne_eqb g u (λ s. q (sym s))) ∙ zero)))
    (cases_eq u g) in
    let turn : cond (eqb t g) 1 0 ≡ single t g = ⊎_elim (λ q. rw (eq-eqb t g q, eq-eqb g t (sym q)) refl) (λ q. let a = ne_eqb t g q in let c = ne_eqb g t (λ s. q (sym s)) in rw a (rw c refl)) (cases_eq t g) in
    same_trans first (same_trans (same-add (exact p turn) (same_trans (exact p drop_zero) second)) (exact p (ap (λ x. single t g + x) one_times ∙ ap (λ b. single t g + minus p (cond b 1 0 * single u g)) (sym (eq-eqb (get_or K.degrees t 0) 0 f)))))
  where
    zero : (p - 1) * 0 ≡ 0
    zero = omega arith

    one_time : p - 1 ≡ (p - 1) * 1
    one_time = omega arith

    drop_zero : cond (eqb u g) m 0 + 0 ≡ cond (eqb u g) m 0
    drop_zero = omega arith

    one_times : (p - 1) * single u g ≡ minus p (1 * single u g)
    one_times = omega arith

-- ---- a contraction

pub pair_of : (V : List (List Factor)) → IsCellList V → IsOfPair V
pair_of V cl = record { x = V; a = []; listing = record { members = λ q. ((λ e. (member V cl q).0 (sym (out q) ∙ e)), (λ w. out q ∙ (member V cl q).1 w)); once = (listing V cl).once } }
  where
    out : (q : List Factor) → is_relative V [] q ≡ is_cell_of V q
    out q = and_true (is_cell_of V q)
      where
        and_true : (b : Bool) → (b && true) ≡ b
        and_true true = refl
        and_true false = refl

contraction_same : (p : ℕ) (V : List (List Factor)) (v : ℕ) (h k : ℕ → ℕ → ℕ) → ((m s : ℕ) → m < length V → Same p (k m s) (h m s)) → IsContraction p V v h → IsContraction p V v k
contraction_same p V v h k e c = record {
  inside = c.inside;
  lowest = c.lowest;
  raises = λ m s l nz. c.raises m s l (λ z. nz (same_trans (e m s l) z));
  identity = λ m s l q.
      let n = length V in
      let a = total_same p n (λ t. k m t * incidence_at p V t s) (λ t. h m t * incidence_at p V t s) (λ t _. same-mul (e m t l) (same_refl p (incidence_at p V t s))) in
      let b = total_same p n (λ t. incidence_at p V m t * k t s) (λ t. incidence_at p V m t * h t s) (λ t r. same-scale (incidence_at p V m t) (e t s r)) in
      same_trans (same-add (same_refl p (augmentation_at V m * single v s)) (same-add a b)) (c.identity m s l q);
}

pub left_alone : (p : ℕ) (log : Reduced) (v : ℕ) → AreStepsOf p log.complex log.steps → IsLeftVertex log.complex log.steps v
    → ((g : ℕ) → g < length log.complex.boundaries → IsUnpaired log.steps g → g ≡ v) → LeaveVertex p log.complex log.steps v
left_alone p log v st lv alone = record { made = st; inside = lv.inside; lowest = lv.lowest; left = lv.left; alone = alone }

pub contracted : (p : ℕ) (V : List (List Factor)) (log : Reduced) (v : ℕ) (hs : List (List (ℕ × ℕ))) → 2 ≤ p → IsCellList V → IsComplexOf p V log.complex → LeaveVertex p log.complex log.steps v
    → AreHomotopies p log hs (length log.complex.boundaries) → IsContracted p V (record { log = log; vertex = v; homotopies = hs })
contracted p V log v hs two cl ck leave hom =
    let c : IsContraction p V v (nth_chain hs) = contraction_same p V v (λ m. homotopy_of p log.complex log.steps (single m)) (nth_chain hs) (λ m s l. hom.each m s (omega (arith, l, ck.count))) (last_vertices_contract p V log.complex log.steps v two cl ck leave) in
    record {
      complex = ck;
      leave = leave;
      count = hom.count_is ∙ ck.count;
      contracts = c;
      acyclic = contractions_are_acyclic p V v (nth_chain hs) cl c;
    }

pub alone_acyclic : (p : ℕ) (V : List (List Factor)) (log : Reduced) (v : ℕ) → 2 ≤ p → IsCellList V → IsComplexOf p V log.complex → LeaveVertex p log.complex log.steps v → IsAcyclic p V
alone_acyclic p V log v two cl ck leave =
    contractions_are_acyclic p V v (λ m. homotopy_of p log.complex log.steps (single m)) cl (last_vertices_contract p V log.complex log.steps v two cl ck leave)

-- ---- a hole

pub hole_same : (p : ℕ) (x : List (List Factor)) (k : ℕ) (z w u v : List Factor → ℕ) → ((q : List Factor) → Same p (u q) (z q)) → ((q : List Factor) → Same p (v q) (w q)) → IsHole p x k z w → IsHole p x k u v
hole_same p x k z w u v e f h =
    let cs : List (List Factor) = cells_of x in
    let op = operator p (is_cell_of x) in
    record {
      some = h.some;
      cycle = record {
        cycle = record {
          chain = record { on = λ q o. same_trans (e q) (h.cycle.cycle.chain.on q o); of_degree = λ q o. same_trans (e q) (h.cycle.cycle.chain.of_degree q o) };
          closed = λ q o. same_trans (boundary-same p (complex_of_set p x) op u z e q o) (h.cycle.cycle.closed q o);
        };
        augmentation = λ o. same_trans (total_same p (length cs) (λ i. u (cell_at cs i)) (λ i. z (cell_at cs i)) (λ i _. e (cell_at cs i))) (h.cycle.augmentation o);
      };
      cochain = record { on = λ q o. same_trans (f q) (h.cochain.on q o); of_degree = λ q o. same_trans (f q) (h.cochain.of_degree q o) };
      cocycle = λ q o. same_trans (total_same p (length cs) (λ i. boundary_coefficient p q (cell_at cs i) * v (cell_at cs i)) (λ i. boundary_coefficient p q (cell_at cs i) * w (cell_at cs i)) (λ i _. same-scale (boundary_coefficient p q (cell_at cs i)) (f (cell_at cs i)))) (h.cocycle q o);
      product = same_trans (total_same p (length cs) (λ i. u (cell_at cs i) * v (cell_at cs i)) (λ i. z (cell_at cs i) * w (cell_at cs i)) (λ i _. same-mul (e (cell_at cs i)) (f (cell_at cs i)))) h.product;
      least = h.least;
    }

pub by_cell_same : (p : ℕ) (V : List (List Factor)) (c d : ℕ → ℕ) → ((g : ℕ) → g < length V → Same p (c g) (d g)) → (q : List Factor) → Same p (by_cell V c q) (by_cell V d q)
by_cell_same p V c d e q = ⊎_elim
    (λ l. same_trans (exact p (ap (λ b. cond b (c (number_of V q)) 0) (lt-ltb (number_of V q) (length V) l))) (same_trans (e (number_of V q) l) (exact p (sym (ap (λ b. cond b (d (number_of V q)) 0) (lt-ltb (number_of V q) (length V) l))))))
    (λ l. exact p (ap (λ b. cond b (c (number_of V q)) 0) (le-ltb (number_of V q) (length V) l) ∙ sym (ap (λ b. cond b (d (number_of V q)) 0) (le-ltb (number_of V q) (length V) l))))
    (cases_lt (number_of V q) (length V))

pub hole_of : (p : ℕ) (V : List (List Factor)) (log : Reduced) (u t degree : ℕ) (start one cycle cocycle : List (ℕ × ℕ)) → 2 ≤ p → IsComplex p log.complex → AreStepsOf p log.complex log.steps → NothingLeft p log.complex log.steps
    → IsLeftVertex log.complex log.steps u → IsFirstLeft log.complex log.steps u t → degree ≡ get_or log.complex.degrees t 0
    → IsLess p log.complex u t start → ((g : ℕ) → coefficient one g ≡ coefficient ((t, 1) ∷ []) g % p)
    → ((g : ℕ) → Same p (coefficient cycle g) (include_of p log.complex log.steps (coefficient start) g))
    → ((g : ℕ) → g < length log.complex.boundaries → Same p (coefficient cocycle g) (total (length log.complex.boundaries) (λ h. coefficient one h * project_of p log.complex log.steps (single g) h)))
    → ((g : ℕ) → length log.complex.boundaries ≤ g → Same p (coefficient cocycle g) (coefficient one g))
    → IsCellList V → IsComplexOf p V log.complex
    → IsHole p V degree (by_cell V (coefficient cycle)) (by_cell V (coefficient cocycle)) × IsWithin p V cycle × IsWithin p V cocycle
hole_of p V log u t degree start one cycle cocycle two cx st done lv fl deg ls single_is inc proj past cl ck =
    let K : ChainComplex = log.complex in
    let ss : List Step = log.steps in
    let r = steps_are_reductions p K ss two cx st in
    let n = length K.boundaries in
    let t_in : t < length V = omega (arith, fl.inside, ck.count) in
    let dim : degree ≡ dimension_of (cell_at V t) = deg ∙ ap (λ ds. get_or ds t 0) ck.degrees ∙ get_or-map dimension_of V t [] 0 t_in in
    let z : (g : ℕ) → Same p (coefficient cycle g) (include_of p K ss (less_vertex p K u t) g) = λ g. same_trans (inc g) (r.include_same (coefficient start) (less_vertex p K u t) ls g) in
    let w : (g : ℕ) → g < n → Same p (coefficient cocycle g) (project_of p K ss (single g) t) = λ g l. same_trans (proj g l) (same_trans (total_same p n (λ h. coefficient one h * project_of p K ss (single g) h) (λ h. single t h * project_of p K ss (single g) h) (λ h _. same-mul (one_term p t h one (single_is h)) (same_refl p (project_of p K ss (single g) h)))) (exact p (total_picked_other n t (λ h. project_of p K ss (single g) h) fl.inside))) in
    let h = left_generators_are_holes p V K ss two cl ck st done u t lv fl in
    let h2 : IsHole p V degree (by_cell V (include_of p K ss (less_vertex p K u t))) (by_cell V (λ g. project_of p K ss (single g) t)) = subst (λ (d : ℕ). IsHole p V d (by_cell V (include_of p K ss (less_vertex p K u t))) (by_cell V (λ g. project_of p K ss (single g) t))) (sym dim) h in (
      hole_same p V degree (by_cell V (include_of p K ss (less_vertex p K u t))) (by_cell V (λ g. project_of p K ss (single g) t)) (by_cell V (coefficient cycle)) (by_cell V (coefficient cocycle))
          (by_cell_same p V (coefficient cycle) (include_of p K ss (less_vertex p K u t)) (λ g _. z g)) (by_cell_same p V (coefficient cocycle) (λ g. project_of p K ss (single g) t) (λ g l. w g (omega (arith, l, ck.count)))) h2,
      (λ g l. same_trans (z g) ((cycle_chain p K ss two cx r (balanced p V K ss two cl ck st) u lv.inside lv.lowest lv.left t fl.inside fl.left fl.other fl.first done).on g (le-ltb g n (omega (arith, l, ck.count))))),
      (λ g l. same_trans (past g (omega (arith, l, ck.count))) (same_trans (one_term p t g one (single_is g)) (exact p (single-other t g (λ e. absurd (omega (arith, e, l, t_in))))))),
    )

-- the generator, less the vertex, is a chain on what is left
pub less_left : (p : ℕ) (K : ChainComplex) (ss : List Step) (u t : ℕ) (ts : List (ℕ × ℕ)) → IsLeftVertex K ss u → IsFirstLeft K ss u t → IsLess p K u t ts → IsOnLeft p ss (coefficient ts)
less_left p K ss u t ts lv fl ls = on_left_by p ss (coefficient ts) (λ g f. same_trans (ls g) (exact p (ap (λ v. v + minus p (cond (eqb (get_or K.degrees t 0) 0) 1 0 * single u g)) (single-other t g (λ e. f (subst (λ (x : ℕ). IsUnpaired ss x) (sym e) fl.left)))
    ∙ ap (λ v. 0 + minus p (cond (eqb (get_or K.degrees t 0) 0) 1 0 * v)) (single-other u g (λ e. f (subst (λ (x : ℕ). IsUnpaired ss x) (sym e) lv.left))) ∙ none (cond (eqb (get_or K.degrees t 0) 0) 1 0))))
  where
    none : (a : ℕ) → 0 + minus p (a * 0) ≡ 0
    none a = omega arith

-- no vertex is left, so there is no cell
pub no_cells : (p : ℕ) (V : List (List Factor)) (log : Reduced) → 2 ≤ p → IsCellList V → IsComplexOf p V log.complex → AreStepsOf p log.complex log.steps
    → ((g : ℕ) → g < length log.complex.boundaries → get_or log.complex.degrees g 0 ≡ 0 → IsUnpaired log.steps g → ⊥) → V ≡ []
no_cells p V log two cl ck st none = some_vertex_is_left p V log.complex log.steps two cl ck st (λ g l d w. none g (omega (arith, l, ck.count)) (ap (λ ds. get_or ds g 0) ck.degrees ∙ get_or-map dimension_of V g [] 0 l ∙ d) w)

-- the log is of the complex of these cells
pub of_cells : (p : ℕ) (V cells : List (List Factor)) (K first last : ChainComplex) → cells ≡ V → IsComplexOf p cells K → first ≡ K → last ≡ first → IsComplexOf p V last
of_cells p V cells K first last e ck f g = subst (λ (k : ChainComplex). IsComplexOf p V k) (sym (g ∙ f)) (subst (λ (x : List (List Factor)). IsComplexOf p x K) e ck)
