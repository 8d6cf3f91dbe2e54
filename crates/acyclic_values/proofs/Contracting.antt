-- Lists of cells: contractions make them acyclic, holes refute that, and steps that leave no boundary give one or the other.
use Rattle.std.proofs.Common.{◌≡◌, ◌≢◌, ◌↔◌, ℕ, ◌+◌, ◌*◌, ◌<◌, ◌≤◌, refl, sym, ap, ◌∙◌, arith, ⊎_elim, cond, eqb, eq-eqb, ne_eqb, List, [], ◌∷◌, length, get_or, subst, Bool, true, false, ◌&&◌, ltb}
use mathlib.Core.Path.{fun_ext}
use Rattle.std.proofs.lemmas.Bool.{true≢false, cases_Bool, cases_eq, cases_lt, lt-ltb, le-ltb}
use Rattle.std.proofs.lemmas.List.{get_or-map}
use Rattle.std.proofs.lemmas.List.Elements.{Contains-get_or}
use Rattle.std.proofs.lemmas.List.Sums.{passes_at_first}
use Rattle.std.specs.Prelude.{if◌then◌else◌, ◌==◌}
use Rattle.std.specs.List.{Contains}
use Rattle.field_mod.specs.Sums.{total}
use Rattle.field_mod.specs.Modular.{Same, NonZero}
use Rattle.field_mod.proofs.Sums.{total-same, total-scale, total_same, total_none}
use Rattle.field_mod.proofs.Modular.{same_refl, same_sym, same_trans, same-add, same-scale, same-mul, decide_zero, one_nonzero}
use Rattle.elem_cubes.specs.Cells.{Factor, dimension_of, same_cell}
use Rattle.elem_cubes.specs.Boundary.{boundary_at, boundary_coefficient}
use Rattle.elem_cubes.specs.Order.{cell_cmp}
use Rattle.elem_cubes.specs.Laws.{cell_at}
use Rattle.elem_cubes.proofs.Modular.{exact}
use Rattle.elem_cubes.proofs.Boundaries.{boundary_at_is_boundary}
use Rattle.chains.specs.Homology.{System, IsChain, IsCycle, IsNull}
use Rattle.chains.specs.ChainComplex.{ChainComplex, IsComplex, system, incidence, boundary}
use Rattle.cube_sets.specs.Sorted.{has}
use Rattle.cube_sets.specs.Closures.{is_cell_of, cells_of}
use Rattle.cube_sets.proofs.Covering.{cells_are_faces}
use Rattle.cube_sets.proofs.SameSets.{same_sets}
use Rattle.cell_complex.specs.RelativeComplex.{is_relative, relative_complex, complex_on, restriction_to}
use Rattle.cell_complex.specs.Numbering.{IsListing, IsComplexOf, IsRelativeComplex, by_cell, by_number, number_of}
use Rattle.cell_complex.proofs.Squares.{restriction-on, restriction-off}
use Rattle.cell_complex.proofs.Deciding.{cells_of_sets_are_closed, has_is, has_from, from_has, cell_true}
use Rattle.cell_complex.proofs.Sorting.{apart}
use Rattle.cell_complex.proofs.Numbering.{listed, found, number_at, numbered_cells_are_complex}
use Rattle.cell_complex.proofs.ByCell.{bases_are_by_number_or_cell}
use Rattle.algebraic_reduction.specs.Reduction.{single, Step, IsUnpaired}
use Rattle.algebraic_reduction.specs.Laws.{AreStepsOf, NothingLeft, IsReduction, homotopy_of}
use Rattle.algebraic_reduction.proofs.Reductions.{steps_are_reductions}
use Rattle.cell_complex.specs.Acyclic.{sum_over, complex_of_set, IsReducedCycle, IsHole}
use Rattle.acyclic_values.specs.Contractions.{IsCellList, incidence_at, augmentation_at, IsContraction, LeaveVertex}
use Rattle.acyclic_values.specs.Laws.{ContractionsAreAcyclic, NeverBoth, LastVerticesContract, LeftGeneratorsAreHoles, SomeVertexIsLeft}
use Rattle.acyclic_values.proofs.Sums.{by_terms, none_by_terms, none_in_front, total_total, total_behind, over_facets, edge_pairing}
use Rattle.algebraic_reduction.proofs.LinearMaps.{total_picked}
use Rattle.algebraic_reduction.proofs.Singles.{single_chain, incidence_off}
use Rattle.acyclic_values.proofs.Cells.{cells_listing, corner, corner_face, corner_dimension}
use Rattle.chains.proofs.Systems.{null-same}
use Rattle.acyclic_values.proofs.LastVertex.{contracts, some_vertex, cycle, cocycle, cycle_chain, cycle_closed, cycle_balanced, cocycle_chain, cocycle_closed, product_one, least}

-- ---- a list of cells in order, closed under faces

module _ (V : List (List Factor)) (cl : IsCellList V) where
  pub member : (q : List Factor) → (is_cell_of V q ≡ true) ↔ Contains V q
  member q = cells_of_sets_are_closed.themselves V cl.closed q

  pub all_cells : cells_of V ≡ V
  all_cells = same_sets (cells_of V) V (cells_are_faces.sorted V) cl.sorted (λ c. cells_are_faces.faces V c ∙ both c)
    where
      both : (c : List Factor) → is_cell_of V c ≡ has cell_cmp V c
      both c = ⊎_elim
          (λ e. e ∙ sym (has_is V c ∙ has_from V c ((member c).0 e)))
          (λ e. e ∙ sym (⊎_elim (λ t. absurd (true≢false (sym ((member c).1 (from_has V c (sym (has_is V c) ∙ t))) ∙ e))) (λ f. f) (cases_Bool (has cell_cmp V c))))
          (cases_Bool (is_cell_of V c))

  pub listing : IsListing (is_cell_of V) V
  listing = record { members = member; once = apart V cl.sorted }

  pub place : (q : List Factor) → is_cell_of V q ≡ true → (i : ℕ) × (i < length V) × (cell_at V i ≡ q)
  place = found (is_cell_of V) V listing

  -- a chain of places, as a chain of cells
  pub by_cell_at : (c : ℕ → ℕ) (i : ℕ) → i < length V → by_cell V c (cell_at V i) ≡ c i
  by_cell_at c i l = ap (λ m. cond (ltb m (length V)) (c m) 0) (number_at (is_cell_of V) V listing i l) ∙ ap (λ b. cond b (c i) 0) (lt-ltb i (length V) l)

  pub by_cell_off : (c : ℕ → ℕ) (q : List Factor) → is_cell_of V q ≡ false → by_cell V c q ≡ 0
  by_cell_off c q e = ⊎_elim
      (λ l. absurd (true≢false (sym ((member q).1 (let s : q ≡ cell_at V (number_of V q) = cell_true q (cell_at V (number_of V q)) (passes_at_first (same_cell q) V [] l) in subst (λ (x : List Factor). Contains V x) (sym s) (Contains-get_or V (number_of V q) [] l))) ∙ e)))
      (λ l. ap (λ b. cond b (c (number_of V q)) 0) (le-ltb (number_of V q) (length V) l))
      (cases_lt (number_of V q) (length V))

  pub sum_here : (f : List Factor → ℕ) → sum_over (cells_of V) f ≡ sum_over V f
  sum_here f = ap (λ (c : List (List Factor)). sum_over c f) all_cells

-- ---- contractions make acyclic

module _ (p : ℕ) (V : List (List Factor)) (v : ℕ) (g : ℕ → ℕ → ℕ) (cl : IsCellList V) (ct : IsContraction p V v g) (k : ℕ) (z : List Factor → ℕ) (cy : IsReducedCycle p V k z) where
  abbrev n : ℕ
  n = length V

  abbrev at : ℕ → List Factor
  at = cell_at V

  abbrev bc : ℕ → ℕ → ℕ
  bc = incidence_at p V

  abbrev c : ℕ → ℕ
  c m = z (at m)

  abbrev filling : ℕ → ℕ
  filling h = total n (λ m. c m * g m h)

  grade_of : (m : ℕ) → NonZero p (c m) → dimension_of (at m) ≡ k
  grade_of m nz = ⊎_elim (λ e. e) (λ f. absurd (nz (cy.cycle.chain.of_degree (at m) f))) (cases_eq (dimension_of (at m)) k)

  filling_degree : (h : ℕ) → dimension_of (at h) ≢ k + 1 → Same p (filling h) 0
  filling_degree h f = none_by_terms p n c (λ m. g m h) (λ m l nz. ⊎_elim (λ e. e) (λ w. absurd (f ((ct.raises m h l w).1 ∙ ap (λ x. x + 1) (grade_of m nz)))) (decide_zero p (g m h)))

  augmented : Same p (total n (λ m. c m * augmentation_at V m)) 0
  augmented = ⊎_elim
      (λ e. same_trans (by_terms p n c (augmentation_at V) (λ m. 1) (λ m l nz. exact p (ap (λ b. cond b 1 0) (eq-eqb (dimension_of (at m)) 0 (grade_of m nz ∙ e)))))
      (same_trans (exact p (total-same n (λ m. c m * 1) c (λ m l. omega arith))) (same_trans (exact p (sym (sum_here V cl z))) (cy.augmentation e))))
      (λ f. none_by_terms p n c (augmentation_at V) (λ m l nz. exact p (ap (λ b. cond b 1 0) (ne_eqb (dimension_of (at m)) 0 (λ e. f (sym (grade_of m nz) ∙ e))))))
      (cases_eq k 0)

  closed : (t : ℕ) → t < n → Same p (total n (λ m. c m * bc m t)) 0
  closed t l =
      let w = boundary_at_is_boundary p V (restriction_to (is_cell_of V) z) (at t) (listing V cl).once (λ s f nz. ⊎_elim (λ e. place V cl s e) (λ e. absurd (nz (restriction-off (is_cell_of V) z s e))) (cases_Bool (is_cell_of V s))) in
      let e = total-same n (λ m. c m * bc m t) (λ m. restriction_to (is_cell_of V) z (at m) * bc m t) (λ m q. ap (λ x. x * bc m t) (sym (restriction-on (is_cell_of V) z (at m) (listed (is_cell_of V) V (listing V cl) m q)))) in
      same_trans (exact p e) (same_trans w (cy.cycle.closed (at t) (listed (is_cell_of V) V (listing V cl) t l)))

  fills_at : (h : ℕ) → h < n → Same p (z (at h)) (boundary_at p (at h) (restriction_to (is_cell_of V) (by_cell V filling)))
  fills_at h l =
      let R : List Factor → ℕ = restriction_to (is_cell_of V) (by_cell V filling) in
      let w = boundary_at_is_boundary p V R (at h) (listing V cl).once (λ s f nz. ⊎_elim (λ e. place V cl s e) (λ e. absurd (nz (restriction-off (is_cell_of V) (by_cell V filling) s e))) (cases_Bool (is_cell_of V s))) in
      let e = total-same n (λ i. R (at i) * bc i h) (λ i. filling i * bc i h) (λ i q. ap (λ x. x * bc i h) (restriction-on (is_cell_of V) (by_cell V filling) (at i) (listed (is_cell_of V) V (listing V cl) i q) ∙ by_cell_at V cl filling i q)) in
      let X : ℕ → ℕ = λ m. total n (λ t. g m t * bc t h) in
      let Y : ℕ → ℕ = λ m. total n (λ t. bc m t * g t h) in
      let E : ℕ → ℕ = λ m. augmentation_at V m * single v h in
      let a : total n (λ i. filling i * bc i h) ≡ total n (λ m. c m * X m) = total_total n n c g (λ i. bc i h) in
      let all : Same p (total n (λ m. c m * (E m + (X m + Y m)))) (c h) = same_trans (total_same p n (λ m. c m * (E m + (X m + Y m))) (λ m. c m * single m h) (λ m q. same-scale (c m) (ct.identity m h q l))) (exact p (total_picked n h c l)) in
      let s1 = total_behind n c E (λ m. X m + Y m) in
      let s2 = total_behind n c X Y in
      let none_e : Same p (total n (λ m. c m * E m)) 0 =
      same_trans (exact p (total-same n (λ m. c m * E m) (λ m. single v h * (c m * augmentation_at V m)) (λ m _. omega arith) ∙ total-scale n (single v h) (λ m. c m * augmentation_at V m)))
      (same_trans (same-scale (single v h) augmented) (exact p (omega arith))) in
      let none_y : Same p (total n (λ m. c m * Y m)) 0 =
      same_trans (exact p (sym (total_total n n c bc (λ t. g t h)))) (none_in_front p n (λ t. total n (λ m. c m * bc m t)) (λ t. g t h) (λ t q. closed t q)) in
      let x : ℕ = total n (λ m. c m * X m) in
      let sum : Same p x (c h) = same_trans (same_trans (exact p (let k : x ≡ 0 + (x + 0) = omega arith in k)) (same_trans (same-add (same_sym none_e) (same-add (same_refl p x) (same_sym none_y))) (exact p (sym (s1 ∙ ap (λ q. total n (λ m. c m * E m) + q) s2))))) all in
      same_sym (same_trans (same_sym w) (same_trans (exact p (e ∙ a)) sum))

  pub null : IsNull p (complex_of_set p V) k z
  null = record {
    filling = by_cell V filling;
    chain = record {
      on = λ q e. exact p (by_cell_off V cl filling q e);
      of_degree = λ q f. ⊎_elim
          (λ e. let w = place V cl q e in same_trans (exact p (ap (by_cell V filling) (sym w.2) ∙ by_cell_at V cl filling w.0 w.1)) (filling_degree w.0 (λ d. f (ap dimension_of (sym w.2) ∙ d))))
          (λ e. exact p (by_cell_off V cl filling q e))
          (cases_Bool (is_cell_of V q));
    };
    fills = λ q e. let w = place V cl q e in subst (λ (x : List Factor). Same p (z x) (boundary_at p x (restriction_to (is_cell_of V) (by_cell V filling)))) w.2 (fills_at w.0 w.1);
  }

pub contractions_are_acyclic : ContractionsAreAcyclic
contractions_are_acyclic p V v g cl ct = record {
  some = λ e. absurd (let a = ct.inside in let b : length V ≡ 0 = ap length e in omega arith);
  null = λ k z cy. null p V v g cl ct k z cy;
}

-- ---- never both

-- the cycle of a hole is not null
pub hole_not_null : (p : ℕ) (x : List (List Factor)) (k : ℕ) (z w : List Factor → ℕ) → 2 ≤ p → IsNull p (complex_of_set p x) k z → IsHole p x k z w → ⊥
hole_not_null p x k z w two u h =
    let cs : List (List Factor) = cells_of x in
    let n = length cs in
    let ls : IsListing (is_cell_of x) cs = cells_listing x in
    let F : List Factor → ℕ = restriction_to (is_cell_of x) u.filling in
    let b = λ (i : ℕ) (l : i < n). let q : List Factor = cell_at cs i in same_trans (u.fills q (listed (is_cell_of x) cs ls i l)) (same_sym (boundary_at_is_boundary p cs F q ls.once (λ s f nz. ⊎_elim (λ e. found (is_cell_of x) cs ls s e) (λ e. absurd (nz (restriction-off (is_cell_of x) u.filling s e))) (cases_Bool (is_cell_of x s))))) in
    let a = total_same p n (λ i. z (cell_at cs i) * w (cell_at cs i)) (λ i. total n (λ j. F (cell_at cs j) * boundary_coefficient p (cell_at cs j) (cell_at cs i)) * w (cell_at cs i)) (λ i l. same-mul (b i l) (same_refl p (w (cell_at cs i)))) in
    let c = total_total n n (λ j. F (cell_at cs j)) (λ j i. boundary_coefficient p (cell_at cs j) (cell_at cs i)) (λ i. w (cell_at cs i)) in
    let d = total_none p n (λ j. F (cell_at cs j) * total n (λ i. boundary_coefficient p (cell_at cs j) (cell_at cs i) * w (cell_at cs i))) (λ j l. same_trans (same-scale (F (cell_at cs j)) (h.cocycle (cell_at cs j) (listed (is_cell_of x) cs ls j l))) (exact p (omega arith))) in
    one_nonzero p two (same_trans (same_sym h.product) (same_trans a (same_trans (exact p c) d)))

pub never_both : NeverBoth
never_both p x k z w two ac h = hole_not_null p x k z w two (ac.null k z h.cycle) h

-- ---- steps on the complex of the cells

module _ (p : ℕ) (V : List (List Factor)) (K : ChainComplex) (ss : List Step) (two : 2 ≤ p) (cl : IsCellList V) (ck : IsComplexOf p V K) (st : AreStepsOf p K ss) where
  one : 1 ≤ p
  one = omega arith

  nothing_out : (q : List Factor) → is_relative V [] q ≡ is_cell_of V q
  nothing_out q = and_true (is_cell_of V q)
    where
      and_true : (b : Bool) → (b && true) ≡ b
      and_true true = refl
      and_true false = refl

  rel : IsRelativeComplex p V [] V K
  rel = record {
    listing = record { members = λ q. ((λ e. (member V cl q).0 (sym (nothing_out q) ∙ e)), (λ w. nothing_out q ∙ (member V cl q).1 w)); once = (listing V cl).once };
    complex = ck;
  }

  same_systems : relative_complex p V [] ≡ complex_of_set p V
  same_systems = ap (complex_on p) (fun_ext (λ q. nothing_out q))

  pub cx : IsComplex p K
  cx = numbered_cells_are_complex p V [] V K one rel

  pub red : IsReduction p K ss
  red = steps_are_reductions p K ss two cx st

  abbrev size : ℕ
  size = length K.boundaries

  counted : size ≡ length V
  counted = ck.count

  degree_is : (m : ℕ) → m < length V → get_or K.degrees m 0 ≡ dimension_of (cell_at V m)
  degree_is m l = ap (λ ds. get_or ds m 0) ck.degrees ∙ get_or-map dimension_of V m [] 0 l

  pub balanced : (h : ℕ) → h < size → get_or K.degrees h 0 ≡ 1 → Same p (total size (incidence K.boundaries h)) 0
  balanced h l d =
      let m : h < length V = omega (arith, counted) in
      let q : List Factor = cell_at V h in
      let here : is_cell_of V q ≡ true = listed (is_cell_of V) V (listing V cl) h m in
      let a = total_same p (length V) (incidence K.boundaries h) (λ i. boundary_coefficient p q (cell_at V i) * 1) (λ i _. same_trans (ck.incidences h i m) (exact p (omega arith))) in
      let b = over_facets p V one (listing V cl).once q (λ _. 1) (λ t f. place V cl t ((member V cl t).1 (cl.closed q t f ((member V cl q).0 here)))) in
      same_trans (exact p (ap (λ k. total k (incidence K.boundaries h)) counted)) (same_trans a (same_trans b (edge_pairing p q one (sym (degree_is h m) ∙ d))))

  augmentation_is : (m : ℕ) → m < length V → (if get_or K.degrees m 0 == 0 then 1 else 0) ≡ augmentation_at V m
  augmentation_is m l = ap (λ d. cond (eqb d 0) 1 0) (degree_is m l)

  pub contraction : (v : ℕ) → LeaveVertex p K ss v → IsContraction p V v (λ m. homotopy_of p K ss (single m))
  contraction v lv =
      let v_in : v < length V = omega (arith, lv.inside, counted) in
      record {
        inside = v_in;
        lowest = sym (degree_is v v_in) ∙ lv.lowest;
        raises = λ m s l nz.
            let k : m < size = omega (arith, counted) in
            let ch = red.homotopy_degree (get_or K.degrees m 0) (single m) (single_chain p K m k) in
            let s_in : s < size = ⊎_elim (λ q. q) (λ q. absurd (nz (ch.on s (le-ltb s size q)))) (cases_lt s size) in
            let t_in : s < length V = omega (arith, counted) in
            (t_in, sym (degree_is s t_in) ∙ ⊎_elim (λ e. e) (λ f. absurd (nz (ch.of_degree s f))) (cases_eq (get_or K.degrees s 0) (get_or K.degrees m 0 + 1)) ∙ ap (λ d. d + 1) (degree_is m l));
        identity = λ m s l q.
            let k : m < size = omega (arith, counted) in
            let j = contracts p K ss two cx red balanced v lv.inside lv.lowest lv.left lv.alone m s k in
            let N = length V in
            let H : ℕ → ℕ → ℕ = λ t. homotopy_of p K ss (single t) in
            let x = total_same p N (λ t. H m t * incidence_at p V t s) (λ t. H m t * incidence K.boundaries t s) (λ t r. same-scale (H m t) (same_sym (ck.incidences t s r))) in
            let y = total_same p N (λ t. incidence_at p V m t * H t s) (λ t. incidence K.boundaries m t * H t s) (λ t r. same-mul (same_sym (ck.incidences m t l)) (same_refl p (H t s))) in
            same_trans (same-add (exact p (ap (λ a. a * single v s) (sym (augmentation_is m l)))) (same-add (same_trans x (exact p (ap (λ i. total i (λ t. H m t * incidence K.boundaries t s)) (sym counted)))) (same_trans y (exact p (ap (λ i. total i (λ t. incidence K.boundaries m t * H t s)) (sym counted)))))) j;
      }

  pub vertex_left : ((g : ℕ) → g < length V → dimension_of (cell_at V g) ≡ 0 → IsUnpaired ss g → ⊥) → V ≡ []
  vertex_left none = ⊎_elim (λ e. empty V e) (λ f. absurd (some f)) (cases_eq (length V) 0)
    where
      empty : (V : List (List Factor)) → length V ≡ 0 → V ≡ []
      empty [] e = refl
      empty (q ∷ qs) e = absurd (omega arith)

      some : length V ≢ 0 → ⊥
      some f =
          let q : List Factor = cell_at V 0 in
          let here : is_cell_of V q ≡ true = listed (is_cell_of V) V (listing V cl) 0 (omega arith) in
          let w = place V cl (corner q) ((member V cl (corner q)).1 (cl.closed q (corner q) (corner_face q) ((member V cl q).0 here))) in
          let m : w.0 < size = omega (arith, counted, w.1) in
          some_vertex p K ss two cx red balanced w.0 m (degree_is w.0 w.1 ∙ ap dimension_of w.2 ∙ corner_dimension q) (λ g l d u. let r : g < length V = omega (arith, counted) in none g r (sym (degree_is g r) ∙ d) u)

  -- ---- a hole

  module _ (u : ℕ) (u_in : u < size) (u_low : get_or K.degrees u 0 ≡ 0) (u_left : IsUnpaired ss u) (t : ℕ) (t_in : t < size) (t_left : IsUnpaired ss t) (t_other : t ≢ u) (first : (g : ℕ) → g < size → IsUnpaired ss g → g ≢ u → get_or K.degrees t 0 ≤ get_or K.degrees g 0) (done : NothingLeft p K ss) where
    abbrev Z : ℕ → ℕ
    Z = cycle p K ss two cx red balanced u u_in u_low u_left t t_in t_left t_other first done

    abbrev W : ℕ → ℕ
    W = cocycle p K ss two cx red balanced u u_in u_low u_left t t_in t_left t_other first done

    t_here : t < length V
    t_here = omega (arith, counted)

    dim : get_or K.degrees t 0 ≡ dimension_of (cell_at V t)
    dim = degree_is t t_here

    to_set : (P : System (List Factor) → Type 0) → P (relative_complex p V []) → P (complex_of_set p V)
    to_set P h = subst P same_systems h

    sum_by : (c d : ℕ → ℕ) → sum_over (cells_of V) (λ q. by_cell V c q * by_cell V d q) ≡ total size (λ g. c g * d g)
    sum_by c d = sum_here V cl (λ q. by_cell V c q * by_cell V d q) ∙ total-same (length V) (λ i. by_cell V c (cell_at V i) * by_cell V d (cell_at V i)) (λ g. c g * d g) (λ i l. rw (by_cell_at V cl c i l) (rw (by_cell_at V cl d i l) refl)) ∙ ap (λ k. total k (λ g. c g * d g)) (sym counted)

    reduced_to : (l : ℕ) (y : List Factor → ℕ) → IsReducedCycle p V l y → (l ≡ 0 → Same p (total size (by_number V y)) 0)
    reduced_to l y cy e =
        let a : total (length V) (by_number V y) ≡ sum_over V y = total-same (length V) (by_number V y) (λ i. y (cell_at V i)) (λ i q. ap (λ b. cond b (y (cell_at V i)) 0) (lt-ltb i (length V) q)) in
        same_trans (exact p (ap (λ k. total k (by_number V y)) counted ∙ a ∙ sym (sum_here V cl y))) (cy.augmentation e)

    hole_at : (d : ℕ) → get_or K.degrees t 0 ≡ d → IsHole p V d (by_cell V Z) (by_cell V W)
    hole_at d de =
        let bn = bases_are_by_number_or_cell p V [] V K one rel in
        let zc : IsCycle p (system K) d Z = record { chain = subst (λ (k : ℕ). IsChain p (system K) k Z) de (cycle_chain p K ss two cx red balanced u u_in u_low u_left t t_in t_left t_other first done); closed = λ g _. cycle_closed p K ss two cx red balanced u u_in u_low u_left t t_in t_left t_other first done g } in
        record {
          some = λ e. absurd (let a : length V ≡ 0 = ap length e in let b = t_here in omega arith);
          cycle = record {
            cycle = to_set (λ S. IsCycle p S d (by_cell V Z)) (bn.cycle_by_cell d Z zc);
            augmentation = λ o. same_trans (exact p (sum_here V cl (by_cell V Z) ∙ total-same (length V) (λ i. by_cell V Z (cell_at V i)) Z (λ i l. by_cell_at V cl Z i l) ∙ ap (λ k. total k Z) (sym counted))) (cycle_balanced p K ss two cx red balanced u u_in u_low u_left t t_in t_left t_other first done (de ∙ o));
          };
          cochain = record {
            on = λ q e. exact p (by_cell_off V cl W q e);
            of_degree = λ q f. ⊎_elim
                (λ e. let w = place V cl q e in same_trans (exact p (ap (by_cell V W) (sym w.2) ∙ by_cell_at V cl W w.0 w.1)) (cocycle_chain p K ss two cx red balanced u u_in u_low u_left t t_in t_left t_other first done w.0 (omega (arith, w.1, counted)) (λ s. f (ap dimension_of (sym w.2) ∙ sym (degree_is w.0 w.1) ∙ s ∙ de))))
                (λ e. exact p (by_cell_off V cl W q e))
                (cases_Bool (is_cell_of V q));
          };
          cocycle = λ q e.
              let w = place V cl q e in
              let a = sum_here V cl (λ r. boundary_coefficient p q r * by_cell V W r) in
              let b = total_same p (length V) (λ i. boundary_coefficient p q (cell_at V i) * by_cell V W (cell_at V i)) (λ i. incidence K.boundaries w.0 i * W i) (λ i l. same-mul (same_trans (exact p (ap (λ x. boundary_coefficient p x (cell_at V i)) (sym w.2))) (same_sym (ck.incidences w.0 i w.1))) (exact p (by_cell_at V cl W i l))) in
              same_trans (exact p a) (same_trans b (same_trans (exact p (ap (λ k. total k (λ i. incidence K.boundaries w.0 i * W i)) (sym counted))) (cocycle_closed p K ss two cx red balanced u u_in u_low u_left t t_in t_left t_other first done w.0 (omega (arith, w.1, counted)))));
          product = same_trans (exact p (sum_by Z W)) (product_one p K ss two cx red balanced u u_in u_low u_left t t_in t_left t_other first done);
          least = λ l y below cy.
              let yr : IsCycle p (relative_complex p V []) l y = subst (λ (S : System (List Factor)). IsCycle p S l y) (sym same_systems) cy.cycle in
              let yn = bn.cycle_by_number l y yr in
              let nn = least p K ss two cx red balanced u u_in u_low u_left t t_in t_left t_other first done l (by_number V y) (omega (arith, de)) yn.chain (λ g. closed_all l y yn g) (reduced_to l y cy) in
              null_back l y (to_set (λ S. IsNull p S l (by_cell V (by_number V y))) (bn.null_by_cell l (by_number V y) nn));
        }
      where
        closed_all : (l : ℕ) (y : List Factor → ℕ) → IsCycle p (system K) l (by_number V y) → (g : ℕ) → Same p (boundary K.boundaries (by_number V y) g) 0
        closed_all l y yn g = ⊎_elim
            (λ q. yn.closed g (lt-ltb g size q))
            (λ q. total_none p size (λ h. by_number V y h * incidence K.boundaries h g) (λ h r. same_trans (same-scale (by_number V y h) (exact p (incidence_off p K cx h g r q))) (exact p (omega arith))))
            (cases_lt g size)

        null_back : (l : ℕ) (y : List Factor → ℕ) → IsNull p (complex_of_set p V) l (by_cell V (by_number V y)) → IsNull p (complex_of_set p V) l y
        null_back l y h = null-same p (complex_of_set p V) l (by_cell V (by_number V y)) y (λ q e. let w = place V cl q e in exact p (ap y (sym w.2) ∙ sym (ap (by_cell V (by_number V y)) (sym w.2) ∙ by_cell_at V cl (by_number V y) w.0 w.1 ∙ ap (λ b. cond b (y (cell_at V w.0)) 0) (lt-ltb w.0 (length V) w.1)))) h

    pub hole : IsHole p V (dimension_of (cell_at V t)) (by_cell V Z) (by_cell V W)
    hole = hole_at (dimension_of (cell_at V t)) dim

pub last_vertices_contract : LastVerticesContract
last_vertices_contract p V K ss v two cl ck lv = contraction p V K ss two cl ck lv.made v lv

pub some_vertex_is_left : SomeVertexIsLeft
some_vertex_is_left p V K ss two cl ck st none = vertex_left p V K ss two cl ck st none

pub left_generators_are_holes : LeftGeneratorsAreHoles
left_generators_are_holes p V K ss two cl ck st done u t ul tl =
    hole p V K ss two cl ck st u ul.inside ul.lowest ul.left t tl.inside tl.left tl.other tl.first done
