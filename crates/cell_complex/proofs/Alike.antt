-- Acyclic sets and lists of cells: whether a set is acyclic depends on its cells alone, and a closed list that has each of its
-- cells once is acyclic as a list exactly where it is as a set
use Rattle.std.proofs.Common.{◌≡◌, ◌↔◌, ℕ, zero, suc, ◌+◌, ◌*◌, ◌<◌, inl, inr, refl, sym, ap, ◌∙◌, arith, ⊎_elim, List, [], ◌∷◌, length, Bool, true, false, cond, subst, get_or}
use Rattle.std.specs.List.{Contains, filter}
use Rattle.std.specs.Cmp as cmp
use Rattle.std.proofs.lemmas.Bool.{true≢false, cases_Bool}
use Rattle.std.proofs.lemmas.List.{get_or_default}
use Rattle.std.proofs.lemmas.List.Elements.{Contains-get_or}
use Rattle.std.proofs.lemmas.List.Folds.{list_any_at}
use Rattle.field_mod.specs.Sums.{total}
use Rattle.field_mod.proofs.Sums.{total-same, total-scale, total-swap}
use Rattle.field_mod.proofs.Modular.{same_trans}
use Rattle.elem_cubes.specs.Cells.{Factor}
use Rattle.elem_cubes.specs.Faces.{is_face, closure_of}
use Rattle.elem_cubes.specs.Order.{cell_cmp}
use Rattle.elem_cubes.specs.Laws.{cell_at}
use Rattle.elem_cubes.proofs.FaceLemmas.{face_refl}
use Rattle.elem_cubes.proofs.Listing.{closures_are_faces}
use Rattle.elem_cubes.proofs.Members.{In, from-In, Apart, apart_places}
use Rattle.elem_cubes.proofs.Modular.{exact}
use Rattle.elem_cubes.proofs.Boundaries.{at_cell, spread, boundary-none}
use Rattle.chains.specs.Homology.{System, IsChain, IsCycle, IsNull}
use Rattle.cube_sets.specs.Sorted.{has}
use Rattle.cube_sets.specs.Closures.{is_cell_of, cells_of}
use Rattle.cube_sets.proofs.Covering.{cells_are_faces}
use Rattle.cell_complex.specs.RelativeComplex.{restriction_to, complex_on, IsClosedList}
use Rattle.cell_complex.specs.Acyclic.{sum_over, complex_of_set, IsReducedCycle, IsAcyclic}
use Rattle.cell_complex.specs.AcyclicLists.{complex_of_cells, augmentation_over, IsAcyclicList}
use Rattle.cell_complex.specs.Growth.{cells_in}
use Rattle.cell_complex.specs.Laws.{AcyclicityIsOfCells, AcyclicListsAreSets}
use Rattle.cell_complex.proofs.Cofaces.{boundary_same}
use Rattle.cell_complex.proofs.Deciding.{has_is, has_from, from_has, cells_of_sets_are_closed, same_cell_sym, face_from}
use Rattle.cell_complex.proofs.Sorting.{apart}
use Rattle.cell_complex.proofs.Squares.{restriction-on, restriction-off}

abbrev AreApart : List (List Factor) → Type 0
AreApart cells = (i j : ℕ) → i < length cells → j < length cells → cell_at cells i ≡ cell_at cells j → i ≡ j

pub over-total : (cells : List (List Factor)) (c : List Factor → ℕ) → augmentation_over cells c ≡ total (length cells) (λ i. c (cell_at cells i))
over-total [] c = refl
over-total (q ∷ cells) c = ap (λ v. c q + v) (over-total cells c)

place : (cells : List (List Factor)) (q : List Factor) → Contains cells q → (i : ℕ) × (i < length cells) × (cell_at cells i ≡ q)
place cells q w = (w.0, w.1, get_or_default cells w.0 [] q w.1 ∙ w.2)

-- the sum over either list is the same
sum_alike : (cells others : List (List Factor)) → AreApart cells → AreApart others → ((q : List Factor) → Contains cells q ↔ Contains others q) → (c : List Factor → ℕ) → augmentation_over cells c ≡ augmentation_over others c
sum_alike cells others da db same c =
    let m = length cells in
    let n = length others in
    let x = cell_at cells in
    let y = cell_at others in
    over-total cells c
    ∙ total-same m (λ i. c (x i)) (λ i. total n (λ j. c (y j) * at_cell (y j) (x i))) (λ i l. sym (spread n y c (x i) db (inl (place others (x i) ((same (x i)).0 (Contains-get_or cells i [] l))))))
    ∙ total-swap m n (λ i j. c (y j) * at_cell (y j) (x i))
    ∙ total-same n (λ j. total m (λ i. c (y j) * at_cell (y j) (x i))) (λ j. c (y j)) (λ j l. one j l)
    ∙ sym (over-total others c)
  where
    one : (j : ℕ) → j < length others → total (length cells) (λ i. c (cell_at others j) * at_cell (cell_at others j) (cell_at cells i)) ≡ c (cell_at others j)
    one j l =
        let q = cell_at others j in
        total-scale (length cells) (c q) (λ i. at_cell q (cell_at cells i))
        ∙ ap (λ v. c q * v) (total-same (length cells) (λ i. at_cell q (cell_at cells i)) (λ i. 1 * at_cell (cell_at cells i) q) (λ i k. ap (λ b. cond b 1 0) (same_cell_sym (cell_at cells i) q) ∙ omega arith)
        ∙ spread (length cells) (cell_at cells) (λ s. 1) q da (inl (place cells q ((same q).1 (Contains-get_or others j [] l)))))
        ∙ omega arith

-- a filter keeps each element once
apart_from : {X : Type 0} (xs : List X) (d : X) → ((i j : ℕ) → i < length xs → j < length xs → get_or xs i d ≡ get_or xs j d → i ≡ j) → Apart xs
apart_from [] d h = tt
apart_from (x ∷ xs) d h = (
  (λ m. let w = from-In xs x m in absurd (let e = h 0 (suc w.0) (omega arith) (omega (arith, w.1)) (sym (get_or_default xs w.0 d x w.1 ∙ w.2)) in omega arith)),
  apart_from xs d (λ i j l k e. let f = h (suc i) (suc j) (omega arith) (omega arith) e in omega arith),
)

In-filter : {X : Type 0} (test : X → Bool) (xs : List X) (x : X) → In (filter test xs) x → In xs x
In-filter test [] x h = h
In-filter {X} test (y ∷ xs) x h = elim (test y) as (λ b. In (cond b (y ∷ filter test xs) (filter test xs)) x → In (y ∷ xs) x) [
  | true ↦ λ k. ⊎_elim (λ e. inl e) (λ m. inr (In-filter test xs x m)) k
  | false ↦ λ k. inr (In-filter test xs x k)
] h

apart-filter : {X : Type 0} (test : X → Bool) (xs : List X) → Apart xs → Apart (filter test xs)
apart-filter test [] a = tt
apart-filter {X} test (x ∷ xs) a = elim (test x) as (λ b. Apart (cond b (x ∷ filter test xs) (filter test xs))) [
  | true ↦ ((λ m. a.0 (In-filter test xs x m)), apart-filter test xs a.1)
  | false ↦ apart-filter test xs a.1
]

pub cells_in_once : (test : List Factor → Bool) (q : List Factor) → AreApart (cells_in test q)
cells_in_once test q i j l k e = apart_places (cells_in test q) i j [] (apart-filter test (closure_of q) (apart_from (closure_of q) [] (closures_are_faces.once q []))) l k e

-- ---- the cells of a set in order

listed : (x : List (List Factor)) (q : List Factor) → (is_cell_of x q ≡ true) ↔ Contains (cells_of x) q
listed x q = (
  λ e. from_has (cells_of x) q (sym (has_is (cells_of x) q) ∙ cells_are_faces.faces x q ∙ e),
  λ w. sym (cells_are_faces.faces x q) ∙ has_is (cells_of x) q ∙ has_from (cells_of x) q w,
)

of_set : (x : List (List Factor)) (z : List Factor → ℕ) → sum_over (cells_of x) z ≡ augmentation_over (cells_of x) z
of_set x z = sym (over-total (cells_of x) z)

-- a chain of degree 0 has no boundary
flat : (p : ℕ) (belongs : List Factor → Bool) (c : List Factor → ℕ) → IsChain p (complex_on p belongs) 0 c → IsCycle p (complex_on p belongs) 0 c
flat p belongs c chain = record {
  chain = chain;
  closed = λ g e. same_trans (boundary_same p g (restriction_to belongs c) (λ t. 0) (λ t f. ⊎_elim
      (λ on. same_trans (exact p (restriction-on belongs c t on)) (chain.of_degree t (λ z. let d = f.1 in absurd (omega arith))))
      (λ off. exact p (restriction-off belongs c t off))
      (cases_Bool (belongs t)))) (exact p (boundary-none p g));
}

-- ---- a closed list

module _ (p : ℕ) (cells : List (List Factor)) (closed : IsClosedList cells) (once : AreApart cells) where
  test : (q : List Factor) → has cell_cmp cells q ≡ is_cell_of cells q
  test q = cmp.both_ways (has cell_cmp cells q) (is_cell_of cells q)
      (λ e. (cells_of_sets_are_closed.themselves cells closed q).1 (from_has cells q (sym (has_is cells q) ∙ e)))
      (λ e. has_is cells q ∙ has_from cells q ((cells_of_sets_are_closed.themselves cells closed q).0 e))

  same : complex_of_cells p cells ≡ complex_of_set p cells
  same = λ i. complex_on p (λ q. test q i)

  sums : (z : List Factor → ℕ) → sum_over (cells_of cells) z ≡ augmentation_over cells z
  sums z = of_set cells z ∙ sum_alike (cells_of cells) cells (apart (cells_of cells) (cells_are_faces.sorted cells)) once
      (λ q. ((λ w. (cells_of_sets_are_closed.themselves cells closed q).0 ((listed cells q).1 w)), (λ w. (listed cells q).0 ((cells_of_sets_are_closed.themselves cells closed q).1 w)))) z

  null_list : (k : ℕ) (z : List Factor → ℕ) → IsNull p (complex_of_set p cells) k z → IsNull p (complex_of_cells p cells) k z
  null_list k z = subst (λ (C : System (List Factor)). IsNull p C k z) (sym same)

  null_set : (k : ℕ) (z : List Factor → ℕ) → IsNull p (complex_of_cells p cells) k z → IsNull p (complex_of_set p cells) k z
  null_set k z = subst (λ (C : System (List Factor)). IsNull p C k z) same

  to_list : IsAcyclic p cells → IsAcyclicList p cells
  to_list a = record {
    some = a.some;
    points = λ c chain balanced. null_list 0 c (a.null 0 c (record {
      cycle = flat p (is_cell_of cells) c (subst (λ (C : System (List Factor)). IsChain p C 0 c) same chain);
      augmentation = λ z. same_trans (exact p (sums c)) balanced;
    }));
    cycles = λ k z high cycle. null_list k z (a.null k z (record {
      cycle = subst (λ (C : System (List Factor)). IsCycle p C k z) same cycle;
      augmentation = λ e. absurd (omega arith);
    }));
  }

  null_of : IsAcyclicList p cells → (k : ℕ) (z : List Factor → ℕ) → IsReducedCycle p cells k z → IsNull p (complex_of_set p cells) k z
  null_of l zero z r = null_set 0 z (l.points z (subst (λ (C : System (List Factor)). IsChain p C 0 z) (sym same) r.cycle.chain) (same_trans (exact p (sym (sums z))) (r.augmentation refl)))
  null_of l (suc k) z r = null_set (suc k) z (l.cycles (suc k) z (omega arith) (subst (λ (C : System (List Factor)). IsCycle p C (suc k) z) (sym same) r.cycle))

pub lists_and_sets : AcyclicListsAreSets
lists_and_sets p cells closed once = (
  λ a. to_list p cells closed once a,
  λ l. record { some = l.some; null = null_of p cells closed once l },
)

-- ---- sets with the same cells

module _ (p : ℕ) (x y : List (List Factor)) (alike : (q : List Factor) → is_cell_of x q ≡ is_cell_of y q) where
  same_set : complex_of_set p x ≡ complex_of_set p y
  same_set = λ i. complex_on p (λ q. alike q i)

  same_sums : (z : List Factor → ℕ) → sum_over (cells_of x) z ≡ sum_over (cells_of y) z
  same_sums z = of_set x z ∙ sum_alike (cells_of x) (cells_of y) (apart (cells_of x) (cells_are_faces.sorted x)) (apart (cells_of y) (cells_are_faces.sorted y))
      (λ q. ((λ w. (listed y q).0 (sym (alike q) ∙ (listed x q).1 w)), (λ w. (listed x q).0 (alike q ∙ (listed y q).1 w)))) z ∙ sym (of_set y z)

none : (x y : List (List Factor)) → ((q : List Factor) → is_cell_of x q ≡ is_cell_of y q) → y ≡ [] → x ≡ []
none [] y h e = refl
none (s ∷ x) y h e = absurd (true≢false (sym (list_any_at (λ r. is_face r s) (s ∷ x) 0 s (omega arith) (face_from s s (face_refl s))) ∙ h s ∙ ap (λ (r : List (List Factor)). is_cell_of r s) e))

pub of_cells : AcyclicityIsOfCells
of_cells p x y alike a = record {
  some = λ e. a.some (none x y alike e);
  null = λ k z r. subst (λ (C : System (List Factor)). IsNull p C k z) (same_set p x y alike) (a.null k z (record {
    cycle = subst (λ (C : System (List Factor)). IsCycle p C k z) (sym (same_set p x y alike)) r.cycle;
    augmentation = λ e. same_trans (exact p (same_sums p x y alike z)) (r.augmentation e);
  }));
}
