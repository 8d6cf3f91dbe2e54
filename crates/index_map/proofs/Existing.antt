-- Each pair of sets has a basis of its homology, with its cocycles and its contraction.
use Rattle.std.proofs.Common.{◌≡◌, ℕ, zero, suc, ◌+◌, ◌*◌, ◌%◌, ◌^◌, ◌<◌, ◌≤◌, refl, sym, ap, ◌∙◌, subst, arith, ⊎_elim, List, [], ◌∷◌, ◌++◌, length, get_or, eq-eqb, ne_eqb, true, not, filter, Bool, false, cond}
use Rattle.std.specs.List.Sorted.{IsStrictlySortedBy}
use Rattle.std.proofs.Math.Nat.{mod-eq_of_lt}
use Rattle.std.proofs.lemmas.Bool.{cases_eq, cases_lt, le-ltb}
use Rattle.std.proofs.lemmas.List.{get_or_past}
use Rattle.std.proofs.lemmas.List.Kept.{IsStrictlySortedBy-filter}
use native.Mathlib.Nat.{mod-mod}
use Rattle.field_mod.specs.Sums.{total}
use Rattle.field_mod.specs.Modular.{Same, NonZero, IsField}
use Rattle.field_mod.proofs.Modular.{same_sym, same_trans}
use Rattle.elem_cubes.specs.Cells.{Factor}
use Rattle.elem_cubes.specs.Order.{cell_cmp}
use Rattle.elem_cubes.proofs.Modular.{exact}
use Rattle.chains.specs.Terms.{coefficient, IsNormal}
use Rattle.chains.specs.ChainComplex.{ChainComplex, IsComplex}
use Rattle.chains.proofs.TermLists.{coefficient-above, widened, named_at, number_at}
use Rattle.cube_sets.specs.Sorted.{has}
use Rattle.cube_sets.specs.Closures.{cells_of}
use Rattle.cube_sets.proofs.Covering.{cells_are_faces}
use Rattle.cell_complex.specs.RelativeComplex.{is_relative}
use Rattle.cell_complex.specs.Numbering.{IsListing, IsRelativeComplex}
use Rattle.cell_complex.proofs.Numbering.{numbered_cells_are_complex}
use Rattle.cell_complex.proofs.Deciding.{has_from, from_has}
use Rattle.cell_complex.proofs.Sorting.{apart}
use Rattle.cell_complex.proofs.Counting.{relative_cells}
use Rattle.algebraic_reduction.specs.Reduction.{Step, IsUnpaired, single}
use Rattle.algebraic_reduction.specs.Laws.{IsReduction, NothingLeft, include_of, project_of}
use Rattle.algebraic_reduction.proofs.Reductions.{steps_are_reductions}
use Rattle.algebraic_reduction.proofs.Residues.{same_zero}
use Rattle.algebraic_reduction.proofs.Singles.{single_chain}
use Rattle.acyclic_values.specs.Deciding.{FullReduction}
use Rattle.acyclic_values.proofs.Deciding.{listed_below, unpaired_or, complex_for, is_complex_for}
use Rattle.acyclic_values.proofs.Reducing.{reductions_exist}
use Rattle.homology_basis.specs.Bases.{BasisOfLog, IsBasisWithContraction, in_degree}
use Rattle.homology_basis.specs.Classes.{ClassOf, IsClass, AreClassesBelow}
use Rattle.homology_basis.proofs.Beginning.{some_term, is_class}
use Rattle.homology_basis.proofs.Collected.{none_below, stays, added}
use Rattle.homology_basis.proofs.Whole.{seen, whole}
use Rattle.index_map.specs.Deciding.{relative_list}

-- ---- lists by degree

abbrev pub tabulated : {X : Type 0} → ℕ → (ℕ → X) → List X
tabulated zero f = []
tabulated (suc n) f = f 0 ∷ tabulated n (λ i. f (suc i))

length-tabulated : {X : Type 0} (n : ℕ) (f : ℕ → X) → length (tabulated n f) ≡ n
length-tabulated zero f = refl
length-tabulated (suc n) f = ap (λ m. suc m) (length-tabulated n (λ i. f (suc i)))

get_or-tabulated : {X : Type 0} (n : ℕ) (f : ℕ → X) (i : ℕ) (d : X) → i < n → get_or (tabulated n f) i d ≡ f i
get_or-tabulated zero f i d l = absurd (omega arith)
get_or-tabulated (suc n) f zero d l = refl
get_or-tabulated (suc n) f (suc i) d l = get_or-tabulated n (λ j. f (suc j)) i d (omega arith)

-- a number that none of the list is above
abbrev pub above_all : List ℕ → ℕ
above_all [] = 0
above_all (d ∷ ds) = d + above_all ds

at_most : (ds : List ℕ) (i : ℕ) → get_or ds i 0 ≤ above_all ds
at_most [] i = omega arith
at_most (d ∷ ds) zero = omega arith
at_most (d ∷ ds) (suc i) = omega (arith, at_most ds i)

-- ---- the classes of a complex

module _ (p : ℕ) (K : ChainComplex) (ss : List Step) (field : IsField p) (cx : IsComplex p K) (r : IsReduction p K ss) (done : NothingLeft p K ss) where
  abbrev pub size : ℕ
  size = length K.boundaries

  two : 2 ≤ p
  two = field.above_one

  -- a chain on the generators as a list
  record Written (f : ℕ → ℕ) : Type 0 where
    terms : List (ℕ × ℕ)
    normal : IsNormal p terms
    below : (h : ℕ) → h < size → coefficient terms h ≡ f h % p
    past : (h : ℕ) → size ≤ h → coefficient terms h ≡ 0

  written : (f : ℕ → ℕ) → Written f
  written f =
      let l = listed_below p size f (omega (arith, two)) in
      record { terms = l.terms; normal = widened p 0 size (2 ^ 32) l.terms l.normal (omega (arith, cx.short)); below = l.below; past = λ h q. coefficient-above p 0 size l.terms h l.normal q }

  same_as : (x y : ℕ) → x ≡ y % p → Same p x y
  same_as x y e = record { same = ap (λ v. v % p) e ∙ mod-mod y p }

  module _ (g : ℕ) (inside : g < size) (left : IsUnpaired ss g) where
    abbrev x : List (ℕ × ℕ)
    x = (g, 1) ∷ []

    one : (h : ℕ) → Same p (coefficient x h) (single g h)
    one h = ⊎_elim
        (λ e. exact p (there h e))
        (λ f. exact p (elsewhere h f))
        (cases_eq h g)
      where
        there : (h : ℕ) → h ≡ g → coefficient x h ≡ single g h
        there h e = rw (eq-eqb g h (sym e), eq-eqb h g e) refl

        elsewhere : (h : ℕ) → (h ≡ g → ⊥) → coefficient x h ≡ single g h
        elsewhere h f = let a = ne_eqb g h (λ e. f (sym e)) in let b = ne_eqb h g f in rw a (rw b refl)

    abbrev included : ℕ → ℕ
    included = include_of p K ss (coefficient x)

    included_past : (h : ℕ) → size ≤ h → Same p (included h) 0
    included_past h l = same_trans (r.include_same (coefficient x) (single g) one h) ((r.include_degree (get_or K.degrees g 0) (single g) (single_chain p K g inside)).on h (le-ltb h size l))

    inclusion : (h : ℕ) → Same p (coefficient (written included).terms h) (included h)
    inclusion h = ⊎_elim
        (λ l. same_as (coefficient (written included).terms h) (included h) ((written included).below h l))
        (λ m. same_trans (exact p ((written included).past h m)) (same_sym (included_past h m)))
        (cases_lt h size)

    abbrev ι : List (ℕ × ℕ)
    ι = (written included).terms

    some : 0 < length ι
    some = some_term p K ss g two r left x ι one inclusion

    -- the first coefficient, and its inverse
    abbrev first : ℕ
    first = (get_or ι 0 (0, 0)).1

    first_nonzero : NonZero p first
    first_nonzero s = let e = same_zero p first (number_at p 0 (2 ^ 32) ι 0 (written included).normal some) s in let n = (named_at p 0 (2 ^ 32) ι 0 (written included).normal some).1 in absurd (omega arith)

    abbrev by : ℕ
    by = (field.inverse first first_nonzero).0

    unit : (by * first) % p ≡ 1
    unit = (field.inverse first first_nonzero).1.same ∙ mod-eq_of_lt (omega (arith, two))

    abbrev cycle : ℕ → ℕ
    cycle h = by * coefficient ι h

    abbrev cocycle : ℕ → ℕ
    cocycle h = first * total size (λ t. coefficient x t * project_of p K ss (single h) t)

    cycle_is : (h : ℕ) → coefficient (written cycle).terms h ≡ (by * coefficient ι h) % p
    cycle_is h = ⊎_elim
        (λ l. (written cycle).below h l)
        (λ m. (written cycle).past h m ∙ sym (ap (λ v. (by * v) % p) ((written included).past h m) ∙ ap (λ v. v % p) (let e : by * 0 ≡ 0 = omega arith in e) ∙ mod-eq_of_lt (omega (arith, two))))
        (cases_lt h size)

    cocycle_past : (h : ℕ) → size ≤ h → Same p (coefficient (written cocycle).terms h) (first * coefficient x h)
    cocycle_past h m = exact p ((written cocycle).past h m ∙ sym (ap (λ v. first * v) (absent h m) ∙ omega arith))
      where
        absent : (h : ℕ) → size ≤ h → coefficient x h ≡ 0
        absent h m = let a = ne_eqb g h (λ e. absurd (omega (arith, e, inside, m))) in rw a refl

    abbrev the_class : ClassOf
    the_class = record { generator = g; cycle = (written cycle).terms; cocycle = (written cocycle).terms }

    class_is : IsClass p K ss true the_class
    class_is = is_class p K ss g two r left x ι one inclusion true (written cycle).terms (written cocycle).terms by first inside unit refl (written included).normal (written cycle).normal (written cocycle).normal cycle_is
        (λ on h l. same_as (coefficient (written cocycle).terms h) (cocycle h) ((written cocycle).below h l)) (λ on h m. cocycle_past h m)

  -- the classes of degree k among the generators below b
  pub record Classes (k b : ℕ) : Type 0 where
    pub list : List ClassOf
    pub are : AreClassesBelow p K ss true b k list

  one_more : (k b : ℕ) → b < size → Classes k b → Classes k (b + 1)
  one_more k b l c = ⊎_elim
      (λ e. ⊎_elim
      (λ u. record { list = c.list ++ the_class b l u ∷ []; are = added p K ss true b k c.list (the_class b l u) c.are (class_is b l u) refl e })
      (λ paired. record { list = c.list; are = stays p K ss true b k c.list c.are (λ _ u. paired u) })
      (unpaired_or ss b))
      (λ f. record { list = c.list; are = stays p K ss true b k c.list c.are (λ e _. f e) })
      (cases_eq (get_or K.degrees b 0) k)

  pub classes : (k b : ℕ) → b ≤ size → Classes k b
  classes k zero l = record { list = []; are = none_below p K ss true k }
  classes k (suc b) l = subst (Classes k) (let e : b + 1 ≡ suc b = omega arith in e) (one_more k b (omega arith) (classes k b (omega arith)))

  abbrev pub top : ℕ
  top = above_all K.degrees + 1

  abbrev pub by_degree : List (List ClassOf)
  by_degree = tabulated top (λ k. (classes k size (omega arith)).list)

  -- no generator is above the top
  none_above : (k : ℕ) → top ≤ k → AreClassesBelow p K ss true size k []
  none_above k l = record {
    few = omega arith;
    each = λ i d q. absurd (omega arith);
    below = λ i d q. absurd (omega arith);
    of_degree = λ i d q. absurd (omega arith);
    ascending = λ i j d m q. absurd (omega arith);
    all = λ g d q m e u. absurd (omega (arith, l, at_most K.degrees g, e));
  }

  all_classes : (k : ℕ) → AreClassesBelow p K ss true size k (in_degree by_degree k)
  all_classes k = ⊎_elim
      (λ l. subst (AreClassesBelow p K ss true size k) (sym (get_or-tabulated top (λ j. (classes j size (omega arith)).list) k [] l)) (classes k size (omega arith)).are)
      (λ m. subst (AreClassesBelow p K ss true size k) (sym (get_or_past by_degree k [] (omega (arith, m, length-tabulated top (λ j. (classes j size (omega arith)).list))))) (none_above k m))
      (cases_lt k top)

  pub is_basis : IsBasisWithContraction p (seen K ss by_degree)
  is_basis = whole p K ss true two cx r done by_degree all_classes refl

-- ---- the basis of a pair

pub relative_sorted : (x a : List (List Factor)) → IsStrictlySortedBy cell_cmp (relative_list x a)
relative_sorted x a = IsStrictlySortedBy-filter cell_cmp (λ q. not (has cell_cmp (cells_of a) q)) (cells_of x) (cells_are_faces.sorted x)

pub relative_listing : (x a : List (List Factor)) → IsListing (is_relative x a) (relative_list x a)
relative_listing x a = record {
  members = λ q. (
    λ e. from_has (relative_list x a) q (relative_cells x a (cells_of x) (cells_of a) refl refl q ∙ e),
    λ w. sym (relative_cells x a (cells_of x) (cells_of a) refl refl q) ∙ has_from (relative_list x a) q w,
  );
  once = apart (relative_list x a) (relative_sorted x a);
}

shorter : {X : Type 0} (test : X → Bool) (xs : List X) → length (filter test xs) ≤ length xs
shorter test [] = omega arith
shorter test (x ∷ xs) = elim (test x) as (λ b. length (cond b (x ∷ filter test xs) (filter test xs)) ≤ suc (length xs)) [
  | true ↦ omega (arith, shorter test xs)
  | false ↦ omega (arith, shorter test xs)
]

-- a basis of the homology of the pair, by the numbers of its relative cells in order
pub record PairBasis (p : ℕ) (x a : List (List Factor)) : Type 0 where
  pub basis : BasisOfLog
  pub relative : IsRelativeComplex p x a (relative_list x a) basis.log.complex
  pub is_basis : IsBasisWithContraction p basis

from_reduction : (p : ℕ) (x a : List (List Factor)) (K : ChainComplex) → IsField p → IsRelativeComplex p x a (relative_list x a) K → IsComplex p K → (f : FullReduction p K) → PairBasis p x a
from_reduction p x a K field relative cx f =
    let r = steps_are_reductions p K f.steps field.above_one cx f.made in
    record { basis = seen K f.steps (by_degree p K f.steps field cx r f.nothing); relative = relative; is_basis = is_basis p K f.steps field cx r f.nothing }

pub basis_exists : (p : ℕ) (x a : List (List Factor)) → IsField p → length (cells_of x) < 2 ^ 32 → PairBasis p x a
basis_exists p x a field few =
    let one : 1 ≤ p = omega (arith, field.above_one) in
    let K : ChainComplex = complex_for p one (relative_list x a) in
    let relative : IsRelativeComplex p x a (relative_list x a) K = record {
      listing = relative_listing x a;
      complex = is_complex_for p one (relative_list x a) (omega (arith, shorter (λ q. not (has cell_cmp (cells_of a) q)) (cells_of x), few));
    } in
    let cx = numbered_cells_are_complex p x a (relative_list x a) K one relative in
    from_reduction p x a K field relative cx (reductions_exist p K field cx)
