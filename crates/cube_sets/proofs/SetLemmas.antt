-- Sets of cells: their unions and intersections are sets, with the members that they are to have.
use Rattle.std.proofs.Common.{◌≡◌, ℕ, suc, ◌+◌, ◌<◌, ◌≤◌, ◌^◌, max, List, [], ◌∷◌, length, Bool, true, false, ◌&&◌, ◌||◌, refl, sym, ap, ◌∙◌, arith, ◌⊎◌, ⊎_elim, filter, IsTrue}
use Rattle.std.specs.List.{list_all}
use Rattle.std.specs.Cmp.{IsTotalOrder}
use Rattle.std.specs.Ordering.{is_eq}
use Rattle.std.specs.declared.cmp.Ordering.{Ordering}
use Rattle.std.specs.declared.cmp.Ordering.TheVariants.{Equal}
use Rattle.std.proofs.lemmas.Cmp.{alike_right}
use Rattle.std.proofs.lemmas.List.Kept.{IsStrictlySortedBy-filter}
use Rattle.std.proofs.lemmas.Bool.{cond_both}
use Rattle.std.proofs.lemmas.Bool.Decides.{nat_tests}
use Rattle.elem_cubes.specs.Order.{cell_cmp}
use Rattle.elem_cubes.specs.OrderLemmas.{cell_cmp_total}
use Rattle.cube_sets.specs.Sorted.{has, inserted, union_of, intersection_of}
use Rattle.cube_sets.specs.Sets.{Members, IsCubeSet, is_member, dimensions_agree}
use Rattle.cube_sets.proofs.Merging.{by_cases, sorted-union}
use Rattle.cube_sets.proofs.Sorting.{equal_from, and_true}
use Rattle.cube_sets.proofs.Steps.{union-most}

both_true : (a b : Bool) → a ≡ true → b ≡ true → (a && b) ≡ true
both_true a b h k = rw (h, k) refl

pub all-inserted : {K : Type 0} (cmp : K → K → Ordering) (p : K → Bool) (c : K) (xs : List K) → p c ≡ true → list_all p xs ≡ true → list_all p (inserted cmp c xs) ≡ true
all-inserted cmp p c [] h k = both_true (p c) true h refl
all-inserted cmp p c (x ∷ xs) h k =
    let both = and_true (p x) (list_all p xs) k in
    by_cases (λ ys. list_all p ys ≡ true) (cmp c x) _ _ _
    (λ _. both_true (p c) (list_all p (x ∷ xs)) h k)
    (λ _. k)
    (λ _. both_true (p x) (list_all p (inserted cmp c xs)) both.0 (all-inserted cmp p c xs h both.1))

pub all-union : {K : Type 0} (cmp : K → K → Ordering) (p : K → Bool) (xs ys : List K) → list_all p xs ≡ true → list_all p ys ≡ true → list_all p (union_of cmp xs ys) ≡ true
all-union cmp p [] ys h k = k
all-union cmp p (x ∷ xs) ys h k =
    let both = and_true (p x) (list_all p xs) h in
    all-inserted cmp p x (union_of cmp xs ys) both.0 (all-union cmp p xs ys both.1 k)

all-filtered : {K : Type 0} (p q : K → Bool) (xs : List K) → list_all p xs ≡ true → list_all p (filter q xs) ≡ true
all-filtered p q [] h = refl
all-filtered p q (x ∷ xs) h =
    let both = and_true (p x) (list_all p xs) h in
    let rest = all-filtered p q xs both.1 in
    cond_both (q x) (x ∷ filter q xs) (filter q xs) (λ ys. list_all p ys ≡ true) (λ _. both_true (p x) (list_all p (filter q xs)) both.0 rest) (λ _. rest)

length-filtered : {K : Type 0} (q : K → Bool) (xs : List K) → length (filter q xs) ≤ length xs
length-filtered q [] = omega arith
length-filtered q (x ∷ xs) =
    let rest = length-filtered q xs in
    cond_both (q x) (x ∷ filter q xs) (filter q xs) (λ ys. length ys ≤ suc (length xs)) (λ _. omega arith) (λ _. omega arith)

-- a list has equal values alike
pub has_alike : {K : Type 0} (cmp : K → K → Ordering) (o : IsTotalOrder cmp) (x c : K) (ys : List K) → cmp x c ≡ Equal → has cmp ys x ≡ has cmp ys c
has_alike cmp o x c [] e = refl
has_alike cmp o x c (y ∷ ys) e =
    let f : is_eq (cmp y x) ≡ is_eq (cmp y c) = ap is_eq (alike_right o x c y e) in rw (f, has_alike cmp o x c ys e) refl

spread_and : (a b c : Bool) → (a ≡ true → c ≡ true) → (a || (b && c)) ≡ ((a || b) && c)
spread_and true b c f = sym (f refl)
spread_and false b c f = refl

dropped_and : (a b c : Bool) → (a ≡ true → c ≡ false) → (b && c) ≡ ((a || b) && c)
dropped_and true true c f = refl
dropped_and true false c f = sym (f refl)
dropped_and false b c f = refl

pub has-intersection : {K : Type 0} (cmp : K → K → Ordering) (o : IsTotalOrder cmp) (xs ys : List K) (c : K)
    → has cmp (intersection_of cmp xs ys) c ≡ (has cmp xs c && has cmp ys c)
has-intersection cmp o [] ys c = refl
has-intersection cmp o (x ∷ xs) ys c =
    let rest = has-intersection cmp o xs ys c in
    cond_both (has cmp ys x) (x ∷ intersection_of cmp xs ys) (intersection_of cmp xs ys) (λ zs. has cmp zs c ≡ (has cmp (x ∷ xs) c && has cmp ys c))
    (λ t. ap (λ b. is_eq (cmp x c) || b) rest ∙ spread_and (is_eq (cmp x c)) (has cmp xs c) (has cmp ys c) (λ e. sym (has_alike cmp o x c ys (equal_from cmp o (cmp x c) e)) ∙ t))
    (λ f. rest ∙ dropped_and (is_eq (cmp x c)) (has cmp xs c) (has cmp ys c) (λ e. sym (has_alike cmp o x c ys (equal_from cmp o (cmp x c) e)) ∙ f))

-- the members of a set are of the larger of two dimensions that agree
widened : (a : Members) (n : ℕ) → IsCubeSet a → (a.dimension ≡ 0) ⊎ (a.dimension ≡ n) → list_all (is_member n) a.cells ≡ true
widened a n is h = ⊎_elim
    (λ e. ap (list_all (is_member n)) (is.unknown e))
    (λ e. ap (λ n. list_all (is_member n) a.cells) (sym e) ∙ is.alike) h

agree_cases : (a b : ℕ) → IsTrue (dimensions_agree a b) → ((a ≡ 0) ⊎ (a ≡ max a b)) × ((b ≡ 0) ⊎ (b ≡ max a b))
agree_cases a b h = grind (arith, nat_tests)

no_cells : {K : Type 0} (cmp : K → K → Ordering) (xs ys : List K) → xs ≡ [] → ys ≡ [] → union_of cmp xs ys ≡ []
no_cells cmp xs ys e f = ap (λ l. union_of cmp l ys) e ∙ f

pub union_is_set : (a b : Members) → IsCubeSet a → IsCubeSet b → IsTrue (dimensions_agree a.dimension b.dimension) → length a.cells + length b.cells < 2 ^ 32
    → IsCubeSet (record { dimension = max a.dimension b.dimension; cells = union_of cell_cmp a.cells b.cells })
union_is_set a b ia ib agree few = record {
  axes = let x = ia.axes in let y = ib.axes in omega arith;
  unknown = λ e. no_cells cell_cmp a.cells b.cells (ia.unknown (omega arith)) (ib.unknown (omega arith));
  alike = let cases = agree_cases a.dimension b.dimension agree in
      all-union cell_cmp (is_member (max a.dimension b.dimension)) a.cells b.cells (widened a _ ia cases.0) (widened b _ ib cases.1);
  sorted = sorted-union cell_cmp cell_cmp_total a.cells b.cells ib.sorted;
  few = omega (arith, union-most cell_cmp a.cells b.cells);
}

pub intersection_is_set : (a b : Members) → IsCubeSet a → IsCubeSet b → IsTrue (dimensions_agree a.dimension b.dimension)
    → IsCubeSet (record { dimension = max a.dimension b.dimension; cells = intersection_of cell_cmp a.cells b.cells })
intersection_is_set a b ia ib agree = record {
  axes = let x = ia.axes in let y = ib.axes in omega arith;
  unknown = λ e. ap (λ l. intersection_of cell_cmp l b.cells) (ia.unknown (omega arith));
  alike = let cases = agree_cases a.dimension b.dimension agree in
      all-filtered (is_member (max a.dimension b.dimension)) (has cell_cmp b.cells) a.cells (widened a _ ia cases.0);
  sorted = IsStrictlySortedBy-filter cell_cmp (has cell_cmp b.cells) a.cells ia.sorted;
  few = let x = ia.few in omega (arith, length-filtered (has cell_cmp b.cells) a.cells);
}
