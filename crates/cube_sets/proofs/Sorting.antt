-- What a sort, the removal of repeats and a binary search say of the members of a list.
use Rattle.std.proofs.Common.{◌≡◌, ℕ, zero, suc, ◌+◌, ◌<◌, List, [], ◌∷◌, length, get_or, Bool, true, false, ◌||◌, ◌&&◌, refl, sym, ap, ◌∙◌, arith, Result, Ok, Err, is_ok, ⊎_elim}
use Rattle.std.specs.List.{list_all, dedup, dedup_from, AllByRecursion}
use Rattle.std.specs.List.Sorted.{IsStrictlySortedBy, IsSorted, IsPermutation, IsBinarySearchResult, IsSearchInRange}
use Rattle.std.specs.Cmp.{IsTotalOrder}
use Rattle.std.specs.Ordering.{is_eq, is_lt, ordering_reverse, eq_by_cmp}
use Rattle.std.specs.declared.cmp.Ordering.{Ordering}
use Rattle.std.specs.declared.cmp.Ordering.TheVariants.{Less, Equal, Greater}
use Rattle.std.proofs.lemmas.Bool.{cond_both, cases_lt}
use Rattle.std.proofs.lemmas.List.Elements.{All-from_recursion, recursion_from_All}
use Rattle.std.proofs.lemmas.List.Filters.{All-dedup}
use Rattle.std.proofs.lemmas.List.Folds.{list_any_at, list_any_none}
use Rattle.std.proofs.lemmas.List.Sorted.{searchable_from_sorted, All-permutation}
use Rattle.cube_sets.specs.Sorted.{has}
use Rattle.cube_sets.proofs.Merging.{twice}

pub and_true : (a b : Bool) → (a && b) ≡ true → (a ≡ true) × (b ≡ true)
and_true true b h = (refl, h)
and_true false b h = cc

module _ {K : Type 0} (cmp : K → K → Ordering) (o : IsTotalOrder cmp) where
  -- in a sorted list no value is below one before it
  sorted_far : (xs : List K) → IsStrictlySortedBy cmp xs → (i j : ℕ) (d : K) → i < j → j < length xs → cmp (get_or xs i d) (get_or xs j d) ≡ Less
  unfolding IsStrictlySortedBy
  sorted_far [] h i j d lt within = absurd (omega arith)
  sorted_far (x ∷ xs) h zero zero d lt within = absurd (omega arith)
  sorted_far (x ∷ xs) h zero (suc j) d lt within = All-from_recursion (λ y. cmp x y ≡ Less) xs h.0 j d (omega arith)
  sorted_far (x ∷ xs) h (suc i) zero d lt within = absurd (omega arith)
  sorted_far (x ∷ xs) h (suc i) (suc j) d lt within = sorted_far xs h.1 i j d (omega arith) (omega arith)

  is_sorted : (xs : List K) → IsStrictlySortedBy cmp xs → IsSorted cmp xs
  is_sorted xs h k d low within =
      let e : cmp (get_or xs k d) (get_or xs (k + 1) d) ≡ Less = sorted_far xs h k (k + 1) d (omega arith) within in
      ap is_lt (o.antisymm (get_or xs (k + 1) d) (get_or xs k d)) ∙ ap (λ a. is_lt (ordering_reverse a)) e

  not_equal_less : (a : Ordering) → a ≡ Less → is_eq a ≡ false
  not_equal_less a e = ap is_eq e

  not_equal_greater : (a : Ordering) → a ≡ Greater → is_eq a ≡ false
  not_equal_greater a e = ap is_eq e

  pub search_has : (xs : List K) (x : K) (r : Result ℕ ℕ) → IsStrictlySortedBy cmp xs → IsSearchInRange r (length xs)
      → IsBinarySearchResult (λ y. cmp y x) xs r → is_ok r ≡ has cmp xs x
  search_has xs x (Ok i) h within is = sym (list_any_at (λ y. is_eq (cmp y x)) xs i x within (ap is_eq (is x)))
  search_has xs x (Err i) h within is =
      let split = is (searchable_from_sorted o (λ y. y) xs x (is_sorted xs h)) in
      sym (list_any_none (λ y. is_eq (cmp y x)) xs (λ k d inside. ⊎_elim
      (λ lt. not_equal_less (cmp (get_or xs k d) x) (split.0 k d (omega arith) lt))
      (λ le. not_equal_greater (cmp (get_or xs k d) x) (split.1 k d le inside)) (cases_lt k i)))

  pub equal_from : (a : Ordering) → is_eq a ≡ true → a ≡ Equal
  equal_from Less e = cc
  equal_from Equal e = refl
  equal_from Greater e = cc

  has-dedup_from : (E : K → K → Bool) → ((x y : K) → E x y ≡ eq_by_cmp cmp x y) → (k : K) (xs : List K) (d : K)
      → has cmp (dedup_from E k xs) d ≡ (is_eq (cmp k d) || has cmp xs d)
  has-dedup_from E ties k [] d = refl
  has-dedup_from E ties k (x ∷ xs) d =
      cond_both (E x k) (dedup_from E k xs) (k ∷ dedup_from E x xs) (λ ys. has cmp ys d ≡ (is_eq (cmp k d) || (is_eq (cmp x d) || has cmp xs d)))
      (λ t.
      let f : is_eq (cmp x d) ≡ is_eq (cmp k d) = ap is_eq (o.congr x k d (equal_from (cmp x k) (sym (ties x k) ∙ t))) in
      has-dedup_from E ties k xs d ∙ rw f (twice (is_eq (cmp k d)) (has cmp xs d)))
      (λ _. ap (λ b. is_eq (cmp k d) || b) (has-dedup_from E ties x xs d))

  pub has-dedup : (E : K → K → Bool) → ((x y : K) → E x y ≡ eq_by_cmp cmp x y) → (xs : List K) (d : K) → has cmp (dedup E xs) d ≡ has cmp xs d
  has-dedup E ties [] d = refl
  has-dedup E ties (x ∷ xs) d = has-dedup_from E ties x xs d

all_from_test : {K : Type 0} (p : K → Bool) (xs : List K) → list_all p xs ≡ true → AllByRecursion (λ x. p x ≡ true) xs
all_from_test p [] h = tt
all_from_test p (x ∷ xs) h = let both = and_true (p x) (list_all p xs) h in (both.0, all_from_test p xs both.1)

test_from_all : {K : Type 0} (p : K → Bool) (xs : List K) → AllByRecursion (λ x. p x ≡ true) xs → list_all p xs ≡ true
test_from_all p [] h = refl
test_from_all p (x ∷ xs) h = rw (h.0, test_from_all p xs h.1) refl

pub all_kept : {K : Type 0} (p : K → Bool) (E : K → K → Bool) (xs ys : List K) → IsPermutation xs ys → list_all p xs ≡ true → list_all p (dedup E ys) ≡ true
all_kept {K} p E xs ys moved h =
    let P : K → Type 0 = λ x. p x ≡ true in
    test_from_all p (dedup E ys) (recursion_from_All P _ (All-dedup E P ys (All-permutation P xs ys moved (All-from_recursion P xs (all_from_test p xs h)))))
