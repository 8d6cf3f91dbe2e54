-- Sorted lists: what one more value does, and the steps of a merge.
use Rattle.std.proofs.Common.{◌≡◌, List, [], ◌∷◌, Bool, true, false, ◌||◌, refl, ap, ◌∙◌}
use Rattle.std.specs.List.{AllByRecursion}
use Rattle.std.specs.List.Sorted.{IsStrictlySortedBy}
use Rattle.std.specs.Cmp.{IsTotalOrder}
use Rattle.std.specs.Ordering.{is_eq, ordering_reverse}
use Rattle.std.specs.declared.cmp.Ordering.{Ordering}
use Rattle.std.specs.declared.cmp.Ordering.TheVariants.{Less, Equal, Greater}
use Rattle.cube_sets.specs.Sorted.{has, by_order, inserted, union_of}

-- below every value of the list
abbrev pub IsBelow : {K : Type 0} → (K → K → Ordering) → K → List K → Type 0
IsBelow cmp c xs = AllByRecursion (λ y. cmp c y ≡ Less) xs

pub by_cases : {A : Type 0} (P : A → Type 0) (o : Ordering) (a b c : A) → (o ≡ Less → P a) → (o ≡ Equal → P b) → (o ≡ Greater → P c) → P (by_order o a b c)
by_cases P Less a b c f g h = f refl
by_cases P Equal a b c f g h = g refl
by_cases P Greater a b c f g h = h refl

pub twice : (b h : Bool) → (b || h) ≡ (b || (b || h))
twice true h = refl
twice false h = refl

pub swapped : (a b h : Bool) → (a || (b || h)) ≡ (b || (a || h))
swapped true true h = refl
swapped true false h = refl
swapped false b h = refl

pub or_assoc : (a b h : Bool) → (a || (b || h)) ≡ ((a || b) || h)
or_assoc true b h = refl
or_assoc false b h = refl

module _ {K : Type 0} (cmp : K → K → Ordering) (o : IsTotalOrder cmp) where
  pub above : (x y : K) → cmp x y ≡ Greater → cmp y x ≡ Less
  above x y e = o.antisymm y x ∙ ap ordering_reverse e

  pub above' : (x y : K) → cmp x y ≡ Less → cmp y x ≡ Greater
  above' x y e = o.antisymm y x ∙ ap ordering_reverse e

  pub same' : (x y : K) → cmp x y ≡ Equal → cmp y x ≡ Equal
  same' x y e = o.antisymm y x ∙ ap ordering_reverse e

  pub below_further : (x y : K) (ys : List K) → cmp x y ≡ Less → IsBelow cmp y ys → IsBelow cmp x ys
  below_further x y [] e h = tt
  below_further x y (z ∷ zs) e h = (o.trans x y z e h.0, below_further x y zs e h.1)

  pub below_same : (x y : K) (ys : List K) → cmp x y ≡ Equal → IsBelow cmp y ys → IsBelow cmp x ys
  below_same x y [] e h = tt
  below_same x y (z ∷ zs) e h = (o.congr x y z e ∙ h.0, below_same x y zs e h.1)

  pub has-inserted : (c : K) (xs : List K) (d : K) → has cmp (inserted cmp c xs) d ≡ (is_eq (cmp c d) || has cmp xs d)
  has-inserted c [] d = refl
  has-inserted c (x ∷ xs) d =
      by_cases (λ ys. has cmp ys d ≡ (is_eq (cmp c d) || has cmp (x ∷ xs) d)) (cmp c x) _ _ _
      (λ e. refl)
      (λ e. let f : is_eq (cmp c d) ≡ is_eq (cmp x d) = ap is_eq (o.congr c x d e) in rw f (twice (is_eq (cmp x d)) (has cmp xs d)))
      (λ e. ap (λ b. is_eq (cmp x d) || b) (has-inserted c xs d) ∙ swapped (is_eq (cmp x d)) (is_eq (cmp c d)) (has cmp xs d))

  below-inserted : (z c : K) (xs : List K) → cmp z c ≡ Less → IsBelow cmp z xs → IsBelow cmp z (inserted cmp c xs)
  below-inserted z c [] e h = (e, tt)
  below-inserted z c (x ∷ xs) e h =
      by_cases (IsBelow cmp z) (cmp c x) _ _ _ (λ _. (e, h)) (λ _. h) (λ _. (h.0, below-inserted z c xs e h.1))

  pub sorted-inserted : (c : K) (xs : List K) → IsStrictlySortedBy cmp xs → IsStrictlySortedBy cmp (inserted cmp c xs)
  unfolding IsStrictlySortedBy
  sorted-inserted c [] h = (tt, tt)
  sorted-inserted c (x ∷ xs) h =
      by_cases (IsStrictlySortedBy cmp) (cmp c x) _ _ _
      (λ e. ((e, below_further c x xs e h.0), h))
      (λ _. h)
      (λ e. (below-inserted x c xs (above c x e) h.0, sorted-inserted c xs h.1))

  pub inserted_front : (c : K) (xs : List K) → IsBelow cmp c xs → inserted cmp c xs ≡ c ∷ xs
  inserted_front c [] h = refl
  inserted_front c (x ∷ xs) h = ap (λ a. by_order a (c ∷ x ∷ xs) (x ∷ xs) (x ∷ inserted cmp c xs)) h.0

  below-union : (z : K) (xs ys : List K) → IsBelow cmp z xs → IsBelow cmp z ys → IsBelow cmp z (union_of cmp xs ys)
  below-union z [] ys h k = k
  below-union z (x ∷ xs) ys h k = below-inserted z x (union_of cmp xs ys) h.0 (below-union z xs ys h.1 k)

  pub sorted-union : (xs ys : List K) → IsStrictlySortedBy cmp ys → IsStrictlySortedBy cmp (union_of cmp xs ys)
  sorted-union [] ys h = h
  sorted-union (x ∷ xs) ys h = sorted-inserted x (union_of cmp xs ys) (sorted-union xs ys h)

  pub has-union : (xs ys : List K) (d : K) → has cmp (union_of cmp xs ys) d ≡ (has cmp xs d || has cmp ys d)
  has-union [] ys d = refl
  has-union (x ∷ xs) ys d =
      has-inserted x (union_of cmp xs ys) d ∙ ap (λ b. is_eq (cmp x d) || b) (has-union xs ys d) ∙ or_assoc (is_eq (cmp x d)) (has cmp xs d) (has cmp ys d)

  pub union-nil : (xs : List K) → IsStrictlySortedBy cmp xs → union_of cmp xs [] ≡ xs
  unfolding IsStrictlySortedBy
  union-nil [] h = refl
  union-nil (x ∷ xs) h = ap (inserted cmp x) (union-nil xs h.1) ∙ inserted_front x xs h.0

  -- the first of the left list is the least of all
  pub union_left : (x y : K) (xs ys : List K) → cmp x y ≡ Less → IsStrictlySortedBy cmp (x ∷ xs) → IsStrictlySortedBy cmp (y ∷ ys)
      → union_of cmp (x ∷ xs) (y ∷ ys) ≡ x ∷ union_of cmp xs (y ∷ ys)
  unfolding IsStrictlySortedBy
  union_left x y xs ys e h k = inserted_front x (union_of cmp xs (y ∷ ys)) (below-union x xs (y ∷ ys) h.0 (e, below_further x y ys e k.0))

  right_first : (y : K) (xs ys : List K) → IsBelow cmp y xs → union_of cmp xs (y ∷ ys) ≡ y ∷ union_of cmp xs ys
  right_first y [] ys h = refl
  right_first y (x ∷ xs) ys h =
      ap (inserted cmp x) (right_first y xs ys h.1)
      ∙ ap (λ a. by_order a (x ∷ y ∷ union_of cmp xs ys) (y ∷ union_of cmp xs ys) (y ∷ inserted cmp x (union_of cmp xs ys))) (above' y x h.0)

  -- the first of the right list is the least of all
  pub union_right : (x y : K) (xs ys : List K) → cmp x y ≡ Greater → IsStrictlySortedBy cmp (x ∷ xs)
      → union_of cmp (x ∷ xs) (y ∷ ys) ≡ y ∷ union_of cmp (x ∷ xs) ys
  unfolding IsStrictlySortedBy
  union_right x y xs ys e h = right_first y (x ∷ xs) ys (above x y e, below_further y x xs (above x y e) h.0)

  -- both lists begin alike
  pub union_both : (x y : K) (xs ys : List K) → cmp x y ≡ Equal → IsStrictlySortedBy cmp (x ∷ xs)
      → union_of cmp (x ∷ xs) (y ∷ ys) ≡ y ∷ union_of cmp xs ys
  unfolding IsStrictlySortedBy
  union_both x y xs ys e h =
      ap (inserted cmp x) (right_first y xs ys (below_same y x xs (same' x y e) h.0))
      ∙ ap (λ a. by_order a (x ∷ y ∷ union_of cmp xs ys) (y ∷ union_of cmp xs ys) (y ∷ inserted cmp x (union_of cmp xs ys))) e
