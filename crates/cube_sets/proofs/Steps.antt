-- The steps of a merge of two sorted lists, at a place in each.
use Rattle.std.proofs.Common.{◌≡◌, ℕ, zero, suc, ◌+◌, ◌<◌, ◌≤◌, List, [], ◌∷◌, ◌++◌, length, drop, get_or, true, false, cond, refl, sym, ap, ◌∙◌, subst, arith, append_assoc, length-append, length-drop, ◌⊎◌, ⊎_elim, Option, None, Some, IfNone, IsSome, rules}
use Rattle.std.specs.List.Sorted.{IsStrictlySortedBy}
use Rattle.std.specs.Cmp.{IsTotalOrder}
use Rattle.std.specs.Ordering.{is_eq}
use Rattle.std.specs.declared.cmp.Ordering.{Ordering}
use Rattle.std.specs.declared.cmp.Ordering.TheVariants.{Less, Equal, Greater}
use Rattle.std.proofs.lemmas.Bool.{cases_lt}
use Rattle.std.proofs.lemmas.List.{drop_more, drop_all, append-nil}
use Rattle.cube_sets.specs.Sorted.{has, inserted, union_of, intersection_of}
use Rattle.cube_sets.proofs.Merging.{IsBelow, by_cases, above, above', same', below_further, below_same, union_left, union_right, union_both, union-nil}

pub sorted-drop : {K : Type 0} (cmp : K → K → Ordering) (n : ℕ) (xs : List K) → IsStrictlySortedBy cmp xs → IsStrictlySortedBy cmp (drop n xs)
unfolding IsStrictlySortedBy
sorted-drop cmp zero xs h = h
sorted-drop cmp (suc n) [] h = h
sorted-drop cmp (suc n) (x ∷ xs) h = sorted-drop cmp n xs h.1

regrouped : {K : Type 0} (out more : List K) (x : K) → (out ++ x ∷ []) ++ more ≡ out ++ x ∷ more
regrouped out more x = append_assoc out (x ∷ []) more

length-inserted : {K : Type 0} (cmp : K → K → Ordering) (c : K) (xs : List K) → length xs ≤ length (inserted cmp c xs)
length-inserted cmp c [] = omega arith
length-inserted cmp c (x ∷ xs) =
    let rest = length-inserted cmp c xs in
    by_cases (λ ys. suc (length xs) ≤ length ys) (cmp c x) _ _ _ (λ _. omega arith) (λ _. omega arith) (λ _. omega arith)

pub length-union : {K : Type 0} (cmp : K → K → Ordering) (xs ys : List K) → length ys ≤ length (union_of cmp xs ys)
length-union cmp [] ys = omega arith
length-union cmp (x ∷ xs) ys =
    let rest = length-union cmp xs ys in
    let one = length-inserted cmp x (union_of cmp xs ys) in omega arith

module _ {K : Type 0} (cmp : K → K → Ordering) (o : IsTotalOrder cmp) where
  -- at two places, the lists go on with these values
  pub merge_less : (xs ys out : List K) (i j : ℕ) (x y : K) → i < length xs → j < length ys → x ≡ get_or xs i x → y ≡ get_or ys j y
      → cmp x y ≡ Less → IsStrictlySortedBy cmp xs → IsStrictlySortedBy cmp ys
      → (out ++ x ∷ []) ++ union_of cmp (drop (i + 1) xs) (drop j ys) ≡ out ++ union_of cmp (drop i xs) (drop j ys)
  merge_less xs ys out i j x y li lj ex ey e h k =
      let dx : drop i xs ≡ x ∷ drop (i + 1) xs = drop_more xs i x li ∙ ap (λ z. z ∷ drop (i + 1) xs) (sym ex) in
      let dy : drop j ys ≡ y ∷ drop (j + 1) ys = drop_more ys j y lj ∙ ap (λ z. z ∷ drop (j + 1) ys) (sym ey) in
      let sx : IsStrictlySortedBy cmp (x ∷ drop (i + 1) xs) = subst (IsStrictlySortedBy cmp) dx (sorted-drop cmp i xs h) in
      let sy : IsStrictlySortedBy cmp (y ∷ drop (j + 1) ys) = subst (IsStrictlySortedBy cmp) dy (sorted-drop cmp j ys k) in
      regrouped out (union_of cmp (drop (i + 1) xs) (drop j ys)) x
      ∙ ap (λ l. out ++ x ∷ union_of cmp (drop (i + 1) xs) l) dy
      ∙ ap (λ l. out ++ l) (sym (union_left cmp o x y (drop (i + 1) xs) (drop (j + 1) ys) e sx sy))
      ∙ ap (λ l. out ++ union_of cmp (x ∷ drop (i + 1) xs) l) (sym dy)
      ∙ ap (λ l. out ++ union_of cmp l (drop j ys)) (sym dx)

  pub merge_equal : (xs ys out : List K) (i j : ℕ) (x y : K) → i < length xs → j < length ys → x ≡ get_or xs i x → y ≡ get_or ys j y
      → cmp x y ≡ Equal → IsStrictlySortedBy cmp xs → IsStrictlySortedBy cmp ys
      → (out ++ y ∷ []) ++ union_of cmp (drop (i + 1) xs) (drop (j + 1) ys) ≡ out ++ union_of cmp (drop i xs) (drop j ys)
  merge_equal xs ys out i j x y li lj ex ey e h k =
      let dx : drop i xs ≡ x ∷ drop (i + 1) xs = drop_more xs i x li ∙ ap (λ z. z ∷ drop (i + 1) xs) (sym ex) in
      let dy : drop j ys ≡ y ∷ drop (j + 1) ys = drop_more ys j y lj ∙ ap (λ z. z ∷ drop (j + 1) ys) (sym ey) in
      let sx : IsStrictlySortedBy cmp (x ∷ drop (i + 1) xs) = subst (IsStrictlySortedBy cmp) dx (sorted-drop cmp i xs h) in
      regrouped out (union_of cmp (drop (i + 1) xs) (drop (j + 1) ys)) y
      ∙ ap (λ l. out ++ l) (sym (union_both cmp o x y (drop (i + 1) xs) (drop (j + 1) ys) e sx))
      ∙ ap (λ l. out ++ union_of cmp (x ∷ drop (i + 1) xs) l) (sym dy)
      ∙ ap (λ l. out ++ union_of cmp l (drop j ys)) (sym dx)

  pub merge_greater : (xs ys out : List K) (i j : ℕ) (x y : K) → i < length xs → j < length ys → x ≡ get_or xs i x → y ≡ get_or ys j y
      → cmp x y ≡ Greater → IsStrictlySortedBy cmp xs → IsStrictlySortedBy cmp ys
      → (out ++ y ∷ []) ++ union_of cmp (drop i xs) (drop (j + 1) ys) ≡ out ++ union_of cmp (drop i xs) (drop j ys)
  merge_greater xs ys out i j x y li lj ex ey e h k =
      let dx : drop i xs ≡ x ∷ drop (i + 1) xs = drop_more xs i x li ∙ ap (λ z. z ∷ drop (i + 1) xs) (sym ex) in
      let dy : drop j ys ≡ y ∷ drop (j + 1) ys = drop_more ys j y lj ∙ ap (λ z. z ∷ drop (j + 1) ys) (sym ey) in
      let sx : IsStrictlySortedBy cmp (x ∷ drop (i + 1) xs) = subst (IsStrictlySortedBy cmp) dx (sorted-drop cmp i xs h) in
      regrouped out (union_of cmp (drop i xs) (drop (j + 1) ys)) y
      ∙ ap (λ l. out ++ y ∷ union_of cmp l (drop (j + 1) ys)) dx
      ∙ ap (λ l. out ++ l) (sym (union_right cmp o x y (drop (i + 1) xs) (drop (j + 1) ys) e sx))
      ∙ ap (λ l. out ++ union_of cmp (x ∷ drop (i + 1) xs) l) (sym dy)
      ∙ ap (λ l. out ++ union_of cmp l (drop j ys)) (sym dx)

  -- where both lists go on, the merge is longer than what is made
  pub longer : (xs ys out all : List K) (j : ℕ) → j < length ys → out ++ union_of cmp xs (drop j ys) ≡ all → length out < length all
  longer xs ys out all j lj e = let l = length-union cmp xs (drop j ys) in omega (arith, ap length e, length-append out (union_of cmp xs (drop j ys)), length-drop j ys)

  -- what is left of one list, where the other is at its end
  pub rest_left : (xs ys : List K) (i j : ℕ) → length ys ≤ j → IsStrictlySortedBy cmp xs → union_of cmp (drop i xs) (drop j ys) ≡ drop i xs
  rest_left xs ys i j le h = ap (union_of cmp (drop i xs)) (drop_all j ys le) ∙ union-nil cmp o (drop i xs) (sorted-drop cmp i xs h)

  pub rest_right : (xs ys : List K) (i j : ℕ) → length xs ≤ i → union_of cmp (drop i xs) (drop j ys) ≡ drop j ys
  rest_right xs ys i j le = ap (λ l. union_of cmp l (drop j ys)) (drop_all i xs le)

  -- the merge, and then what is left of the list that is not at its end
  pub rest_is : (xs ys out rest all : List K) (i j : ℕ) → (length xs ≤ i) ⊎ (length ys ≤ j) → IsStrictlySortedBy cmp xs
      → (i < length xs → rest ≡ drop i xs) → (length xs ≤ i → rest ≡ drop j ys)
      → out ++ union_of cmp (drop i xs) (drop j ys) ≡ all → out ++ rest ≡ all
  rest_is xs ys out rest all i j ends h left right e = ⊎_elim
      (λ le. ap (λ l. out ++ l) (right le ∙ sym (rest_right xs ys i j le)) ∙ e)
      (λ le. ⊎_elim
      (λ lt. ap (λ l. out ++ l) (left lt ∙ sym (rest_left xs ys i j le h)) ∙ e)
      (λ le'. ap (λ l. out ++ l) (right le' ∙ sym (rest_right xs ys i j le')) ∙ e) (cases_lt i (length xs)))
      ends

  -- a value that is not in the second list, and one that is
  pub absent : (x : K) (ys : List K) → IsBelow cmp x ys → has cmp ys x ≡ false
  absent x [] h = refl
  absent x (y ∷ ys) h = rw (above' cmp o x y h.0, absent x ys h.1) refl

  common_less : (x y : K) (xs ys : List K) → cmp x y ≡ Less → IsStrictlySortedBy cmp (y ∷ ys)
      → intersection_of cmp (x ∷ xs) (y ∷ ys) ≡ intersection_of cmp xs (y ∷ ys)
  unfolding IsStrictlySortedBy
  common_less x y xs ys e k =
      ap (λ b. cond b (x ∷ intersection_of cmp xs (y ∷ ys)) (intersection_of cmp xs (y ∷ ys))) (absent x (y ∷ ys) (e, below_further cmp o x y ys e k.0))

  -- what stands below every value of the first list plays no part in the second
  common_below : (y : K) (xs ys : List K) → IsBelow cmp y xs → intersection_of cmp xs (y ∷ ys) ≡ intersection_of cmp xs ys
  common_below y [] ys h = refl
  common_below y (x ∷ xs) ys h =
      let rest = common_below y xs ys h.1 in
      let e : is_eq (cmp y x) ≡ false = ap is_eq h.0 in
      rw (e, rest) refl

  common_greater : (x y : K) (xs ys : List K) → cmp x y ≡ Greater → IsStrictlySortedBy cmp (x ∷ xs)
      → intersection_of cmp (x ∷ xs) (y ∷ ys) ≡ intersection_of cmp (x ∷ xs) ys
  unfolding IsStrictlySortedBy
  common_greater x y xs ys e h = common_below y (x ∷ xs) ys (above cmp o x y e, below_further cmp o y x xs (above cmp o x y e) h.0)

  common_equal : (x y : K) (xs ys : List K) → cmp x y ≡ Equal → IsStrictlySortedBy cmp (x ∷ xs)
      → intersection_of cmp (x ∷ xs) (y ∷ ys) ≡ x ∷ intersection_of cmp xs ys
  unfolding IsStrictlySortedBy
  common_equal x y xs ys e h =
      let f : is_eq (cmp y x) ≡ true = ap is_eq (same' cmp o x y e) in
      let rest = common_below y xs ys (below_same cmp o y x xs (same' cmp o x y e) h.0) in
      rw (f, rest) refl

  pub meet_less : (xs ys out : List K) (i j : ℕ) (x y : K) → i < length xs → j < length ys → x ≡ get_or xs i x → y ≡ get_or ys j y
      → cmp x y ≡ Less → IsStrictlySortedBy cmp ys
      → out ++ intersection_of cmp (drop (i + 1) xs) (drop j ys) ≡ out ++ intersection_of cmp (drop i xs) (drop j ys)
  meet_less xs ys out i j x y li lj ex ey e k =
      let dx : drop i xs ≡ x ∷ drop (i + 1) xs = drop_more xs i x li ∙ ap (λ z. z ∷ drop (i + 1) xs) (sym ex) in
      let dy : drop j ys ≡ y ∷ drop (j + 1) ys = drop_more ys j y lj ∙ ap (λ z. z ∷ drop (j + 1) ys) (sym ey) in
      let sy : IsStrictlySortedBy cmp (y ∷ drop (j + 1) ys) = subst (IsStrictlySortedBy cmp) dy (sorted-drop cmp j ys k) in
      ap (λ l. out ++ intersection_of cmp (drop (i + 1) xs) l) dy
      ∙ ap (λ l. out ++ l) (sym (common_less x y (drop (i + 1) xs) (drop (j + 1) ys) e sy))
      ∙ ap (λ l. out ++ intersection_of cmp (x ∷ drop (i + 1) xs) l) (sym dy)
      ∙ ap (λ l. out ++ intersection_of cmp l (drop j ys)) (sym dx)

  pub meet_greater : (xs ys out : List K) (i j : ℕ) (x y : K) → i < length xs → j < length ys → x ≡ get_or xs i x → y ≡ get_or ys j y
      → cmp x y ≡ Greater → IsStrictlySortedBy cmp xs
      → out ++ intersection_of cmp (drop i xs) (drop (j + 1) ys) ≡ out ++ intersection_of cmp (drop i xs) (drop j ys)
  meet_greater xs ys out i j x y li lj ex ey e h =
      let dx : drop i xs ≡ x ∷ drop (i + 1) xs = drop_more xs i x li ∙ ap (λ z. z ∷ drop (i + 1) xs) (sym ex) in
      let dy : drop j ys ≡ y ∷ drop (j + 1) ys = drop_more ys j y lj ∙ ap (λ z. z ∷ drop (j + 1) ys) (sym ey) in
      let sx : IsStrictlySortedBy cmp (x ∷ drop (i + 1) xs) = subst (IsStrictlySortedBy cmp) dx (sorted-drop cmp i xs h) in
      ap (λ l. out ++ intersection_of cmp l (drop (j + 1) ys)) dx
      ∙ ap (λ l. out ++ l) (sym (common_greater x y (drop (i + 1) xs) (drop (j + 1) ys) e sx))
      ∙ ap (λ l. out ++ intersection_of cmp (x ∷ drop (i + 1) xs) l) (sym dy)
      ∙ ap (λ l. out ++ intersection_of cmp l (drop j ys)) (sym dx)

  pub meet_equal : (xs ys out : List K) (i j : ℕ) (x y : K) → i < length xs → j < length ys → x ≡ get_or xs i x → y ≡ get_or ys j y
      → cmp x y ≡ Equal → IsStrictlySortedBy cmp xs
      → (out ++ x ∷ []) ++ intersection_of cmp (drop (i + 1) xs) (drop (j + 1) ys) ≡ out ++ intersection_of cmp (drop i xs) (drop j ys)
  meet_equal xs ys out i j x y li lj ex ey e h =
      let dx : drop i xs ≡ x ∷ drop (i + 1) xs = drop_more xs i x li ∙ ap (λ z. z ∷ drop (i + 1) xs) (sym ex) in
      let dy : drop j ys ≡ y ∷ drop (j + 1) ys = drop_more ys j y lj ∙ ap (λ z. z ∷ drop (j + 1) ys) (sym ey) in
      let sx : IsStrictlySortedBy cmp (x ∷ drop (i + 1) xs) = subst (IsStrictlySortedBy cmp) dx (sorted-drop cmp i xs h) in
      regrouped out (intersection_of cmp (drop (i + 1) xs) (drop (j + 1) ys)) x
      ∙ ap (λ l. out ++ l) (sym (common_equal x y (drop (i + 1) xs) (drop (j + 1) ys) e sx))
      ∙ ap (λ l. out ++ intersection_of cmp (x ∷ drop (i + 1) xs) l) (sym dy)
      ∙ ap (λ l. out ++ intersection_of cmp l (drop j ys)) (sym dx)

  common-nil : (xs : List K) → intersection_of cmp xs [] ≡ []
  common-nil [] = refl
  common-nil (x ∷ xs) = common-nil xs

  -- at the end of either list nothing more is common
  pub meet_end : (xs ys out both : List K) (i j : ℕ) → (length xs ≤ i) ⊎ (length ys ≤ j) → out ++ intersection_of cmp (drop i xs) (drop j ys) ≡ both → out ≡ both
  meet_end xs ys out both i j ends e = ⊎_elim
      (λ le. sym (append-nil out) ∙ ap (λ l. out ++ intersection_of cmp l (drop j ys)) (sym (drop_all i xs le)) ∙ e)
      (λ le. sym (append-nil out) ∙ ap (λ l. out ++ l) (sym (common-nil (drop i xs))) ∙ ap (λ l. out ++ intersection_of cmp (drop i xs) l) (sym (drop_all j ys le)) ∙ e)
      ends

inserted-most : {K : Type 0} (cmp : K → K → Ordering) (c : K) (xs : List K) → length (inserted cmp c xs) ≤ suc (length xs)
inserted-most cmp c [] = omega arith
inserted-most cmp c (x ∷ xs) =
    let rest = inserted-most cmp c xs in
    by_cases (λ ys. length ys ≤ suc (suc (length xs))) (cmp c x) _ _ _ (λ _. omega arith) (λ _. omega arith) (λ _. omega arith)

pub union-most : {K : Type 0} (cmp : K → K → Ordering) (xs ys : List K) → length (union_of cmp xs ys) ≤ length xs + length ys
union-most cmp [] ys = omega arith
union-most cmp (x ∷ xs) ys =
    let rest = union-most cmp xs ys in
    let one = inserted-most cmp x (union_of cmp xs ys) in omega arith

-- an answer that is nothing only above a limit is something within it
pub something : {X : Type 0} (r : Option X) (limit n : ℕ) → IfNone r (limit < n) → n ≤ limit → IsSome r
something None limit n more few = absurd (omega (arith, more))
something (Some x) limit n more few = search rules
