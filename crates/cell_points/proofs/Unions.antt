-- The places of two lists together: a merge, step by step.
use Rattle.std.proofs.Common.{◌≡◌, ℕ, ◌+◌, ◌<◌, ◌≤◌, ◌^◌, ◌⊎◌, ⊎_elim, refl, sym, ap, ◌∙◌, subst, arith, List, [], ◌∷◌, ◌++◌, length, drop, get_or, append_assoc, Bool, true, false, ◌&&◌}
use Rattle.std.specs.Prelude.{ℤ, bit_or, ◌||◌}
use Rattle.std.specs.List.{AllByRecursion}
use Rattle.std.specs.List.Sorted.{IsStrictlySortedBy}
use Rattle.std.specs.Cmp.{IsTotalOrder}
use Rattle.std.specs.Ordering.{is_eq}
use Rattle.std.specs.declared.cmp.Ordering.{Ordering}
use Rattle.std.specs.declared.cmp.Ordering.TheVariants.{Less, Equal, Greater}
use Rattle.std.proofs.lemmas.Bool.{or_cases, cases_lt}
use Rattle.std.proofs.lemmas.Cmp.{lists_total, int_cmp_total, on_total}
use Rattle.std.proofs.lemmas.List.{drop_more, drop_all}
use Rattle.std.proofs.lemmas.Nat.{or_lt}
use Rattle.elem_cubes.specs.Corners.{corner_cmp}
use Rattle.elem_cubes.specs.OrderLemmas.{tied_lists}
use Rattle.cube_sets.proofs.Merging.{IsBelow, above, below_further}
use Rattle.cell_points.specs.Masks.{turned, has_bit}
use Rattle.cell_points.specs.Places.{place_cmp, holds_at, IsPlace, ArePlaces}
use Rattle.cell_points.specs.declared.place.Place.{Place}
use Rattle.cell_points.proofs.Ranks.{has_or}

pub place_total : IsTotalOrder place_cmp
place_total = on_total (λ (p : Place). p.corner) (lists_total int_cmp_total)

-- ---- lists in two parts

pub all_left : {X : Type 0} (P : X → Type 0) (xs ys : List X) → AllByRecursion P (xs ++ ys) → AllByRecursion P xs
all_left P [] ys h = tt
all_left P (x ∷ xs) ys h = (h.0, all_left P xs ys h.1)

pub all_right : {X : Type 0} (P : X → Type 0) (xs ys : List X) → AllByRecursion P (xs ++ ys) → AllByRecursion P ys
all_right P [] ys h = h
all_right P (x ∷ xs) ys h = all_right P xs ys h.1

pub all_append : {X : Type 0} (P : X → Type 0) (xs ys : List X) → AllByRecursion P xs → AllByRecursion P ys → AllByRecursion P (xs ++ ys)
all_append P [] ys h k = k
all_append P (x ∷ xs) ys h k = (h.0, all_append P xs ys h.1 k)

or_assoc : (a b c : Bool) → (a || (b || c)) ≡ ((a || b) || c)
or_assoc true b c = refl
or_assoc false b c = refl

pub holds-append : (ps qs : List Place) (c : List ℤ) (r : ℕ) → holds_at (ps ++ qs) c r ≡ (holds_at ps c r || holds_at qs c r)
holds-append [] qs c r = refl
holds-append (p ∷ ps) qs c r =
    let b = is_eq (corner_cmp p.corner c) && has_bit p.mask r in
    ap (λ h. b || h) (holds-append ps qs c r) ∙ or_assoc b (holds_at ps c r) (holds_at qs c r)

module _ {K : Type 0} (cmp : K → K → Ordering) (o : IsTotalOrder cmp) where
  -- one more value between a front and the rest, where it is below the first of the rest
  pub sorted_between : (out xs ys : List K) (x y : K) → cmp x y ≡ Less → IsStrictlySortedBy cmp (out ++ x ∷ xs) → IsStrictlySortedBy cmp (out ++ y ∷ ys) → IsStrictlySortedBy cmp (out ++ x ∷ y ∷ ys)
  unfolding IsStrictlySortedBy
  sorted_between [] xs ys x y e h k = ((e, below_further cmp o x y ys e k.0), k)
  sorted_between (z ∷ out) xs ys x y e h k =
      let P : K → Type 0 = λ w. cmp z w ≡ Less in (
        all_append P out (x ∷ y ∷ ys) (all_left P out (x ∷ xs) h.0) ((all_right P out (x ∷ xs) h.0).0, all_right P out (y ∷ ys) k.0),
        sorted_between out xs ys x y e h.1 k.1,
      )

  below_alike : (xs : List K) (x z : K) → ((w : K) → cmp z w ≡ cmp x w) → IsBelow cmp x xs → IsBelow cmp z xs
  below_alike [] x z f h = tt
  below_alike (y ∷ ys) x z f h = (f y ∙ h.0, below_alike ys x z f h.1)

  -- a value in place of one that compares alike
  pub sorted_replaced : (out xs : List K) (x z : K) → ((w : K) → cmp w z ≡ cmp w x) → ((w : K) → cmp z w ≡ cmp x w) → IsStrictlySortedBy cmp (out ++ x ∷ xs) → IsStrictlySortedBy cmp (out ++ z ∷ xs)
  unfolding IsStrictlySortedBy
  sorted_replaced [] xs x z e f h = (below_alike xs x z f h.0, h.1)
  sorted_replaced (y ∷ out) xs x z e f h =
      let P : K → Type 0 = λ w. cmp y w ≡ Less in
      let r = all_right P out (x ∷ xs) h.0 in
      (all_append P out (z ∷ xs) (all_left P out (x ∷ xs) h.0) (e y ∙ r.0, r.1), sorted_replaced out xs x z e f h.1)

-- ---- the steps

-- what was made of two lists, and what is left of them
pub record Merging (left right out xs ys : List Place) : Type 0 where
  pub left_are : ArePlaces (out ++ xs)
  pub right_are : ArePlaces (out ++ ys)
  pub kept : (c : List ℤ) (r : ℕ) → (holds_at out c r || (holds_at xs c r || holds_at ys c r)) ≡ (holds_at left c r || holds_at right c r)

pub begins : (left right : List Place) → ArePlaces left → ArePlaces right → Merging left right [] left right
begins left right h k = record { left_are = h; right_are = k; kept = λ c r. refl }

regroup : (out : List Place) (x : Place) (xs : List Place) → (out ++ x ∷ []) ++ xs ≡ out ++ x ∷ xs
regroup out x xs = append_assoc out (x ∷ []) xs

one_more : (out : List Place) (x : Place) (c : List ℤ) (r : ℕ) → holds_at (out ++ x ∷ []) c r ≡ (holds_at out c r || ((is_eq (corner_cmp x.corner c) && has_bit x.mask r) || false))
one_more out x c r = holds-append out (x ∷ []) c r

to_left : (o t l r : Bool) → ((o || (t || false)) || (l || r)) ≡ (o || ((t || l) || r))
to_left true t l r = refl
to_left false true l r = refl
to_left false false l r = refl

to_right : (o t l r : Bool) → ((o || (t || false)) || (l || r)) ≡ (o || (l || (t || r)))
to_right true t l r = refl
to_right false true true r = refl
to_right false true false r = refl
to_right false false l r = refl

mixed : (o e a b l r : Bool) → ((o || ((e && (a || b)) || false)) || (l || r)) ≡ (o || (((e && a) || l) || ((e && b) || r)))
mixed true e a b l r = refl
mixed false false a b l r = refl
mixed false true true b l r = refl
mixed false true false true true r = refl
mixed false true false true false r = refl
mixed false true false false l r = refl

pub step_less : (left right out xs ys : List Place) (x y : Place) → Merging left right out (x ∷ xs) (y ∷ ys) → place_cmp x y ≡ Less → Merging left right (out ++ x ∷ []) xs (y ∷ ys)
step_less left right out xs ys x y m e = record {
  left_are = subst ArePlaces (sym (regroup out x xs)) m.left_are;
  right_are = subst ArePlaces (sym (regroup out x (y ∷ ys))) (record {
    sorted = sorted_between place_cmp place_total out xs ys x y e m.left_are.sorted m.right_are.sorted;
    each = all_append IsPlace out (x ∷ y ∷ ys) (all_left IsPlace out (x ∷ xs) m.left_are.each) ((all_right IsPlace out (x ∷ xs) m.left_are.each).0, all_right IsPlace out (y ∷ ys) m.right_are.each);
  });
  kept = λ c r. ap (λ b. b || (holds_at xs c r || holds_at (y ∷ ys) c r)) (one_more out x c r)
      ∙ to_left (holds_at out c r) (is_eq (corner_cmp x.corner c) && has_bit x.mask r) (holds_at xs c r) (holds_at (y ∷ ys) c r) ∙ m.kept c r;
}

pub step_greater : (left right out xs ys : List Place) (x y : Place) → Merging left right out (x ∷ xs) (y ∷ ys) → place_cmp x y ≡ Greater → Merging left right (out ++ y ∷ []) (x ∷ xs) ys
step_greater left right out xs ys x y m e = record {
  left_are = subst ArePlaces (sym (regroup out y (x ∷ xs))) (record {
    sorted = sorted_between place_cmp place_total out ys xs y x (above place_cmp place_total x y e) m.right_are.sorted m.left_are.sorted;
    each = all_append IsPlace out (y ∷ x ∷ xs) (all_left IsPlace out (y ∷ ys) m.right_are.each) ((all_right IsPlace out (y ∷ ys) m.right_are.each).0, all_right IsPlace out (x ∷ xs) m.left_are.each);
  });
  right_are = subst ArePlaces (sym (regroup out y ys)) m.right_are;
  kept = λ c r. ap (λ b. b || (holds_at (x ∷ xs) c r || holds_at ys c r)) (one_more out y c r)
      ∙ to_right (holds_at out c r) (is_eq (corner_cmp y.corner c) && has_bit y.mask r) (holds_at (x ∷ xs) c r) (holds_at ys c r) ∙ m.kept c r;
}

-- the cells of two places at one corner
abbrev pub both_at : Place → Place → Place
both_at x y = record { corner = x.corner; mask = bit_or x.mask y.mask }

pub both_place : (x y : Place) → x.corner ≡ y.corner → IsPlace x → IsPlace y → IsPlace (both_at x y)
both_place x y e h k = record {
  short = h.short;
  small = or_lt 16 x.mask y.mask h.small k.small;
  fits = λ r b. ⊎_elim (λ t. h.fits r t) (λ t. subst (λ (c : List ℤ). turned r < 2 ^ length c) (sym e) (k.fits r t))
      (or_cases (has_bit x.mask r) (has_bit y.mask r) (sym (has_or x.mask y.mask r) ∙ b));
}

pub replaced_are : (out xs : List Place) (x z : Place) → z.corner ≡ x.corner → IsPlace z → ArePlaces (out ++ x ∷ xs) → ArePlaces (out ++ z ∷ xs)
replaced_are out xs x z e h are = record {
  sorted = sorted_replaced place_cmp place_total out xs x z (λ w. ap (corner_cmp w.corner) e) (λ w. ap (λ c. corner_cmp c w.corner) e) are.sorted;
  each = all_append IsPlace out (z ∷ xs) (all_left IsPlace out (x ∷ xs) are.each) (h, (all_right IsPlace out (x ∷ xs) are.each).1);
}

pub step_equal : (left right out xs ys : List Place) (x y : Place) → Merging left right out (x ∷ xs) (y ∷ ys) → place_cmp x y ≡ Equal → Merging left right (out ++ both_at x y ∷ []) xs ys
step_equal left right out xs ys x y m e =
    let s : x.corner ≡ y.corner = tied_lists x.corner y.corner e in
    let h : IsPlace (both_at x y) = both_place x y s (all_right IsPlace out (x ∷ xs) m.left_are.each).0 (all_right IsPlace out (y ∷ ys) m.right_are.each).0 in
    record {
      left_are = subst ArePlaces (sym (regroup out (both_at x y) xs)) (replaced_are out xs x (both_at x y) refl h m.left_are);
      right_are = subst ArePlaces (sym (regroup out (both_at x y) ys)) (replaced_are out ys y (both_at x y) s h m.right_are);
      kept = λ c r. ap (λ b. b || (holds_at xs c r || holds_at ys c r)) (one_more out (both_at x y) c r)
          ∙ ap (λ b. (holds_at out c r || ((is_eq (corner_cmp x.corner c) && b) || false)) || (holds_at xs c r || holds_at ys c r)) (has_or x.mask y.mask r)
          ∙ mixed (holds_at out c r) (is_eq (corner_cmp x.corner c)) (has_bit x.mask r) (has_bit y.mask r) (holds_at xs c r) (holds_at ys c r)
          ∙ ap (λ d. holds_at out c r || (((is_eq (corner_cmp x.corner c) && has_bit x.mask r) || holds_at xs c r) || ((is_eq (corner_cmp d c) && has_bit y.mask r) || holds_at ys c r))) s
          ∙ m.kept c r;
    }

-- at the end of either list the rest of the other is all that is left
pub record Merged (left right all : List Place) : Type 0 where
  pub are : ArePlaces all
  pub holds : (c : List ℤ) (r : ℕ) → holds_at all c r ≡ (holds_at left c r || holds_at right c r)

or_none : (l : Bool) → l ≡ (l || false)
or_none true = refl
or_none false = refl

pub ends_left : (left right out xs : List Place) → Merging left right out xs [] → Merged left right (out ++ xs)
ends_left left right out xs m = record {
  are = m.left_are;
  holds = λ c r. holds-append out xs c r ∙ ap (λ b. holds_at out c r || b) (or_none (holds_at xs c r)) ∙ m.kept c r;
}

pub ends_right : (left right out ys : List Place) → Merging left right out [] ys → Merged left right (out ++ ys)
ends_right left right out ys m = record {
  are = m.right_are;
  holds = λ c r. holds-append out ys c r ∙ m.kept c r;
}

-- ---- the same at two places of the lists

next : (ps : List Place) (i : ℕ) (x : Place) → i < length ps → x ≡ get_or ps i x → drop i ps ≡ x ∷ drop (i + 1) ps
next ps i x l e = drop_more ps i x l ∙ ap (λ z. z ∷ drop (i + 1) ps) (sym e)

module _ (left right out : List Place) (i j : ℕ) (x y : Place) (li : i < length left) (lj : j < length right) (ex : x ≡ get_or left i x) (ey : y ≡ get_or right j y)
    (m : Merging left right out (drop i left) (drop j right)) where
  opened : Merging left right out (x ∷ drop (i + 1) left) (y ∷ drop (j + 1) right)
  opened = subst (λ (xs : List Place). Merging left right out xs (y ∷ drop (j + 1) right)) (next left i x li ex)
      (subst (λ (ys : List Place). Merging left right out (drop i left) ys) (next right j y lj ey) m)

  pub at_less : place_cmp x y ≡ Less → Merging left right (out ++ x ∷ []) (drop (i + 1) left) (drop j right)
  at_less e = subst (λ (ys : List Place). Merging left right (out ++ x ∷ []) (drop (i + 1) left) ys) (sym (next right j y lj ey))
      (step_less left right out (drop (i + 1) left) (drop (j + 1) right) x y opened e)

  pub at_greater : place_cmp x y ≡ Greater → Merging left right (out ++ y ∷ []) (drop i left) (drop (j + 1) right)
  at_greater e = subst (λ (xs : List Place). Merging left right (out ++ y ∷ []) xs (drop (j + 1) right)) (sym (next left i x li ex))
      (step_greater left right out (drop (i + 1) left) (drop (j + 1) right) x y opened e)

  pub at_equal : place_cmp x y ≡ Equal → Merging left right (out ++ both_at x y ∷ []) (drop (i + 1) left) (drop (j + 1) right)
  at_equal e = step_equal left right out (drop (i + 1) left) (drop (j + 1) right) x y opened e

pub at_end : (left right out rest : List Place) (i j : ℕ) → (length left ≤ i) ⊎ (length right ≤ j) → (i < length left → rest ≡ drop i left) → (length left ≤ i → rest ≡ drop j right)
    → Merging left right out (drop i left) (drop j right) → Merged left right (out ++ rest)
at_end left right out rest i j ends f g m = ⊎_elim
    (λ lt. ⊎_elim (λ le. absurd (omega arith))
    (λ le. subst (λ (xs : List Place). Merged left right (out ++ xs)) (sym (f lt)) (ends_left left right out (drop i left) (subst (λ (ys : List Place). Merging left right out (drop i left) ys) (drop_all j right le) m))) ends)
    (λ le. subst (λ (xs : List Place). Merged left right (out ++ xs)) (sym (g le)) (ends_right left right out (drop j right) (subst (λ (xs : List Place). Merging left right out xs (drop j right)) (drop_all i left le) m)))
    (cases_lt i (length left))
