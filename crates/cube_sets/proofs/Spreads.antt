-- Lists of cells spread along the axes: their order, their members, their lengths.
use Rattle.std.proofs.Common.{◌≡◌, ◌⊎◌, inl, inr, ⊎_elim, ℕ, zero, suc, ◌+◌, ◌≤◌, refl, sym, ap, ◌∙◌, subst, arith, List, [], ◌∷◌, ◌++◌, length, Bool, true, false, ◌||◌, true≢false}
use Rattle.std.specs.Prelude.{ℤ, pos, negsuc, ◌+ℤ◌}
use Rattle.std.specs.List.{list_all}
use Rattle.std.specs.List.Sorted.{IsStrictlySortedBy}
use Rattle.std.specs.Ordering.{is_eq}
use Rattle.std.proofs.lemmas.Bool.{cond_both, or_cases, cases_lt}
use Rattle.std.proofs.lemmas.Int.{ints}
use Rattle.elem_cubes.specs.Cells.{Factor, is_wide}
use Rattle.elem_cubes.specs.Order.{cell_cmp}
use Rattle.elem_cubes.specs.OrderLemmas.{cell_cmp_total, cell_cmp_itself, tied_cells}
use Rattle.elem_cubes.specs.Walks.{factor_at}
use Rattle.elem_cubes.proofs.Changing.{changes_keep_order}
use Rattle.elem_cubes.proofs.Members.{In, In-flat, flat-In}
use Rattle.cube_sets.specs.Sorted.{has, union_of}
use Rattle.cube_sets.specs.Changes.{change_of, changed_cell, changed_one, changed, spread_once, spread}
use Rattle.cube_sets.specs.declared.change.Change.{Change}
use Rattle.cube_sets.specs.declared.change.Change.TheVariants.{LowerEnd, UpperEnd, Down, Up}
use Rattle.cube_sets.proofs.Merging.{IsBelow, has-union, sorted-union}
use Rattle.cube_sets.proofs.Sorting.{equal_from, and_true}
use Rattle.cube_sets.proofs.Steps.{length-union}
use Rattle.cube_sets.proofs.SameSets.{same_sets}
use Rattle.cube_sets.proofs.Spreading.{IsSpread, IsStep, spread_step, spread_back}

-- ---- members, as the order tells them

pub or_left : (a b : Bool) → a ≡ true → (a || b) ≡ true
or_left true b h = refl
or_left false b h = absurd (true≢false (sym h))

pub or_right : (a b : Bool) → b ≡ true → (a || b) ≡ true
or_right true b h = refl
or_right false b h = h

or_flip : (a b : Bool) → (a || b) ≡ (b || a)
or_flip true true = refl
or_flip true false = refl
or_flip false true = refl
or_flip false false = refl

pub has_In : (xs : List (List Factor)) (c : List Factor) → has cell_cmp xs c ≡ true → In xs c
has_In [] c h = absurd (true≢false (sym h))
has_In (x ∷ xs) c h = ⊎_elim
    (λ e. inl (tied_cells x c (equal_from cell_cmp cell_cmp_total (cell_cmp x c) e)))
    (λ e. inr (has_In xs c e))
    (or_cases (is_eq (cell_cmp x c)) (has cell_cmp xs c) h)

pub In_has : (xs : List (List Factor)) (c : List Factor) → In xs c → has cell_cmp xs c ≡ true
In_has [] c m = absurd m
In_has (x ∷ xs) c (inl e) = or_left (is_eq (cell_cmp x c)) (has cell_cmp xs c) (ap (λ y. is_eq (cell_cmp x y)) (sym e) ∙ ap is_eq (cell_cmp_itself x))
In_has (x ∷ xs) c (inr m) = or_right (is_eq (cell_cmp x c)) (has cell_cmp xs c) (In_has xs c m)

pub union_In : (xs ys : List (List Factor)) (c : List Factor) → In (union_of cell_cmp xs ys) c → In xs c ⊎ In ys c
union_In xs ys c m = ⊎_elim
    (λ e. inl (has_In xs c e))
    (λ e. inr (has_In ys c e))
    (or_cases (has cell_cmp xs c) (has cell_cmp ys c) (sym (has-union cell_cmp cell_cmp_total xs ys c) ∙ In_has (union_of cell_cmp xs ys) c m))

pub In_union : (xs ys : List (List Factor)) (c : List Factor) → In xs c ⊎ In ys c → In (union_of cell_cmp xs ys) c
In_union xs ys c m = has_In (union_of cell_cmp xs ys) c (has-union cell_cmp cell_cmp_total xs ys c ∙ ⊎_elim
    (λ k. or_left (has cell_cmp xs c) (has cell_cmp ys c) (In_has xs c k))
    (λ k. or_right (has cell_cmp xs c) (has cell_cmp ys c) (In_has ys c k)) m)

pub all_from_In : (p : List Factor → Bool) (xs : List (List Factor)) → ((c : List Factor) → In xs c → p c ≡ true) → list_all p xs ≡ true
all_from_In p [] h = refl
all_from_In p (x ∷ xs) h = rw (h x (inl refl), all_from_In p xs (λ c m. h c (inr m))) refl

pub In_passes : (p : List Factor → Bool) (xs : List (List Factor)) (c : List Factor) → list_all p xs ≡ true → In xs c → p c ≡ true
In_passes p [] c h m = absurd m
In_passes p (x ∷ xs) c h (inl e) = ap p (sym e) ∙ (and_true (p x) (list_all p xs) h).0
In_passes p (x ∷ xs) c h (inr m) = In_passes p xs c (and_true (p x) (list_all p xs) h).1 m

-- ---- the changed cells

one_In : (c : Change) (n : ℕ) (t r : List Factor) → In (changed_one c n t) r → (is_wide (factor_at t n) ≡ true) × (changed_cell c n t ≡ r)
one_In c n t r m = cond_both (is_wide (factor_at t n)) (changed_cell c n t ∷ []) [] (λ ys. In ys r → (is_wide (factor_at t n) ≡ true) × (changed_cell c n t ≡ r))
    (λ w k. ⊎_elim (λ e. (w, e)) (λ z. absurd z) k)
    (λ w k. absurd k) m

pub changed_In : (c : Change) (n : ℕ) (xs : List (List Factor)) (r : List Factor) → In (changed c n xs) r → (t : List Factor) × In xs t × (is_wide (factor_at t n) ≡ true) × (changed_cell c n t ≡ r)
changed_In c n xs r m = let w = In-flat (changed_one c n) xs r m in let o = one_In c n w.0 r w.2 in (w.0, w.1, o.0, o.1)

pub In_changed : (c : Change) (n : ℕ) (xs : List (List Factor)) (t : List Factor) → In xs t → is_wide (factor_at t n) ≡ true → In (changed c n xs) (changed_cell c n t)
In_changed c n xs t m w = flat-In (changed_one c n) xs t (changed_cell c n t) m
    (cond_both (is_wide (factor_at t n)) (changed_cell c n t ∷ []) [] (λ ys. In ys (changed_cell c n t)) (λ e. inl refl) (λ e. absurd (true≢false (sym w ∙ e))))

none_more : (l : ℤ) → l ≡ l +ℤ pos 0
none_more l = omega (arith, ints)

down_up : (l : ℤ) → (l +ℤ negsuc 0) +ℤ pos 1 ≡ l +ℤ pos 0
down_up l = omega (arith, ints)

up_up : (l : ℤ) → (l +ℤ pos 1) +ℤ pos 1 ≡ l +ℤ pos 2
up_up l = omega (arith, ints)

-- cells that are changed alike keep their order
keeps : (c : Change) (n : ℕ) (q r : List Factor) → is_wide (factor_at q n) ≡ true → is_wide (factor_at r n) ≡ true → cell_cmp (changed_cell c n q) (changed_cell c n r) ≡ cell_cmp q r
keeps LowerEnd n q r w v = changes_keep_order (change_of LowerEnd) (pos 0) (pos 0) none_more none_more q r n w v
keeps UpperEnd n q r w v = changes_keep_order (change_of UpperEnd) (pos 1) (pos 1) (λ l. refl) (λ l. refl) q r n w v
keeps Down n q r w v = changes_keep_order (change_of Down) (negsuc 0) (pos 0) (λ l. refl) down_up q r n w v
keeps Up n q r w v = changes_keep_order (change_of Up) (pos 1) (pos 2) (λ l. refl) up_up q r n w v

below_changed : (c : Change) (n : ℕ) (z : List Factor) (xs : List (List Factor)) → is_wide (factor_at z n) ≡ true → IsBelow cell_cmp z xs → IsBelow cell_cmp (changed_cell c n z) (changed c n xs)
below_changed c n z [] w h = tt
below_changed c n z (x ∷ xs) w h = cond_both (is_wide (factor_at x n)) (changed_cell c n x ∷ []) [] (λ ys. IsBelow cell_cmp (changed_cell c n z) (ys ++ changed c n xs))
    (λ v. (keeps c n z x w v ∙ h.0, below_changed c n z xs w h.1))
    (λ v. below_changed c n z xs w h.1)

pub sorted_changed : (c : Change) (n : ℕ) (xs : List (List Factor)) → IsStrictlySortedBy cell_cmp xs → IsStrictlySortedBy cell_cmp (changed c n xs)
unfolding IsStrictlySortedBy
sorted_changed c n [] h = tt
sorted_changed c n (x ∷ xs) h = cond_both (is_wide (factor_at x n)) (changed_cell c n x ∷ []) [] (λ ys. IsStrictlySortedBy cell_cmp (ys ++ changed c n xs))
    (λ v. (below_changed c n x xs v h.0, sorted_changed c n xs h.1))
    (λ v. sorted_changed c n xs h.1)

-- ---- the lists that are spread

pub sorted_both : (c d : Change) (n : ℕ) (xs : List (List Factor)) → IsStrictlySortedBy cell_cmp xs → IsStrictlySortedBy cell_cmp (union_of cell_cmp (changed c n xs) (changed d n xs))
sorted_both c d n xs h = sorted-union cell_cmp cell_cmp_total (changed c n xs) (changed d n xs) (sorted_changed d n xs h)

pub sorted_spread : (c d : Change) (n : ℕ) (xs : List (List Factor)) → IsStrictlySortedBy cell_cmp xs → IsStrictlySortedBy cell_cmp (spread c d n xs)
sorted_spread c d zero xs h = h
sorted_spread c d (suc n) xs h =
    let ts = spread c d n xs in
    sorted-union cell_cmp cell_cmp_total ts (union_of cell_cmp (changed c n ts) (changed d n ts)) (sorted_both c d n ts (sorted_spread c d n xs h))

pub spread_In : (c d : Change) (n : ℕ) (xs : List (List Factor)) (r : List Factor) → In (spread c d n xs) r → (s : List Factor) × In xs s × IsSpread c d n s r
spread_In c d zero xs r m = (r, m, refl)
spread_In c d (suc n) xs r m =
    let ts = spread c d n xs in
    let cs = changed c n ts in
    let ds = changed d n ts in
    ⊎_elim
    (λ k. let w = spread_In c d n xs r k in (w.0, w.1, spread_step c d n w.0 r r w.2 (inl refl)))
    (λ k. ⊎_elim
    (λ j. let t = changed_In c n ts r j in let w = spread_In c d n xs t.0 t.1 in (w.0, w.1, spread_step c d n w.0 t.0 r w.2 (inr (t.2, inl t.3))))
    (λ j. let t = changed_In d n ts r j in let w = spread_In c d n xs t.0 t.1 in (w.0, w.1, spread_step c d n w.0 t.0 r w.2 (inr (t.2, inr t.3))))
    (union_In cs ds r k))
    (union_In ts (union_of cell_cmp cs ds) r m)

one_step : (c d : Change) (n : ℕ) (ts : List (List Factor)) (t r : List Factor) → In ts t → IsStep c d n t r → In (spread_once c d n ts) r
one_step c d n ts t r m (inl e) = In_union ts (union_of cell_cmp (changed c n ts) (changed d n ts)) r (inl (subst (λ (u : List Factor). In ts u) e m))
one_step c d n ts t r m (inr (w, inl e)) = In_union ts (union_of cell_cmp (changed c n ts) (changed d n ts)) r
    (inr (In_union (changed c n ts) (changed d n ts) r (inl (subst (λ (u : List Factor). In (changed c n ts) u) e (In_changed c n ts t m w)))))
one_step c d n ts t r m (inr (w, inr e)) = In_union ts (union_of cell_cmp (changed c n ts) (changed d n ts)) r
    (inr (In_union (changed c n ts) (changed d n ts) r (inr (subst (λ (u : List Factor). In (changed d n ts) u) e (In_changed d n ts t m w)))))

pub In_spread : (c d : Change) (n : ℕ) (xs : List (List Factor)) (s r : List Factor) → In xs s → IsSpread c d n s r → In (spread c d n xs) r
In_spread c d zero xs s r m e = subst (λ (u : List Factor). In xs u) e m
In_spread c d (suc n) xs s r m e = let b = spread_back c d n s r e in one_step c d n (spread c d n xs) b.0 r (In_spread c d n xs s b.0 m b.1) b.2

-- ---- further axes add cells

length_left : (xs ys : List (List Factor)) → IsStrictlySortedBy cell_cmp xs → IsStrictlySortedBy cell_cmp ys → length xs ≤ length (union_of cell_cmp xs ys)
length_left xs ys h k =
    let e : union_of cell_cmp xs ys ≡ union_of cell_cmp ys xs = same_sets (union_of cell_cmp xs ys) (union_of cell_cmp ys xs) (sorted-union cell_cmp cell_cmp_total xs ys k) (sorted-union cell_cmp cell_cmp_total ys xs h)
    (λ c. has-union cell_cmp cell_cmp_total xs ys c ∙ or_flip (has cell_cmp xs c) (has cell_cmp ys c) ∙ sym (has-union cell_cmp cell_cmp_total ys xs c)) in
    let l = length-union cell_cmp ys xs in
    omega (arith, ap length e)

pub more_once : (c d : Change) (n : ℕ) (xs : List (List Factor)) → IsStrictlySortedBy cell_cmp xs → length xs ≤ length (spread_once c d n xs)
more_once c d n xs h = length_left xs (union_of cell_cmp (changed c n xs) (changed d n xs)) h (sorted_both c d n xs h)

pub more_both : (c d : Change) (n : ℕ) (xs : List (List Factor)) → length (union_of cell_cmp (changed c n xs) (changed d n xs)) ≤ length (spread_once c d n xs)
more_both c d n xs = length-union cell_cmp xs (union_of cell_cmp (changed c n xs) (changed d n xs))

pub spread_next : (c d : Change) (n : ℕ) (xs : List (List Factor)) → spread c d (n + 1) xs ≡ spread_once c d n (spread c d n xs)
spread_next c d n xs = let e : n + 1 ≡ suc n = omega arith in ap (λ m. spread c d m xs) e

module _ (c d : Change) (xs : List (List Factor)) (h : IsStrictlySortedBy cell_cmp xs) where
  pub more_axes : (n m : ℕ) → m ≤ n → length (spread c d m xs) ≤ length (spread c d n xs)
  more_axes zero m le = let e : m ≡ 0 = omega arith in let l = ap (λ k. length (spread c d k xs)) e in omega arith
  more_axes (suc n) m le = ⊎_elim
      (λ lt. let l = more_axes n m (omega arith) in let k = more_once c d n (spread c d n xs) (sorted_spread c d n xs h) in omega arith)
      (λ ge. let e : m ≡ suc n = omega arith in let l = ap (λ k. length (spread c d k xs)) e in omega arith)
      (cases_lt m (suc n))

  kept_axes : (n m : ℕ) (r : List Factor) → m ≤ n → In (spread c d m xs) r → In (spread c d n xs) r
  kept_axes zero m r le k = let e : m ≡ 0 = omega arith in subst (λ (j : ℕ). In (spread c d j xs) r) e k
  kept_axes (suc n) m r le k = ⊎_elim
      (λ lt. In_union (spread c d n xs) (union_of cell_cmp (changed c n (spread c d n xs)) (changed d n (spread c d n xs))) r (inl (kept_axes n m r (omega arith) k)))
      (λ ge. let e : m ≡ suc n = omega arith in subst (λ (j : ℕ). In (spread c d j xs) r) e k)
      (cases_lt m (suc n))

  pub fewer_axes : (p : List Factor → Bool) (n m : ℕ) → m ≤ n → list_all p (spread c d n xs) ≡ true → list_all p (spread c d m xs) ≡ true
  fewer_axes p n m le all = all_from_In p (spread c d m xs) (λ r k. In_passes p (spread c d n xs) r all (kept_axes n m r le k))
