-- The full cubes round a cell: by places, and that they are all.
use Rattle.std.proofs.Common.{◌≡◌, ℕ, zero, suc, ◌+◌, ◌-◌, ◌*◌, ◌/◌, ◌%◌, ◌^◌, ◌<◌, ◌≤◌, inl, inr, ⊎_elim, refl, sym, ap, ◌∙◌, subst, arith, List, [], ◌∷◌, length, get_or, map, true, true≢false}
use Rattle.std.specs.Prelude.{ℤ, pos, negsuc, ◌+ℤ◌}
use Rattle.std.specs.List.{list_all, flat_map}
use Rattle.std.proofs.Math.Nat.{pow-suc, pow-le-pow_right}
use Rattle.std.proofs.lemmas.Int.{ints}
use Rattle.elem_cubes.specs.declared.range.TheConstants.{MAX_EMBEDDING}
use Rattle.elem_cubes.specs.Cells.{Factor, point, interval, low, is_wide, dimension_of}
use Rattle.elem_cubes.specs.Faces.{IsPart, IsFace}
use Rattle.elem_cubes.specs.Covers.{wholes_of, covers_of, CoversAreAll, whole_at, cover_at}
use Rattle.elem_cubes.proofs.Conjunctions.{both, left, right}
use Rattle.elem_cubes.proofs.Members.{In, In-from, from-In, In-map, map-In, In-flat, flat-In, Apart, apart_places, apart-append, apart-map}

-- ---- the list by places

-- each of a list with an interval in front, or with either interval round a point
abbrev pub round_interval : ℤ → List (List Factor) → List (List Factor)
round_interval l = flat_map (λ rs. (interval l ∷ rs) ∷ [])

abbrev pub round_point : ℤ → List (List Factor) → List (List Factor)
round_point l = flat_map (λ rs. map (λ r. r ∷ rs) (wholes_of (point l)))

length-intervals : (l : ℤ) (xs : List (List Factor)) → length (round_interval l xs) ≡ length xs
length-intervals l [] = refl
length-intervals l (x ∷ xs) = ap suc (length-intervals l xs)

length-points : (l : ℤ) (xs : List (List Factor)) → length (round_point l xs) ≡ 2 * length xs
length-points l [] = refl
length-points l (x ∷ xs) = let e = length-points l xs in omega arith

dimension_within : (q : List Factor) → dimension_of q ≤ length q
dimension_within [] = omega arith
dimension_within (point l ∷ qs) = let e = dimension_within qs in omega arith
dimension_within (interval l ∷ qs) = let e = dimension_within qs in omega arith

pub length-covers : (q : List Factor) → length (covers_of q) ≡ 2 ^ (length q - dimension_of q)
length-covers [] = refl
length-covers (point l ∷ qs) =
    let w = dimension_within qs in
    let n : suc (length qs) - dimension_of qs ≡ suc (length qs - dimension_of qs) = omega arith in
    let p : 2 ^ (suc (length qs) - dimension_of qs) ≡ 2 ^ (length qs - dimension_of qs) * 2 = ap (λ n. 2 ^ n) n ∙ pow-suc 2 (length qs - dimension_of qs) in
    length-points l (covers_of qs) ∙ (let e = length-covers qs in omega arith)
length-covers (interval l ∷ qs) =
    let w = dimension_within qs in
    let n : length qs - dimension_of qs ≡ suc (length qs) - (dimension_of qs + 1) = omega arith in
    length-intervals l (covers_of qs) ∙ length-covers qs ∙ ap (λ n. 2 ^ n) n

interval_read : (l : ℤ) (xs : List (List Factor)) (k : ℕ) (d e : List Factor) → k < length xs → get_or (round_interval l xs) k d ≡ interval l ∷ get_or xs k e
interval_read l [] k d e h = absurd (omega arith)
interval_read l (x ∷ xs) zero d e h = refl
interval_read l (x ∷ xs) (suc k) d e h = interval_read l xs k d e (omega arith)

point_read : (l : ℤ) (xs : List (List Factor)) (k : ℕ) (d e : List Factor) → k < 2 * length xs → get_or (round_point l xs) k d ≡ whole_at (point l) (k % 2) ∷ get_or xs (k / 2) e
point_read l [] k d e h = absurd (omega arith)
point_read l (x ∷ xs) zero d e h = refl
point_read l (x ∷ xs) (suc zero) d e h = refl
point_read l (x ∷ xs) (suc (suc k)) d e h =
    let m : suc (suc k) % 2 ≡ k % 2 = omega arith in
    let n : suc (suc k) / 2 ≡ suc (k / 2) = omega arith in
    point_read l xs k d e (omega arith) ∙ sym (λ i. whole_at (point l) (m i) ∷ get_or (x ∷ xs) (n i) e)

pub covers_read : (q : List Factor) (k : ℕ) (d : List Factor) → k < length (covers_of q) → get_or (covers_of q) k d ≡ cover_at q k
covers_read [] k d h = let e : k ≡ 0 = omega arith in ap (λ n. get_or ([] ∷ []) n d) e
covers_read (interval l ∷ qs) k d h =
    let s = length-intervals l (covers_of qs) in
    let m : k % 1 ≡ 0 = omega arith in
    let n : k / 1 ≡ k = omega arith in
    interval_read l (covers_of qs) k d d (omega arith) ∙ ap (λ rs. interval l ∷ rs) (covers_read qs k d (omega arith)) ∙ sym (λ i. whole_at (interval l) (m i) ∷ cover_at qs (n i))
covers_read (point l ∷ qs) k d h =
    let s = length-points l (covers_of qs) in
    point_read l (covers_of qs) k d d (omega arith) ∙ ap (λ rs. whole_at (point l) (k % 2) ∷ rs) (covers_read qs (k / 2) d (omega arith))

-- the number of cubes is small
pub few_covers : (n : ℕ) → n ≤ MAX_EMBEDDING → 2 ^ n < 2 ^ 32
few_covers n h = let e : 2 ^ n ≤ 2 ^ MAX_EMBEDDING = pow-le-pow_right {n = 2} (omega arith) h in omega arith

-- ---- they are all

whole_to : (f g : Factor) → In (wholes_of f) g → (is_wide g ≡ true) × IsPart g f
whole_to (point l) g (inl e) = subst (λ (h : Factor). (is_wide h ≡ true) × IsPart h (point l)) e (refl, inl refl)
whole_to (point l) g (inr (inl e)) = subst (λ (h : Factor). (is_wide h ≡ true) × IsPart h (point l)) e (refl, inr (up l))
  where
    up : (l : ℤ) → l ≡ l +ℤ negsuc 0 +ℤ pos 1
    up l = omega (arith, ints)
whole_to (point l) g (inr (inr z)) = absurd z
whole_to (interval l) g (inl e) = subst (λ (h : Factor). (is_wide h ≡ true) × IsPart h (interval l)) e (refl, refl)
whole_to (interval l) g (inr z) = absurd z

to_whole : (f g : Factor) → is_wide g ≡ true → IsPart g f → In (wholes_of f) g
to_whole f (point m) w p = absurd (true≢false (sym w))
to_whole (point l) (interval m) w (inl e) = inl (ap interval e)
to_whole (point l) (interval m) w (inr e) = inr (inl (ap interval (down l m e)))
  where
    down : (l m : ℤ) → l ≡ m +ℤ pos 1 → l +ℤ negsuc 0 ≡ m
    down l m e = omega (arith, ints)
to_whole (interval l) (interval m) w e = inl (ap interval e)

-- an interval round the first factor in front
abbrev pub in_front : Factor → List Factor → List (List Factor)
in_front f qs = map (λ q. q ∷ qs) (wholes_of f)

pub cover_to : (r q : List Factor) → In (covers_of r) q → (list_all is_wide q ≡ true) × IsFace q r
cover_to [] q (inl e) = subst (λ (s : List Factor). (list_all is_wide s ≡ true) × IsFace s []) e (refl, tt)
cover_to [] q (inr z) = absurd z
cover_to (f ∷ fs) q m =
    let c = In-flat (in_front f) (covers_of fs) q m in
    let e = In-map (λ (g : Factor). g ∷ c.0) (wholes_of f) q c.2 in
    let n = whole_to f e.0 e.1 in
    let k = cover_to fs c.0 c.1 in
    subst (λ (s : List Factor). (list_all is_wide s ≡ true) × IsFace s (f ∷ fs)) e.2 (both (is_wide e.0) (list_all is_wide c.0) n.0 k.0, (n.1, k.1))

pub to_cover : (r q : List Factor) → list_all is_wide q ≡ true → IsFace q r → In (covers_of r) q
to_cover [] [] w f = inl refl
to_cover [] (g ∷ gs) w f = absurd f
to_cover (f ∷ fs) [] w h = absurd h
to_cover (f ∷ fs) (g ∷ gs) w h =
    flat-In (in_front f) (covers_of fs) gs (g ∷ gs) (to_cover fs gs (right (is_wide g) (list_all is_wide gs) w) h.1)
    (map-In (λ (e : Factor). e ∷ gs) (wholes_of f) g (to_whole f g (left (is_wide g) (list_all is_wide gs) w) h.0))

-- ---- each once

same_head : (f g : Factor) (fs gs : List Factor) → ◌≡◌ {A = List Factor} (f ∷ fs) (g ∷ gs) → f ≡ g
same_head f g fs gs e = cc

same_tail : (f g : Factor) (fs gs : List Factor) → ◌≡◌ {A = List Factor} (f ∷ fs) (g ∷ gs) → fs ≡ gs
same_tail f g fs gs e = cc

wholes_apart : (f : Factor) → Apart (wholes_of f)
wholes_apart (interval l) = (λ z. z, tt)
wholes_apart (point l) = (λ h. ⊎_elim (λ e. below l (ap low e)) (λ z. z) h, (λ z. z, tt))
  where
    below : (l : ℤ) → l +ℤ negsuc 0 ≡ l → ⊥
    below l e = omega (arith, ints)

fronts_apart : (f : Factor) (xs : List (List Factor)) → Apart xs → Apart (flat_map (in_front f) xs)
fronts_apart f [] a = tt
fronts_apart f (x ∷ xs) a =
    apart-append (in_front f x) (flat_map (in_front f) xs) (apart-map (λ g. g ∷ x) (wholes_of f) (λ g h e. same_head g h x x e) (wholes_apart f)) (fronts_apart f xs a.1)
    (λ y m n.
    let u = In-map (λ (g : Factor). g ∷ x) (wholes_of f) y m in
    let c = In-flat (in_front f) xs y n in
    let v = In-map (λ (g : Factor). g ∷ c.0) (wholes_of f) y c.2 in
    a.0 (let P : List Factor → Type 0 = λ z. In xs z in subst P (sym (same_tail u.0 v.0 x c.0 (u.2 ∙ sym v.2))) c.1))

covers_apart : (q : List Factor) → Apart (covers_of q)
covers_apart [] = (λ z. z, tt)
covers_apart (f ∷ fs) = fronts_apart f (covers_of fs) (covers_apart fs)

pub covers_are_all : CoversAreAll
covers_are_all = record {
  covers = λ q r. (λ w. cover_to r q (In-from (covers_of r) q w), λ h. from-In (covers_of r) q (to_cover r q h.0 h.1));
  once = λ r d i j h k e. apart_places (covers_of r) i j d (covers_apart r) h k e;
}
