-- Factors and cells that share a point.
use Rattle.std.proofs.Common.{◌≡◌, inl, inr, ℕ, zero, suc, ◌≤◌, refl, sym, ap, subst, arith, List, [], ◌∷◌, length, map, Bool, true, ◌&&◌, true≢false}
use Rattle.std.specs.Prelude.{ℤ, pos, negsuc, ◌+ℤ◌, ◌<ℤ◌, int_le}
use Rattle.std.specs.List.{list_all}
use Rattle.std.specs.Ordering.{int_cmp}
use Rattle.std.proofs.lemmas.Cmp.{int_ranked, by_ranked}
use Rattle.std.proofs.lemmas.Int.{ints}
use Rattle.elem_cubes.specs.Cells.{Factor, point, interval, low, is_wide, is_file_factor}
use Rattle.elem_cubes.proofs.Members.{In, In-map, map-In, In-flat, flat-In}
use Rattle.cube_sets.specs.Neighbours.{factors_meet, cells_meet, near_of, around, is_inner_end, is_inner}
use Rattle.cube_sets.specs.declared.change.Change.TheVariants.{Down, Up}
use Rattle.cube_sets.proofs.Sorting.{and_true}
use Rattle.cube_sets.proofs.Spreading.{IsChanged, IsSpread}

both_true : (a b : Bool) → a ≡ true → b ≡ true → (a && b) ≡ true
both_true a b h k = rw (h, k) refl

-- ---- numbers

steps_apart : (l m : ℤ) (P : Type 0) → int_le l (m +ℤ pos 1) ≡ true → int_le m (l +ℤ pos 1) ≡ true → (l +ℤ negsuc 0 ≡ m → P) → (l ≡ m → P) → (l +ℤ pos 1 ≡ m → P) → P
steps_apart l m P h k down here up = by_ranked (l <ℤ m) (l ≡ m) (m <ℤ l) (int_cmp l m) (int_ranked l m (int_cmp l m) refl)
    (λ e p. up (at_up l m p k))
    (λ e p. here p)
    (λ e p. down (at_down l m p h))
  where
    at_up : (l m : ℤ) → l <ℤ m → int_le m (l +ℤ pos 1) ≡ true → l +ℤ pos 1 ≡ m
    at_up l m p k = grind (arith, ints)

    at_down : (l m : ℤ) → m <ℤ l → int_le l (m +ℤ pos 1) ≡ true → l +ℤ negsuc 0 ≡ m
    at_down l m p h = grind (arith, ints)

step_apart : (l m : ℤ) (P : Type 0) → int_le l (m +ℤ pos 1) ≡ true → int_le m l ≡ true → (l +ℤ negsuc 0 ≡ m → P) → (l ≡ m → P) → P
step_apart l m P h k down here = by_ranked (l <ℤ m) (l ≡ m) (m <ℤ l) (int_cmp l m) (int_ranked l m (int_cmp l m) refl)
    (λ e p. absurd (not_above l m p k))
    (λ e p. here p)
    (λ e p. down (at_down l m p h))
  where
    not_above : (l m : ℤ) → l <ℤ m → int_le m l ≡ true → ⊥
    not_above l m p k = grind (arith, ints)

    at_down : (l m : ℤ) → m <ℤ l → int_le l (m +ℤ pos 1) ≡ true → l +ℤ negsuc 0 ≡ m
    at_down l m p h = grind (arith, ints)

meet_down : (l : ℤ) → factors_meet (interval l) (interval (l +ℤ negsuc 0)) ≡ true
meet_down l = grind (arith, ints)

meet_itself : (f : Factor) → factors_meet f f ≡ true
meet_itself (point l) = grind (arith, ints)
meet_itself (interval l) = grind (arith, ints)

meet_up : (l : ℤ) → factors_meet (interval l) (interval (l +ℤ pos 1)) ≡ true
meet_up l = grind (arith, ints)

point_down : (l : ℤ) → factors_meet (point l) (interval (l +ℤ negsuc 0)) ≡ true
point_down l = grind (arith, ints)

point_here : (l : ℤ) → factors_meet (point l) (interval l) ≡ true
point_here l = grind (arith, ints)

-- ---- factors

near_to : (f g : Factor) → In (near_of f) g → (is_wide g ≡ true) × (factors_meet f g ≡ true)
near_to (point l) g (inl e) = subst (λ (h : Factor). (is_wide h ≡ true) × (factors_meet (point l) h ≡ true)) e (refl, point_down l)
near_to (point l) g (inr (inl e)) = subst (λ (h : Factor). (is_wide h ≡ true) × (factors_meet (point l) h ≡ true)) e (refl, point_here l)
near_to (point l) g (inr (inr z)) = absurd z
near_to (interval l) g (inl e) = subst (λ (h : Factor). (is_wide h ≡ true) × (factors_meet (interval l) h ≡ true)) e (refl, meet_down l)
near_to (interval l) g (inr (inl e)) = subst (λ (h : Factor). (is_wide h ≡ true) × (factors_meet (interval l) h ≡ true)) e (refl, meet_itself (interval l))
near_to (interval l) g (inr (inr (inl e))) = subst (λ (h : Factor). (is_wide h ≡ true) × (factors_meet (interval l) h ≡ true)) e (refl, meet_up l)
near_to (interval l) g (inr (inr (inr z))) = absurd z

to_near : (f g : Factor) → is_wide g ≡ true → factors_meet f g ≡ true → In (near_of f) g
to_near f (point m) w h = absurd (true≢false (sym w))
to_near (point l) (interval m) w h =
    let k = and_true (int_le l (m +ℤ pos 1)) (int_le m l) h in
    step_apart l m (In (near_of (point l)) (interval m)) k.0 k.1 (λ e. inl (ap interval e)) (λ e. inr (inl (ap interval e)))
to_near (interval l) (interval m) w h =
    let k = and_true (int_le l (m +ℤ pos 1)) (int_le m (l +ℤ pos 1)) h in
    steps_apart l m (In (near_of (interval l)) (interval m)) k.0 k.1 (λ e. inl (ap interval e)) (λ e. inr (inl (ap interval e))) (λ e. inr (inr (inl (ap interval e))))

changed_near : (f g : Factor) → is_wide f ≡ true → IsChanged Down Up f g → In (near_of f) g
changed_near (point l) g w c = absurd (true≢false (sym w))
changed_near (interval l) g w (inl e) = inr (inl e)
changed_near (interval l) g w (inr (v, inl e)) = inl e
changed_near (interval l) g w (inr (v, inr e)) = inr (inr (inl e))

near_changed : (f g : Factor) → is_wide f ≡ true → In (near_of f) g → IsChanged Down Up f g
near_changed (point l) g w c = absurd (true≢false (sym w))
near_changed (interval l) g w (inl e) = inr (refl, inl e)
near_changed (interval l) g w (inr (inl e)) = inl e
near_changed (interval l) g w (inr (inr (inl e))) = inr (refl, inr e)
near_changed (interval l) g w (inr (inr (inr z))) = absurd z

-- ---- cells

meets_itself : (q : List Factor) → cells_meet q q ≡ true
meets_itself [] = refl
meets_itself (f ∷ fs) = both_true (factors_meet f f) (cells_meet fs fs) (meet_itself f) (meets_itself fs)

-- a factor in front of each near one
abbrev pub behind_near : Factor → List Factor → List (List Factor)
behind_near f gs = map (λ g. g ∷ gs) (near_of f)

pub around_to : (q r : List Factor) → In (around q) r → (list_all is_wide r ≡ true) × (cells_meet q r ≡ true)
around_to [] r (inl e) = subst (λ (s : List Factor). (list_all is_wide s ≡ true) × (cells_meet [] s ≡ true)) e (refl, refl)
around_to [] r (inr z) = absurd z
around_to (f ∷ fs) r m =
    let c = In-flat (behind_near f) (around fs) r m in
    let e = In-map (λ (g : Factor). g ∷ c.0) (near_of f) r c.2 in
    let n = near_to f e.0 e.1 in
    let k = around_to fs c.0 c.1 in
    subst (λ (s : List Factor). (list_all is_wide s ≡ true) × (cells_meet (f ∷ fs) s ≡ true)) e.2
    (both_true (is_wide e.0) (list_all is_wide c.0) n.0 k.0, both_true (factors_meet f e.0) (cells_meet fs c.0) n.1 k.1)

pub to_around : (q r : List Factor) → list_all is_wide r ≡ true → cells_meet q r ≡ true → In (around q) r
to_around [] [] w h = inl refl
to_around [] (g ∷ gs) w h = absurd (true≢false (sym h))
to_around (f ∷ fs) [] w h = absurd (true≢false (sym h))
to_around (f ∷ fs) (g ∷ gs) w h =
    let v = and_true (is_wide g) (list_all is_wide gs) w in
    let k = and_true (factors_meet f g) (cells_meet fs gs) h in
    flat-In (behind_near f) (around fs) gs (g ∷ gs) (to_around fs gs v.1 k.1) (map-In (λ (e : Factor). e ∷ gs) (near_of f) g (to_near f g v.0 k.0))

pub spread_near : (n : ℕ) (q r : List Factor) → list_all is_wide q ≡ true → IsSpread Down Up n q r → (list_all is_wide r ≡ true) × (cells_meet q r ≡ true)
spread_near zero q r w e = subst (λ (s : List Factor). (list_all is_wide s ≡ true) × (cells_meet q s ≡ true)) e (w, meets_itself q)
spread_near (suc n) [] [] w e = (refl, refl)
spread_near (suc n) [] (g ∷ gs) w e = absurd e
spread_near (suc n) (f ∷ fs) [] w e = absurd e
spread_near (suc n) (f ∷ fs) (g ∷ gs) w e =
    let v = and_true (is_wide f) (list_all is_wide fs) w in
    let h = near_to f g (changed_near f g v.0 e.0) in
    let k = spread_near n fs gs v.1 e.1 in
    (both_true (is_wide g) (list_all is_wide gs) h.0 k.0, both_true (factors_meet f g) (cells_meet fs gs) h.1 k.1)

pub near_spread : (n : ℕ) (q r : List Factor) → length q ≤ n → list_all is_wide q ≡ true → list_all is_wide r ≡ true → cells_meet q r ≡ true → IsSpread Down Up n q r
near_spread zero [] [] l w v h = refl
near_spread zero [] (g ∷ gs) l w v h = absurd (true≢false (sym h))
near_spread zero (f ∷ fs) r l w v h = absurd (omega arith)
near_spread (suc n) [] [] l w v h = tt
near_spread (suc n) [] (g ∷ gs) l w v h = absurd (true≢false (sym h))
near_spread (suc n) (f ∷ fs) [] l w v h = absurd (true≢false (sym h))
near_spread (suc n) (f ∷ fs) (g ∷ gs) l w v h =
    let a = and_true (is_wide f) (list_all is_wide fs) w in
    let b = and_true (is_wide g) (list_all is_wide gs) v in
    let k = and_true (factors_meet f g) (cells_meet fs gs) h in
    (near_changed f g a.0 (to_near f g b.0 k.0), near_spread n fs gs (omega arith) a.1 b.1 k.1)

-- ---- the range

pub meets_length : (q r : List Factor) → cells_meet q r ≡ true → length r ≡ length q
meets_length [] [] h = refl
meets_length [] (g ∷ gs) h = absurd (true≢false (sym h))
meets_length (f ∷ fs) [] h = absurd (true≢false (sym h))
meets_length (f ∷ fs) (g ∷ gs) h = ap suc (meets_length fs gs (and_true (factors_meet f g) (cells_meet fs gs) h).1)

inner_factor : (l m : ℤ) → is_inner_end l ≡ true → int_le l (m +ℤ pos 1) ≡ true → int_le m (l +ℤ pos 1) ≡ true → is_file_factor (interval m) ≡ true
inner_factor l m i h k = grind (arith, ints)

-- what shares a point with a full cube that can be moved either way is in range
pub inner_near : (q r : List Factor) → list_all is_wide q ≡ true → is_inner q ≡ true → list_all is_wide r ≡ true → cells_meet q r ≡ true → list_all is_file_factor r ≡ true
inner_near [] [] w i v h = refl
inner_near [] (g ∷ gs) w i v h = absurd (true≢false (sym h))
inner_near (f ∷ fs) [] w i v h = refl
inner_near (point l ∷ fs) (g ∷ gs) w i v h = absurd (true≢false (sym w))
inner_near (interval l ∷ fs) (point m ∷ gs) w i v h = absurd (true≢false (sym v))
inner_near (interval l ∷ fs) (interval m ∷ gs) w i v h =
    let j = and_true (is_inner_end l) (is_inner fs) i in
    let k = and_true (factors_meet (interval l) (interval m)) (cells_meet fs gs) h in
    let n = and_true (int_le l (m +ℤ pos 1)) (int_le m (l +ℤ pos 1)) k.0 in
    both_true (is_file_factor (interval m)) (list_all is_file_factor gs) (inner_factor l m j.0 n.0 n.1) (inner_near fs gs w j.1 v k.1)

-- the cube moved along all axes at once
abbrev pub moved_all : ℤ → List Factor → List Factor
moved_all z = map (λ f. interval (low f +ℤ z))

moved_wide : (z : ℤ) (q : List Factor) → list_all is_wide (moved_all z q) ≡ true
moved_wide z [] = refl
moved_wide z (f ∷ fs) = moved_wide z fs

down_meets : (q : List Factor) → list_all is_wide q ≡ true → cells_meet q (moved_all (negsuc 0) q) ≡ true
down_meets [] w = refl
down_meets (point l ∷ fs) w = absurd (true≢false (sym w))
down_meets (interval l ∷ fs) w = both_true (factors_meet (interval l) (interval (l +ℤ negsuc 0))) (cells_meet fs (moved_all (negsuc 0) fs)) (meet_down l) (down_meets fs w)

up_meets : (q : List Factor) → list_all is_wide q ≡ true → cells_meet q (moved_all (pos 1) q) ≡ true
up_meets [] w = refl
up_meets (point l ∷ fs) w = absurd (true≢false (sym w))
up_meets (interval l ∷ fs) w = both_true (factors_meet (interval l) (interval (l +ℤ pos 1))) (cells_meet fs (moved_all (pos 1) fs)) (meet_up l) (up_meets fs w)

inner_end : (l : ℤ) → is_file_factor (interval (l +ℤ negsuc 0)) ≡ true → is_file_factor (interval (l +ℤ pos 1)) ≡ true → is_inner_end l ≡ true
inner_end l h k = grind (arith, ints)

inner_by_moves : (q : List Factor) → list_all is_file_factor (moved_all (negsuc 0) q) ≡ true → list_all is_file_factor (moved_all (pos 1) q) ≡ true → is_inner q ≡ true
inner_by_moves [] h k = refl
inner_by_moves (f ∷ fs) h k =
    let a = and_true (is_file_factor (interval (low f +ℤ negsuc 0))) (list_all is_file_factor (moved_all (negsuc 0) fs)) h in
    let b = and_true (is_file_factor (interval (low f +ℤ pos 1))) (list_all is_file_factor (moved_all (pos 1) fs)) k in
    both_true (is_inner_end (low f)) (is_inner fs) (inner_end (low f) a.0 b.0) (inner_by_moves fs a.1 b.1)

-- a full cube all of whose neighbours are in range can be moved either way
pub near_inner : (q : List Factor) → list_all is_wide q ≡ true → ((r : List Factor) → list_all is_wide r ≡ true → cells_meet q r ≡ true → list_all is_file_factor r ≡ true) → is_inner q ≡ true
near_inner q w all = inner_by_moves q (all (moved_all (negsuc 0) q) (moved_wide (negsuc 0) q) (down_meets q w)) (all (moved_all (pos 1) q) (moved_wide (pos 1) q) (up_meets q w))
