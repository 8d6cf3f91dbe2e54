-- Whole cubes: the corners that are kept are those of the text, and their cells are in range.
use Rattle.std.proofs.Common.{◌≡◌, ℕ, zero, suc, ◌+◌, ◌*◌, ◌/◌, ◌%◌, ◌^◌, ◌<◌, ◌≤◌, max, ℤ, pos, ◌+ℤ◌, List, [], ◌∷◌, length, take, drop, get_or, map, Bool, true, false, ◌&&◌, not, nat_le, nat_lt, if◌then◌else◌, Option, None, Some, refl, sym, ap, ◌∙◌, subst, arith, ◌==◌, Result, Ok, add-one}
use Rattle.std.specs.List.{list_all}
use Rattle.std.specs.Ordering.{int_eq}
use Rattle.std.proofs.lemmas.Int.{ints}
use Rattle.std.proofs.lemmas.List.{take_all, length-map, drop_more}
use Rattle.std.proofs.Math.Nat.{pow-suc}
use Rattle.std.proofs.lemmas.Bool.Decides.{nat_tests, Decides-int_eq}
use Rattle.elem_cubes.specs.declared.range.TheConstants.{MAX_EMBEDDING}
use Rattle.elem_cubes.specs.Corners.{is_end, is_file_end, is_corner}
use Rattle.elem_cubes.specs.Cells.{Factor, point, interval, is_factor, is_file_factor, is_cell, full_cell, cell_of}
use Rattle.cube_sets.specs.Sets.{Members}
use Rattle.grid_files.specs.Items.{fits_corner, is_empty, is_full_end, cube_cause, cell_between, factor_between, in_front}
use Rattle.grid_files.specs.Corners.{IsCorner, IsCellOf}
use Rattle.grid_files.specs.declared.fault.Kind.{Kind}
use Rattle.grid_files.specs.declared.fault.TextCause.{TextCause}
use Rattle.grid_files.specs.declared.fault.TextCause.TheVariants.{DimensionTooLarge, NotElementary}
use Rattle.grid_files.specs.declared.corner.OpenCorner.{OpenCorner}
use Rattle.cube_sets.proofs.Sorting.{and_true}

both : (a b : Bool) → a ≡ true → b ≡ true → (a && b) ≡ true
both a b h k = rw (h, k) refl

all_weaker : {A : Type 0} (p q : A → Bool) (xs : List A) → ((x : A) → p x ≡ true → q x ≡ true) → list_all p xs ≡ true → list_all q xs ≡ true
all_weaker p q [] w h = refl
all_weaker p q (x ∷ xs) w h = let parts = and_true (p x) (list_all p xs) h in both (q x) (list_all q xs) (w x parts.0) (all_weaker p q xs w parts.1)

all_mapped : {A B : Type 0} (p : B → Bool) (f : A → B) (xs : List A) → list_all p (map f xs) ≡ list_all (λ x. p (f x)) xs
all_mapped p f [] = refl
all_mapped p f (x ∷ xs) = ap (λ v. p (f x) && v) (all_mapped p f xs)

-- what is in the range of the files is in that of cells
pub end_wider : (z : ℤ) → is_file_end z ≡ true → is_end z ≡ true
end_wider z h = grind (arith, ints)

factor_wider : (f : Factor) → is_file_factor f ≡ true → is_factor f ≡ true
factor_wider (point l) h = let parts = and_true (is_file_end l) (is_file_end l) h in both (is_end l) (is_end l) (end_wider l parts.0) (end_wider l parts.1)
factor_wider (interval l) h = let parts = and_true (is_file_end l) (is_file_end (l +ℤ pos 1)) h in both (is_end l) (is_end (l +ℤ pos 1)) (end_wider l parts.0) (end_wider (l +ℤ pos 1) parts.1)

-- a corner that is not too long is kept whole
pub kept_whole : (c : OpenCorner) (xs : List ℤ) → IsCorner c xs → c.count ≤ MAX_EMBEDDING → (take c.count c.numbers ≡ xs) × (length xs ≡ c.count)
kept_whole c xs is few =
    let n = is.count in
    let short : length xs ≡ c.count = omega arith in
    (is.numbers ∙ take_all MAX_EMBEDDING xs (omega arith), short)

pub long_corner : (c : OpenCorner) (xs : List ℤ) → IsCorner c xs → MAX_EMBEDDING < c.count → MAX_EMBEDDING < length xs
long_corner c xs is many = let n = is.count in omega arith

some_numbers : (test : ℤ → Bool) (xs : List ℤ) → fits_corner test xs ≡ true → 1 ≤ length xs
some_numbers test [] h = cc
some_numbers test (x ∷ xs) h = omega arith

sized : (n : ℕ) → 1 ≤ n → n ≤ MAX_EMBEDDING → (nat_le 1 n && nat_le n MAX_EMBEDDING) ≡ true
sized n h k = both (nat_le 1 n) (nat_le n MAX_EMBEDDING) (grind (arith, nat_tests)) (grind (arith, nat_tests))

pub corner_fits : (test : ℤ → Bool) (xs : List ℤ) → ((z : ℤ) → test z ≡ true → is_end z ≡ true) → fits_corner test xs ≡ true → length xs ≤ MAX_EMBEDDING → is_corner xs ≡ true
corner_fits test xs w h few =
    let parts = and_true (not (is_empty xs)) (list_all test xs) h in
    both (nat_le 1 (length xs) && nat_le (length xs) MAX_EMBEDDING) (list_all is_end xs) (sized (length xs) (some_numbers test xs h) few) (all_weaker test is_end xs w parts.1)

pub cell_fits : (q : List Factor) → 1 ≤ length q → length q ≤ MAX_EMBEDDING → list_all is_file_factor q ≡ true → is_cell q ≡ true
cell_fits q some few h =
    both (nat_le 1 (length q) && nat_le (length q) MAX_EMBEDDING) (list_all is_factor q) (sized (length q) some few) (all_weaker is_file_factor is_factor q factor_wider h)

pub full_in_range : (xs : List ℤ) → fits_corner is_full_end xs ≡ true → list_all is_file_factor (full_cell xs) ≡ true
full_in_range xs h =
    let parts = and_true (not (is_empty xs)) (list_all is_full_end xs) h in
    all_mapped is_file_factor interval xs ∙ parts.1

too_many : (n : ℕ) → MAX_EMBEDDING < n → nat_lt MAX_EMBEDDING n ≡ true
too_many n h = grind (arith, nat_tests)

few_enough : (n : ℕ) → n ≤ MAX_EMBEDDING → nat_lt MAX_EMBEDDING n ≡ false
few_enough n h = grind (arith, nat_tests)

pub too_large : (kind : Kind) (set : Members) (n : ℕ) (q : Option (List Factor)) → MAX_EMBEDDING < n → cube_cause kind set n q ≡ Some DimensionTooLarge
too_large kind set n None h = ap (λ b. if b then Some DimensionTooLarge else Some NotElementary) (too_many n h)
too_large kind set n (Some q) h = rw (too_many n h) refl

pub no_cell : (kind : Kind) (set : Members) (n : ℕ) → n ≤ MAX_EMBEDDING → cube_cause kind set n None ≡ Some NotElementary
no_cell kind set n h = ap (λ b. if b then Some DimensionTooLarge else Some NotElementary) (few_enough n h)

-- ---- a full cube

some_corner : (xs ys : List ℤ) (r : Option (List ℤ)) → ys ≡ xs → is_corner xs ≡ true → r ≡ (if is_corner ys then Some ys else None) → r ≡ Some xs
some_corner xs ys r e h is = is ∙ ap (λ l. if is_corner l then Some l else None) e ∙ ap (λ b. if b then Some xs else None) h

full_end_wider : (z : ℤ) → is_full_end z ≡ true → is_end z ≡ true
full_end_wider z h = end_wider z (and_true (is_file_end z) (is_file_end (z +ℤ pos 1)) h).0

pub full_corner : (c : OpenCorner) (xs : List ℤ) (r : Option (List ℤ)) → IsCorner c xs → fits_corner is_full_end xs ≡ true → c.count ≤ MAX_EMBEDDING
    → r ≡ (if is_corner (take c.count c.numbers) then Some (take c.count c.numbers) else None) → r ≡ Some xs
full_corner c xs r is h few e =
    let kept = kept_whole c xs is few in
    some_corner xs (take c.count c.numbers) r kept.0 (corner_fits is_full_end xs full_end_wider h (omega (arith, kept.1))) e

length-full : (xs : List ℤ) → length (full_cell xs) ≡ length xs
length-full xs = length-map xs interval

pub full_is : (c : OpenCorner) (xs lower : List ℤ) (r : Option (List Factor)) (result : Result (List Factor) TextCause) → IsCorner c xs → fits_corner is_full_end xs ≡ true
    → c.count ≤ MAX_EMBEDDING → lower ≡ xs → r ≡ (if is_cell (full_cell lower) then Some (full_cell lower) else None)
    → ((q : List Factor) → r ≡ Some q → list_all is_file_factor q ≡ true → result ≡ Ok q) → IsCellOf (length xs) (Some (full_cell xs)) result
full_is c xs lower r result is h few e made ranged =
    let kept = kept_whole c xs is few in
    let range = full_in_range xs h in
    let whole : is_cell (full_cell xs) ≡ true = cell_fits (full_cell xs) (omega (arith, some_numbers is_full_end xs h, length-full xs)) (omega (arith, kept.1, length-full xs)) range in
    let one : r ≡ Some (full_cell xs) = made ∙ ap (λ l. if is_cell (full_cell l) then Some (full_cell l) else None) e ∙ ap (λ b. if b then Some (full_cell xs) else None) whole in
    subst (IsCellOf (length xs) (Some (full_cell xs))) (sym (ranged (full_cell xs) one range)) (refl, omega (arith, kept.1), range)

-- ---- between two corners

abbrev factor_by : ℤ → Bool → Factor
factor_by l wide = if wide then interval l else point l

none_before : (k : ℕ) (ls us : List ℤ) → length ls ≡ length us → k ≤ length ls → cell_between (drop k ls) (drop k us) ≡ None → cell_between ls us ≡ None
none_before zero ls us e le h = h
none_before (suc k) [] us e le h = absurd (omega arith)
none_before (suc k) (l ∷ ls) [] e le h = absurd (omega arith)
none_before (suc k) (l ∷ ls) (u ∷ us) e le h =
    ap (in_front (factor_between l u)) (none_before k ls us (omega arith) (omega arith) h) ∙ none_behind (factor_between l u)
  where
    none_behind : (f : Option Factor) → in_front f None ≡ None
    none_behind None = refl
    none_behind (Some f) = refl

at_two : (i : ℕ) (ls us : List ℤ) (d : ℤ) → i < length ls → length ls ≡ length us
    → cell_between (drop i ls) (drop i us) ≡ in_front (factor_between (get_or ls i d) (get_or us i d)) (cell_between (drop (i + 1) ls) (drop (i + 1) us))
at_two i ls us d lt e =
    ap (λ x. cell_between x (drop i us)) (drop_more ls i d lt) ∙ ap (cell_between (get_or ls i d ∷ drop (i + 1) ls)) (drop_more us i d (omega arith))

pub not_between : (i : ℕ) (ls us : List ℤ) (d : ℤ) → i < length ls → length ls ≡ length us → factor_between (get_or ls i d) (get_or us i d) ≡ None → cell_between ls us ≡ None
not_between i ls us d lt e h =
    none_before i ls us e (omega arith) (at_two i ls us d lt e ∙ ap (λ f. in_front f (cell_between (drop (i + 1) ls) (drop (i + 1) us))) h)

one_more_axis : (l : ℤ) (ls : List ℤ) (axes : ℕ) (wide : Bool) → factor_by l wide ∷ cell_of ls axes ≡ cell_of (l ∷ ls) (axes * 2 + (if wide then 1 else 0))
one_more_axis l ls axes true =
    let odd : (axes * 2 + 1) % 2 ≡ 1 = omega arith in
    let half : (axes * 2 + 1) / 2 ≡ axes = omega arith in
    sym (ap (λ n. (if n == 1 then interval l else point l) ∷ cell_of ls ((axes * 2 + 1) / 2)) odd ∙ ap (λ n. interval l ∷ cell_of ls n) half)
one_more_axis l ls axes false =
    let even : (axes * 2 + 0) % 2 ≡ 0 = omega arith in
    let half : (axes * 2 + 0) / 2 ≡ axes = omega arith in
    sym (ap (λ n. (if n == 1 then interval l else point l) ∷ cell_of ls ((axes * 2 + 0) / 2)) even ∙ ap (λ n. point l ∷ cell_of ls n) half)

pub between_more : (i j : ℕ) (ls us : List ℤ) (d : ℤ) (axes : ℕ) (wide : Bool) → j ≡ i + 1 → i < length ls → length ls ≡ length us
    → factor_between (get_or ls i d) (get_or us i d) ≡ Some (factor_by (get_or ls i d) wide) → cell_between (drop j ls) (drop j us) ≡ Some (cell_of (drop j ls) axes)
    → cell_between (drop i ls) (drop i us) ≡ Some (cell_of (drop i ls) (axes * 2 + (if wide then 1 else 0)))
between_more i j ls us d axes wide j_is lt e f h =
    let g : cell_between (drop (i + 1) ls) (drop (i + 1) us) ≡ Some (cell_of (drop (i + 1) ls) axes) =
    subst (λ (n : ℕ). cell_between (drop n ls) (drop n us) ≡ Some (cell_of (drop n ls) axes)) j_is h in
    at_two i ls us d lt e
    ∙ ap (λ x. in_front x (cell_between (drop (i + 1) ls) (drop (i + 1) us))) f
    ∙ ap (in_front (Some (factor_by (get_or ls i d) wide))) g
    ∙ ap Some (one_more_axis (get_or ls i d) (drop (i + 1) ls) axes wide ∙ ap (λ x. cell_of x (axes * 2 + (if wide then 1 else 0))) (sym (drop_more ls i d lt)))

pub axes_room : (k m axes : ℕ) (wide : Bool) → m ≡ k + 1 → axes < 2 ^ k → axes * 2 + (if wide then 1 else 0) < 2 ^ m
axes_room k m axes true e h = omega (arith, pow-suc 2 k, ap (λ n. 2 ^ n) (e ∙ add-one k))
axes_room k m axes false e h = omega (arith, pow-suc 2 k, ap (λ n. 2 ^ n) (e ∙ add-one k))

front_some : (f : Option Factor) (r : Option (List Factor)) (q : List Factor) → in_front f r ≡ Some q
    → (g : Factor) × (qs : List Factor) × (f ≡ Some g) × (r ≡ Some qs) × (q ≡ g ∷ qs)
front_some None r q e = cc
front_some (Some f) None q e = cc
front_some (Some f) (Some qs) q e = (f, qs, refl, refl, cc)

factor_fits : (a b : Bool) (l u : ℤ) (g : Factor) → int_eq (l +ℤ pos 1) u ≡ b → is_file_end l ≡ true → is_file_end u ≡ true
    → (if a then Some (point l) else if b then Some (interval l) else None) ≡ Some g → is_file_factor g ≡ true
factor_fits true b l u g eb h k e = let f : point l ≡ g = cc in subst (λ (f : Factor). is_file_factor f ≡ true) f (both (is_file_end l) (is_file_end l) h h)
factor_fits false true l u g eb h k e =
    let f : interval l ≡ g = cc in
    let up : l +ℤ pos 1 ≡ u = (Decides-int_eq (l +ℤ pos 1) u).0 eb in
    subst (λ (f : Factor). is_file_factor f ≡ true) f (both (is_file_end l) (is_file_end (l +ℤ pos 1)) h (ap is_file_end up ∙ k))
factor_fits false false l u g eb h k e = cc

pub between_fits : (ls us : List ℤ) (q : List Factor) → list_all is_file_end ls ≡ true → list_all is_file_end us ≡ true → cell_between ls us ≡ Some q
    → (list_all is_file_factor q ≡ true) × (length q ≡ length ls)
between_fits [] [] q h k e = let f : [] ≡ q = cc in subst (λ (q : List Factor). (list_all is_file_factor q ≡ true) × (length q ≡ 0)) f (refl, refl)
between_fits [] (u ∷ us) q h k e = cc
between_fits (l ∷ ls) [] q h k e = cc
between_fits (l ∷ ls) (u ∷ us) q h k e =
    let parts = front_some (factor_between l u) (cell_between ls us) q e in
    let lows = and_true (is_file_end l) (list_all is_file_end ls) h in
    let highs = and_true (is_file_end u) (list_all is_file_end us) k in
    let rest = between_fits ls us parts.1 lows.1 highs.1 parts.3 in
    let first = factor_fits (int_eq l u) (int_eq (l +ℤ pos 1) u) l u parts.0 refl lows.0 highs.0 parts.2 in
    subst (λ (q : List Factor). (list_all is_file_factor q ≡ true) × (length q ≡ suc (length ls))) (sym parts.4)
    (both (is_file_factor parts.0) (list_all is_file_factor parts.1) first rest.0, ap suc rest.1)

pub uneven : (ls us : List ℤ) → (length ls ≡ length us → ⊥) → cell_between ls us ≡ None
uneven [] [] h = absurd (h refl)
uneven [] (u ∷ us) h = refl
uneven (l ∷ ls) [] h = refl
uneven (l ∷ ls) (u ∷ us) h = ap (in_front (factor_between l u)) (uneven ls us (λ e. h (ap suc e))) ∙ none_behind (factor_between l u)
  where
    none_behind : (f : Option Factor) → in_front f None ≡ None
    none_behind None = refl
    none_behind (Some f) = refl

-- the counts of two corners, which are not too long
pub uneven_cause : (kind : Kind) (set : Members) (l u : OpenCorner) (ls us : List ℤ) → IsCorner l ls → IsCorner u us → l.count ≤ MAX_EMBEDDING → u.count ≤ MAX_EMBEDDING
    → (l.count ≡ u.count → ⊥) → cube_cause kind set (max (length ls) (length us)) (cell_between ls us) ≡ Some NotElementary
uneven_cause kind set l u ls us il iu fl fu ne =
    let a = (kept_whole l ls il fl).1 in
    let b = (kept_whole u us iu fu).1 in
    ap (cube_cause kind set (max (length ls) (length us))) (uneven ls us (λ e. ne (omega arith))) ∙ no_cell kind set (max (length ls) (length us)) (omega arith)

pub file_corner : (c : OpenCorner) (xs : List ℤ) (r : Option (List ℤ)) → IsCorner c xs → fits_corner is_file_end xs ≡ true → c.count ≤ MAX_EMBEDDING
    → r ≡ (if is_corner (take c.count c.numbers) then Some (take c.count c.numbers) else None) → r ≡ Some xs
file_corner c xs r is h few e =
    let kept = kept_whole c xs is few in
    some_corner xs (take c.count c.numbers) r kept.0 (corner_fits is_file_end xs end_wider h (omega (arith, kept.1))) e

pub between_is : (l u : OpenCorner) (ls us corner : List ℤ) (axes : ℕ) (r : Option (List Factor)) (result : Result (List Factor) TextCause) → IsCorner l ls → IsCorner u us
    → fits_corner is_file_end ls ≡ true → fits_corner is_file_end us ≡ true → l.count ≤ MAX_EMBEDDING → l.count ≡ u.count → corner ≡ ls
    → Some (cell_of (take l.count l.numbers) axes) ≡ cell_between (take l.count l.numbers) (take u.count u.numbers) → axes < 2 ^ length (take l.count l.numbers)
    → r ≡ (if nat_lt axes (2 ^ length corner) && is_cell (cell_of corner axes) then Some (cell_of corner axes) else None)
    → ((q : List Factor) → r ≡ Some q → list_all is_file_factor q ≡ true → result ≡ Ok q) → IsCellOf (max (length ls) (length us)) (cell_between ls us) result
between_is l u ls us corner axes r result il iu hl hu few same is_corner between room made ranged =
    let kl = kept_whole l ls il few in
    let ku = kept_whole u us iu (omega arith) in
    let q = cell_of ls axes in
    let is : cell_between ls us ≡ Some q =
    sym (ap (λ x. Some (cell_of x axes)) (sym kl.0) ∙ between ∙ ap (λ x. cell_between x (take u.count u.numbers)) kl.0 ∙ ap (cell_between ls) ku.0) in
    let lows = (and_true (not (is_empty ls)) (list_all is_file_end ls) hl).1 in
    let highs = (and_true (not (is_empty us)) (list_all is_file_end us) hu).1 in
    let fit = between_fits ls us q lows highs is in
    let whole : is_cell q ≡ true = cell_fits q (omega (arith, fit.1, some_numbers is_file_end ls hl)) (omega (arith, fit.1, kl.1)) fit.0 in
    let small : nat_lt axes (2 ^ length ls) ≡ true = let r : axes < 2 ^ length ls = subst (λ (x : List ℤ). axes < 2 ^ length x) kl.0 room in grind (arith, nat_tests) in
    let one : r ≡ Some q = made ∙ ap (λ x. if nat_lt axes (2 ^ length x) && is_cell (cell_of x axes) then Some (cell_of x axes) else None) is_corner
    ∙ ap (λ b. if b then Some q else None) (both (nat_lt axes (2 ^ length ls)) (is_cell q) small whole) in
    subst (IsCellOf (max (length ls) (length us)) (cell_between ls us)) (sym (ranged q one fit.0)) (is, omega (arith, kl.1, ku.1), fit.0)
