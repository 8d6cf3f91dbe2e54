-- Walks along the axes of a cell.
use Rattle.std.proofs.Common.{◌≡◌, ℕ, zero, suc, ◌+◌, ◌-◌, ◌<◌, ◌≤◌, refl, sym, ap, ◌∙◌, arith, List, [], ◌∷◌, ◌++◌, length, take, drop, get_or, set, map, Bool, true, false, not, cond, true≢false, Some, None}
use mathlib.Core.Bool.{beq}
use Rattle.std.specs.Prelude.{ℤ, pos, negsuc, neg_ℤ, ◌+ℤ◌}
use Rattle.std.specs.List.{prefix_len}
use Rattle.std.specs.Iterator.{MakesProgress, item_count}
use Rattle.std.proofs.Math.Seq.{take-add}
use Rattle.std.proofs.Math.ListN.{drop_of_length-le}
use Rattle.std.proofs.lemmas.List.{take_more, drop-drop, get_or-drop, length-drop}
use Rattle.elem_cubes.specs.Cells.{Factor, point, interval, low, high, is_wide}
use Rattle.elem_cubes.specs.Faces.{turned, behind, changed, ends_of, intervals_at}
use Rattle.elem_cubes.specs.Walks.{factor_at, is_wide_as, is_turned, sign_of, behind_all, left, KeepsWalk}
use Rattle.elem_cubes.proofs.Making.{drop_next}

-- ---- lists

map-none : {A : Type 0} (f : A → A) → ((x : A) → f x ≡ x) → (xs : List A) → map f xs ≡ xs
map-none f h [] = refl
map-none f h (x ∷ xs) = λ i. h x i ∷ map-none f h xs i

map-map : {A B C : Type 0} (f : B → C) (g : A → B) (h : A → C) → ((x : A) → f (g x) ≡ h x) → (xs : List A) → map f (map g xs) ≡ map h xs
map-map f g h e [] = refl
map-map f g h e (x ∷ xs) = λ i. e x i ∷ map-map f g h e xs i

pub set_parts : {A : Type 0} (xs : List A) (i : ℕ) (y : A) → i < length xs → set xs i y ≡ take i xs ++ y ∷ drop (i + 1) xs
set_parts [] i y h = absurd (omega arith)
set_parts (x ∷ xs) zero y h = refl
set_parts (x ∷ xs) (suc i) y h = ap (λ ys. x ∷ ys) (set_parts xs i y (omega arith)) ∙ ap (λ n. x ∷ (take i xs ++ y ∷ drop n (x ∷ xs))) (let e : suc (i + 1) ≡ suc i + 1 = omega arith in e)

-- ---- signs

pub not_not : (b : Bool) → not (not b) ≡ b
not_not true = refl
not_not false = refl

turned-sign : (f : Factor) (fs : List Factor) → turned f (sign_of (is_turned fs)) ≡ sign_of (is_turned (f ∷ fs))
turned-sign (point l) fs = refl
turned-sign (interval l) fs = flip (is_turned fs)
  where
    flip : (b : Bool) → neg_ℤ (sign_of b) ≡ sign_of (not b)
    flip true = refl
    flip false = refl

turned-other : (f : Factor) (fs : List Factor) → turned f (sign_of (not (is_turned fs))) ≡ sign_of (not (is_turned (f ∷ fs)))
turned-other (point l) fs = refl
turned-other (interval l) fs = flip (is_turned fs)
  where
    flip : (b : Bool) → neg_ℤ (sign_of (not b)) ≡ sign_of (not (not b))
    flip true = refl
    flip false = refl

pub behind_plus : (fs rs : List Factor) → behind_all fs (rs, pos 1) ≡ (fs ++ rs, sign_of (is_turned fs))
behind_plus [] rs = refl
behind_plus (f ∷ fs) rs = ap (behind f) (behind_plus fs rs) ∙ ap (λ s. (f ∷ (fs ++ rs), s)) (turned-sign f fs)

pub behind_minus : (fs rs : List Factor) → behind_all fs (rs, negsuc 0) ≡ (fs ++ rs, sign_of (not (is_turned fs)))
behind_minus [] rs = refl
behind_minus (f ∷ fs) rs = ap (behind f) (behind_minus fs rs) ∙ ap (λ s. (f ∷ (fs ++ rs), s)) (turned-other f fs)

not_cond : (w t : Bool) → not (cond w (not t) t) ≡ cond w (not (not t)) (not t)
not_cond true t = refl
not_cond false t = refl

turned_suc : (q : List Factor) (a : ℕ) → a < length q → is_turned (take (suc a) q) ≡ cond (is_wide (factor_at q a)) (not (is_turned (take a q))) (is_turned (take a q))
turned_suc [] a h = absurd (omega arith)
turned_suc (point l ∷ qs) zero h = refl
turned_suc (interval l ∷ qs) zero h = refl
turned_suc (point l ∷ qs) (suc a) h = turned_suc qs a (omega arith)
turned_suc (interval l ∷ qs) (suc a) h = ap not (turned_suc qs a (omega arith)) ∙ not_cond (is_wide (factor_at qs a)) (is_turned (take a qs))

pub turned_more : (q : List Factor) (a : ℕ) → a < length q → is_turned (take (a + 1) q) ≡ cond (is_wide (factor_at q a)) (not (is_turned (take a q))) (is_turned (take a q))
turned_more q a h = ap (λ n. is_turned (take n q)) (let e : a + 1 ≡ suc a = omega arith in e) ∙ turned_suc q a h

-- ---- what is left

behind-append : (fs gs : List Factor) (g : List Factor × ℤ) → behind_all (fs ++ gs) g ≡ behind_all fs (behind_all gs g)
behind-append [] gs g = refl
behind-append (f ∷ fs) gs g = ap (behind f) (behind-append fs gs g)

-- factors that have no changes are passed
changed_skip : (change : Factor → List (Factor × ℤ)) (p : Factor → Bool) → ((f : Factor) → p f ≡ true → change f ≡ []) → (fs : List Factor) (n : ℕ) → n ≡ prefix_len p fs
    → changed change fs ≡ map (behind_all (take n fs)) (changed change (drop n fs))
changed_skip change p h [] zero e = refl
changed_skip change p h [] (suc n) e = absurd (omega arith)
changed_skip change p h (f ∷ fs) zero e = sym (map-none (behind_all []) (λ g. refl) (changed change (f ∷ fs)))
changed_skip change p h (f ∷ fs) (suc n) e = elim (p f) as (λ b. p f ≡ b → changed change (f ∷ fs) ≡ map (behind_all (f ∷ take n fs)) (changed change (drop n fs))) [
  | true ↦ λ t.
      let m : suc n ≡ 1 + prefix_len p fs = e ∙ ap (λ c. cond c (1 + prefix_len p fs) 0) t in
      ap (λ es. map (λ (e : Factor × ℤ). (e.0 ∷ fs, e.1)) es ++ map (behind f) (changed change fs)) (h f t)
      ∙ ap (map (behind f)) (changed_skip change p h fs n (omega arith))
      ∙ map-map (behind f) (behind_all (take n fs)) (behind_all (f ∷ take n fs)) (λ g. refl) (changed change (drop n fs))
  | false ↦ λ t. let m : suc n ≡ 0 = e ∙ ap (λ c. cond c (1 + prefix_len p fs) 0) t in absurd (omega arith)
] refl

pub left_skip : (change : Factor → List (Factor × ℤ)) (p : Factor → Bool) → ((f : Factor) → p f ≡ true → change f ≡ []) → (q : List Factor) (a n : ℕ) → n ≡ prefix_len p (drop a q)
    → left change q a false ≡ left change q (a + n) false
left_skip change p h q a n e =
    let t : take a q ++ take n (drop a q) ≡ take (a + n) q = sym (take-add a n q) in
    let d : drop n (drop a q) ≡ drop (a + n) q = drop-drop n a q in
    ap (map (behind_all (take a q))) (changed_skip change p h (drop a q) n e)
    ∙ map-map (behind_all (take a q)) (behind_all (take n (drop a q))) (behind_all (take a q ++ take n (drop a q))) (λ g. sym (behind-append (take a q) (take n (drop a q)) g)) (changed change (drop n (drop a q)))
    ∙ (λ i. map (behind_all (t i)) (changed change (d i)))

pub left_end : (change : Factor → List (Factor × ℤ)) (q : List Factor) (a : ℕ) (second : Bool) → a ≡ length q → second ≡ false → left change q a second ≡ []
left_end change q a second e s = ap (left change q a) s ∙ ap (λ gs. map (behind_all (take a q)) (changed change gs)) (drop_of_length-le q (omega arith))

-- where a run of factors that pass a test stops, one fails it
stops : (p : Factor → Bool) (xs : List Factor) (n : ℕ) (d : Factor) → n ≡ prefix_len p xs → n < length xs → p (get_or xs n d) ≡ false
stops p [] n d e h = absurd (omega arith)
stops p (x ∷ xs) zero d e h = elim (p x) as (λ b. p x ≡ b → p x ≡ false) [
  | true ↦ λ t. let m : 0 ≡ 1 + prefix_len p xs = e ∙ ap (λ c. cond c (1 + prefix_len p xs) 0) t in absurd (omega arith)
  | false ↦ λ t. t
] refl
stops p (x ∷ xs) (suc n) d e h = elim (p x) as (λ b. p x ≡ b → p (get_or xs n d) ≡ false) [
  | true ↦ λ t. let m : suc n ≡ 1 + prefix_len p xs = e ∙ ap (λ c. cond c (1 + prefix_len p xs) 0) t in stops p xs n d (omega arith) (omega arith)
  | false ↦ λ t. let m : suc n ≡ 0 = e ∙ ap (λ c. cond c (1 + prefix_len p xs) 0) t in absurd (omega arith)
] refl

pub stops_at : (p : Factor → Bool) (q : List Factor) (a n : ℕ) → n ≡ a + prefix_len p (drop a q) → n < length q → a ≤ length q → p (factor_at q n) ≡ false
stops_at p q a n e h w =
    let m : n ≡ a + (n - a) = omega arith in
    ap (λ k. p (factor_at q k)) m
    ∙ ap p (sym (get_or-drop a q (n - a) (point (pos 0))))
    ∙ stops p (drop a q) (n - a) (point (pos 0)) (omega arith) (omega (arith, length-drop a q))

module _ (change : Factor → List (Factor × ℤ)) (q : List Factor) (a : ℕ) (x y : Factor) (s t : ℤ) (h : a < length q) (two : change (factor_at q a) ≡ (x, s) ∷ (y, t) ∷ []) where
  rest : List Factor
  rest = drop (a + 1) q

  whole : changed change (drop a q) ≡ (x ∷ rest, s) ∷ (y ∷ rest, t) ∷ map (behind (factor_at q a)) (changed change rest)
  unfolding rest
  whole =
      ap (changed change) (drop_next q a (point (pos 0)) h)
      ∙ ap (λ es. map (λ (e : Factor × ℤ). (e.0 ∷ drop (a + 1) q, e.1)) es ++ map (behind (factor_at q a)) (changed change (drop (a + 1) q))) two

  pub walk_first : left change q a false ≡ behind_all (take a q) (x ∷ drop (a + 1) q, s) ∷ left change q a true
  unfolding rest
  walk_first =
      ap (map (behind_all (take a q))) whole
      ∙ ap (λ gs. behind_all (take a q) (x ∷ rest, s) ∷ gs) (sym (ap (λ gs. map (behind_all (take a q)) (drop 1 gs)) whole))

  pub walk_second : left change q a true ≡ behind_all (take a q) (y ∷ drop (a + 1) q, t) ∷ left change q (a + 1) false
  unfolding rest
  walk_second =
      ap (λ gs. map (behind_all (take a q)) (drop 1 gs)) whole
      ∙ ap (λ gs. behind_all (take a q) (y ∷ rest, t) ∷ gs)
      (map-map (behind_all (take a q)) (behind (factor_at q a)) (behind_all (take (a + 1) q))
      (λ g. sym (behind-append (take a q) (factor_at q a ∷ []) g) ∙ ap (λ fs. behind_all fs g) (sym (take_more q a (point (pos 0)) h)))
      (changed change rest))

-- one more factor is passed
passes : (wide w : Bool) (f : Factor) → w ≡ is_wide f → not (beq w wide) ≡ true → is_wide_as (not wide) f ≡ true
passes true true f e t = absurd (true≢false (sym t))
passes true false f e t = ap not (sym e)
passes false true f e t = sym e
passes false false f e t = absurd (true≢false (sym t))

turned_either : (t w : Bool) → not (beq t w) ≡ cond w (not t) t
turned_either true true = refl
turned_either true false = refl
turned_either false true = refl
turned_either false false = refl

pub prefix_more : (q : List Factor) (a : ℕ) (wide w : Bool) → a < length q → w ≡ is_wide (factor_at q a) → not (beq w wide) ≡ true
    → a + 1 + prefix_len (is_wide_as (not wide)) (drop (a + 1) q) ≡ a + prefix_len (is_wide_as (not wide)) (drop a q)
prefix_more q a wide w h e t =
    let p = is_wide_as (not wide) in
    let n : prefix_len p (drop a q) ≡ 1 + prefix_len p (drop (a + 1) q) =
    ap (prefix_len p) (drop_next q a (point (pos 0)) h) ∙ ap (λ c. cond c (1 + prefix_len p (drop (a + 1) q)) 0) (passes wide w (factor_at q a) e t) in
    omega arith

pub turned_next : (q : List Factor) (a : ℕ) (t w : Bool) → a < length q → w ≡ is_wide (factor_at q a) → t ≡ is_turned (take a q) → not (beq t w) ≡ is_turned (take (a + 1) q)
turned_next q a t w h e f = turned_either t w ∙ (λ i. cond (e i) (not (f i)) (f i)) ∙ sym (turned_more q a h)

-- ---- faces and cofaces

two_ends : (f : Factor) → is_wide f ≡ true → ends_of f ≡ (point (high f), pos 1) ∷ (point (low f), negsuc 0) ∷ []
two_ends (point l) w = absurd (true≢false (sym w))
two_ends (interval l) w = refl

two_intervals : (f : Factor) → is_wide f ≡ false → intervals_at f ≡ (interval (low f), negsuc 0) ∷ (interval (low f +ℤ negsuc 0), pos 1) ∷ []
two_intervals (point l) w = refl
two_intervals (interval l) w = absurd (true≢false w)

pub no_ends : (f : Factor) → is_wide_as false f ≡ true → ends_of f ≡ []
no_ends (point l) w = refl
no_ends (interval l) w = absurd (true≢false (sym w))

pub no_intervals : (f : Factor) → is_wide_as true f ≡ true → intervals_at f ≡ []
no_intervals (point l) w = absurd (true≢false (sym w))
no_intervals (interval l) w = refl

module _ (q : List Factor) (a : ℕ) (h : a < length q) where
  plus : (x : Factor) → behind_all (take a q) (x ∷ drop (a + 1) q, pos 1) ≡ (set q a x, sign_of (is_turned (take a q)))
  plus x = behind_plus (take a q) (x ∷ drop (a + 1) q) ∙ ap (λ r. (r, sign_of (is_turned (take a q)))) (sym (set_parts q a x h))

  minus : (x : Factor) → behind_all (take a q) (x ∷ drop (a + 1) q, negsuc 0) ≡ (set q a x, sign_of (not (is_turned (take a q))))
  minus x = behind_minus (take a q) (x ∷ drop (a + 1) q) ∙ ap (λ r. (r, sign_of (not (is_turned (take a q))))) (sym (set_parts q a x h))

  pub faces_first : is_wide (factor_at q a) ≡ true → left ends_of q a false ≡ (set q a (point (high (factor_at q a))), sign_of (is_turned (take a q))) ∷ left ends_of q a true
  faces_first w =
      let f = factor_at q a in
      walk_first ends_of q a (point (high f)) (point (low f)) (pos 1) (negsuc 0) h (two_ends f w) ∙ ap (λ g. g ∷ left ends_of q a true) (plus (point (high f)))

  pub faces_second : is_wide (factor_at q a) ≡ true → left ends_of q a true ≡ (set q a (point (low (factor_at q a))), sign_of (not (is_turned (take a q)))) ∷ left ends_of q (a + 1) false
  faces_second w =
      let f = factor_at q a in
      walk_second ends_of q a (point (high f)) (point (low f)) (pos 1) (negsuc 0) h (two_ends f w) ∙ ap (λ g. g ∷ left ends_of q (a + 1) false) (minus (point (low f)))

  pub cofaces_first : is_wide (factor_at q a) ≡ false → left intervals_at q a false ≡ (set q a (interval (low (factor_at q a))), sign_of (not (is_turned (take a q)))) ∷ left intervals_at q a true
  cofaces_first w =
      let f = factor_at q a in
      walk_first intervals_at q a (interval (low f)) (interval (low f +ℤ negsuc 0)) (negsuc 0) (pos 1) h (two_intervals f w) ∙ ap (λ g. g ∷ left intervals_at q a true) (minus (interval (low f)))

  pub cofaces_second : is_wide (factor_at q a) ≡ false → left intervals_at q a true ≡ (set q a (interval (low (factor_at q a) +ℤ negsuc 0)), sign_of (is_turned (take a q))) ∷ left intervals_at q (a + 1) false
  cofaces_second w =
      let f = factor_at q a in
      walk_second intervals_at q a (interval (low f)) (interval (low f +ℤ negsuc 0)) (negsuc 0) (pos 1) h (two_intervals f w) ∙ ap (λ g. g ∷ left intervals_at q (a + 1) false) (plus (interval (low f +ℤ negsuc 0)))

pub left_start : (change : Factor → List (Factor × ℤ)) (q : List Factor) → left change q 0 false ≡ changed change q
left_start change q = map-none (behind_all []) (λ g. refl) (changed change q)

-- ---- an iterator's state is the list of what is left

pub gave : {A : Type 0} (before after : List A) (x : A) → before ≡ x ∷ after → MakesProgress (λ _. Unit {0}) (item_count (λ (s : List A). s)) before (Some x) after
gave before after x e = record { on = λ f. (tt, tt, (let l : length before ≡ suc (length after) = ap length e in omega arith)); keeps = tt; rests = λ f. tt }

pub ended : {A : Type 0} (before after : List A) → MakesProgress {S = List A} {A = A} (λ _. Unit {0}) (item_count (λ (s : List A). s)) before None after
ended before after = record { on = λ f. tt; keeps = tt; rests = λ f. tt }

-- ---- what the walks keep

pub keeps_second : (wide : Bool) (q : List Factor) (a : ℕ) (negative : Bool) → a < length q → negative ≡ is_turned (take a q) → is_wide (factor_at q a) ≡ wide → KeepsWalk wide q a true negative
keeps_second wide q a negative h s w = record { within = omega arith; signed = s; twice = λ e. (h, w) }

pub keeps_next : (wide : Bool) (q : List Factor) (a : ℕ) (b negative : Bool) → a < length q → b ≡ is_turned (take a q) → is_wide (factor_at q a) ≡ wide → negative ≡ cond wide (not b) b → KeepsWalk wide q (a + 1) false negative
keeps_next wide q a b negative h s w n = record {
  within = omega arith;
  signed = n ∙ (λ i. cond (sym w i) (not (s i)) (s i)) ∙ sym (turned_more q a h);
  twice = λ e. absurd (true≢false (sym e));
}

pub keeps_end : (wide : Bool) (q : List Factor) (a : ℕ) (second negative : Bool) → a ≤ length q → second ≡ false → negative ≡ is_turned (take a q) → KeepsWalk wide q a second negative
keeps_end wide q a second negative h s n = record { within = h; signed = n; twice = λ e. absurd (true≢false (sym e ∙ s)) }
