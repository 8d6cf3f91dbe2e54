-- Cells made from a corner and axes, their upper corners, and the walk over the factors of two cells at once.
use Rattle.std.proofs.Common.{◌≡◌, ℕ, zero, suc, ◌+◌, ◌-◌, ◌*◌, ◌/◌, ◌%◌, ◌^◌, ◌<◌, refl, sym, ap, ◌∙◌, subst, arith, List, [], ◌∷◌, ◌++◌, length, take, drop, get_or, set, replicate, append_assoc, Bool, true, false, cond, eqb, IsTrue, ◌&&◌, nat_lt}
use Rattle.std.specs.Prelude.{ℤ, pos, negsuc, ◌+ℤ◌, int_le, int_lt}
use Rattle.std.specs.List.{list_all}
use Rattle.std.proofs.Math.Nat.{pow-suc}
use Rattle.std.proofs.Math.Seq.{drop-cons}
use Rattle.std.proofs.lemmas.Nat.{shr_split, mod_below, pow_pos}
use Rattle.std.proofs.lemmas.List.{take_at, length-map, drop_more}
use Rattle.std.proofs.lemmas.Bool.{lt-ltb}
use Rattle.std.proofs.lemmas.Grind.{take-set_at}
use Rattle.std.proofs.lemmas.Int.{ints}
use Rattle.elem_cubes.specs.declared.range.TheConstants.{LOW, HIGH, MAX_EMBEDDING}
use Rattle.elem_cubes.specs.declared.packed.TheConstants.{PADDING}
use Rattle.elem_cubes.specs.Corners.{is_end, is_corner}
use Rattle.elem_cubes.specs.Cells.{Factor, factor_of, low, high, is_factor, is_cell, upper_of, cell_of, full_cell}
use Rattle.elem_cubes.specs.Faces.{is_part, is_face}
use Rattle.elem_cubes.specs.Packed.{padded, KeepsCorner, KeepsCell}
use Rattle.elem_cubes.specs.KeepingLemmas.{length-cell_of}
use Rattle.elem_cubes.proofs.Conjunctions.{both, left, right}
use Rattle.elem_cubes.proofs.Keeping.{has_length, all_factors, cell_of_corner}

-- ---- new cells

pub few_axes : (a k : ℕ) → a / 2 ^ k ≡ 0 → a < 2 ^ k
few_axes a k e = let s = shr_split a k in let z : a / 2 ^ k * 2 ^ k ≡ 0 = ap (λ n. n * 2 ^ k) e ∙ omega arith in omega (arith, mod_below a (2 ^ k) (pow_pos k))

pub new_kept : (ends : List ℤ) (len axes : ℕ) (lower : List ℤ) → KeepsCorner ends len → take len ends ≡ lower → axes / 2 ^ len ≡ 0
    → IsTrue (list_all is_factor (cell_of lower axes)) → KeepsCell ends len axes
new_kept ends len axes lower k e f h = record {
  long = k.long;
  rest = k.rest;
  few = few_axes axes len f;
  cell = cell_of_corner (take len ends) axes k.corner (let P : List ℤ → Type 0 = λ xs. IsTrue (list_all is_factor (cell_of xs axes)) in subst P (sym e) h);
}

chosen : {A : Type 0} (b : Bool) (x y : A) → b ≡ true → x ≡ cond b x y
chosen true x y e = refl
chosen false x y e = cc

other : {A : Type 0} (b : Bool) (x y : A) → b ≡ false → y ≡ cond b x y
other true x y e = cc
other false x y e = refl

-- `new` of a corner and axes
abbrev pub makes_cell : List ℤ → ℕ → Bool
makes_cell lower axes = nat_lt axes (2 ^ length lower) && is_cell (cell_of lower axes)

pub new_seen : (ends : List ℤ) (len axes : ℕ) (lower : List ℤ) → KeepsCorner ends len → take len ends ≡ lower → axes / 2 ^ len ≡ 0
    → IsTrue (list_all is_factor (cell_of lower axes)) → makes_cell lower axes ≡ true
new_seen ends len axes lower k e f h =
    let few : axes < 2 ^ length lower = let P : ℕ → Type 0 = λ n. axes < 2 ^ n in subst P (sym k.long ∙ ap length e) (few_axes axes len f) in
    let corner : IsTrue (is_corner lower) = let P : List ℤ → Type 0 = λ xs. IsTrue (is_corner xs) in subst P e k.corner in
    both (nat_lt axes (2 ^ length lower)) (is_cell (cell_of lower axes)) (lt-ltb axes (2 ^ length lower) few) (cell_of_corner lower axes corner h)

pub makes : {A : Type 0} (lower : List ℤ) (axes : ℕ) (x y : A) → makes_cell lower axes ≡ true → x ≡ cond (makes_cell lower axes) x y
makes lower axes x y e = chosen (makes_cell lower axes) x y e

-- a test of the factors from an axis on
pub test_step : (p : Factor → Bool) (ls : List ℤ) (a i : ℕ) → i < length ls
    → list_all p (cell_of (drop i ls) a) ≡ (p (factor_of (eqb (a % 2) 1) (get_or ls i (pos 0))) && list_all p (cell_of (drop (i + 1) ls) (a / 2)))
test_step p ls a i h = ap (λ xs. list_all p (cell_of xs a)) (drop_more ls i (pos 0) h)

-- ---- full cubes

pub all_axes : (ls : List ℤ) → cell_of ls (2 ^ length ls - 1) ≡ full_cell ls
all_axes [] = refl
all_axes (l ∷ ls) =
    let p = pow-suc 2 (length ls) in
    let z = pow_pos (length ls) in
    let e : (2 ^ suc (length ls) - 1) % 2 ≡ 1 = omega arith in
    let f : (2 ^ suc (length ls) - 1) / 2 ≡ 2 ^ length ls - 1 = omega arith in
    λ i. factor_of (eqb (e i) 1) l ∷ (ap (cell_of ls) f ∙ all_axes ls) i

pub makes_full : (ls : List ℤ) (a len : ℕ) → length ls ≡ len → a ≡ 2 ^ len - 1 → (makes_cell ls a ≡ is_cell (full_cell ls)) × (cell_of ls a ≡ full_cell ls)
makes_full ls a len e f =
    let g : a ≡ 2 ^ length ls - 1 = f ∙ ap (λ n. 2 ^ n - 1) (sym e) in
    let s : cell_of ls a ≡ full_cell ls = ap (cell_of ls) g ∙ all_axes ls in
    let t : a < 2 ^ length ls = let z = pow_pos (length ls) in omega arith in
    (ap (λ v. v && is_cell (cell_of ls a)) (lt-ltb a (2 ^ length ls) t) ∙ ap is_cell s, s)

-- ---- two cells, factor by factor

pub drop_next : {A : Type 0} (xs : List A) (i : ℕ) (d : A) → i < length xs → drop i xs ≡ get_or xs i d ∷ drop (i + 1) xs
drop_next xs i d h = drop-cons xs i d h ∙ ap (λ n. get_or xs i d ∷ drop n xs) (let e : suc i ≡ i + 1 = omega arith in e)

pub parts_step : (ls ms : List ℤ) (a b i : ℕ) → i < length ls → i < length ms
    → is_face (cell_of (drop i ls) a) (cell_of (drop i ms) b)
    ≡ (is_part (factor_of (eqb (a % 2) 1) (get_or ls i (pos 0))) (factor_of (eqb (b % 2) 1) (get_or ms i (pos 0))) && is_face (cell_of (drop (i + 1) ls) (a / 2)) (cell_of (drop (i + 1) ms) (b / 2)))
parts_step ls ms a b i s t =
    ap (λ xs. is_face (cell_of xs a) (cell_of (drop i ms) b)) (drop_next ls i (pos 0) s)
    ∙ ap (λ xs. is_face (cell_of (get_or ls i (pos 0) ∷ drop (i + 1) ls) a) (cell_of xs b)) (drop_next ms i (pos 0) t)

-- ---- upper corners

pub high-factor_of : (n : ℕ) (l : ℤ) → n < 2 → high (factor_of (eqb n 1) l) ≡ l +ℤ pos n
high-factor_of zero l h = omega (arith, ints)
high-factor_of (suc zero) l h = refl
high-factor_of (suc (suc n)) l h = absurd (omega arith)

pub uppers_step : (ends uppers : List ℤ) (i rest : ℕ) (v : ℤ) → i < length ends → length uppers ≡ length ends → v ≡ get_or ends i (pos 0) +ℤ pos (rest % 2)
    → take (i + 1) (set uppers i v) ++ upper_of (cell_of (drop (i + 1) ends) (rest / 2)) ≡ take i uppers ++ upper_of (cell_of (drop i ends) rest)
uppers_step ends uppers i rest v s l e =
    let l0 = get_or ends i (pos 0) in
    ap (λ us. us ++ upper_of (cell_of (drop (i + 1) ends) (rest / 2))) (take-set_at uppers i (i + 1) v refl (omega arith))
    ∙ append_assoc (take i uppers) (v ∷ []) (upper_of (cell_of (drop (i + 1) ends) (rest / 2)))
    ∙ ap (λ w. take i uppers ++ w ∷ upper_of (cell_of (drop (i + 1) ends) (rest / 2))) (e ∙ sym (high-factor_of (rest % 2) l0 (omega arith)))
    ∙ ap (λ xs. take i uppers ++ upper_of (cell_of xs rest)) (sym (drop_next ends i (pos 0) s))

below_max : (x : ℤ) → int_le x (HIGH +ℤ pos 1) ≡ true → int_lt x (pos 2147483647) ≡ true
below_max x h = grind (arith, ints)

pub ends_below_max : (xs : List ℤ) (k : ℕ) → IsTrue (list_all is_end xs) → IsTrue (list_all (λ e. int_lt e (pos 2147483647)) (xs ++ replicate k PADDING))
ends_below_max [] zero h = refl
ends_below_max [] (suc k) h = ends_below_max [] k h
ends_below_max (x ∷ xs) k h = both (int_lt x (pos 2147483647)) _
    (below_max x (right (int_le (LOW +ℤ negsuc 0) x) (int_le x (HIGH +ℤ pos 1)) (left (is_end x) (list_all is_end xs) h)))
    (ends_below_max xs k (right (is_end x) (list_all is_end xs) h))

padding_stays : (k : ℕ) → upper_of (cell_of (replicate k PADDING) 0) ≡ replicate k PADDING
padding_stays zero = refl
padding_stays (suc k) = ap (λ xs. PADDING ∷ xs) (padding_stays k)

pub upper-padded : (ls : List ℤ) (a k : ℕ) → a < 2 ^ length ls → upper_of (cell_of (ls ++ replicate k PADDING) a) ≡ upper_of (cell_of ls a) ++ replicate k PADDING
upper-padded [] a k h = let e : a ≡ 0 = omega arith in ap (λ n. upper_of (cell_of (replicate k PADDING) n)) e ∙ padding_stays k
upper-padded (l ∷ ls) a k h =
    let half : a / 2 < 2 ^ length ls = omega (arith, pow-suc 2 (length ls)) in
    ap (λ us. high (factor_of (eqb (a % 2) 1) l) ∷ us) (upper-padded ls (a / 2) k half)

high_ends : (q : List Factor) → IsTrue (list_all is_factor q) → IsTrue (list_all is_end (upper_of q))
high_ends [] h = refl
high_ends (f ∷ q) h = both (is_end (high f)) _ (right (is_end (low f)) (is_end (high f)) (left (is_factor f) (list_all is_factor q) h)) (high_ends q (right (is_factor f) (list_all is_factor q) h))

module _ (ends : List ℤ) (len axes : ℕ) (q : List Factor) (k : KeepsCell ends len axes) (e : cell_of (take len ends) axes ≡ q)
    (uppers : List ℤ) (u : uppers ≡ upper_of (cell_of ends axes)) where
  us : List ℤ
  us = upper_of (cell_of (take len ends) axes)

  pads : List ℤ
  pads = replicate (MAX_EMBEDDING - length (take len ends)) PADDING

  whole : uppers ≡ us ++ pads
  unfolding us pads
  whole = u ∙ ap (λ es. upper_of (cell_of es axes)) k.rest ∙ upper-padded (take len ends) axes (MAX_EMBEDDING - length (take len ends)) (rw k.long k.few)

  length-us : length us ≡ len
  unfolding us
  length-us = length-map (cell_of (take len ends) axes) high ∙ length-cell_of (take len ends) axes ∙ k.long

  front : take len uppers ≡ us
  front = ap (take len) whole ∙ take_at us pads len length-us

  pub upper_seen : take len uppers ≡ upper_of q
  unfolding us
  upper_seen = front ∙ ap upper_of e

  corner : IsTrue (is_corner us)
  unfolding us
  corner =
      let c = cell_of (take len ends) axes in
      let P : ℕ → Type 0 = λ n. IsTrue (has_length n) in
      both (has_length (length us)) (list_all is_end us) (subst P (length-cell_of (take len ends) axes ∙ k.long ∙ sym length-us) (left (has_length (length c)) _ k.cell)) (high_ends c (all_factors c k.cell))

  rest : uppers ≡ padded MAX_EMBEDDING us
  unfolding us pads
  rest = whole ∙ ap (λ n. us ++ replicate (MAX_EMBEDDING - n) PADDING) (k.long ∙ sym length-us)

  pub upper_kept : KeepsCorner uppers len
  upper_kept =
      let Q : List ℤ → Type 0 = λ xs. IsTrue (is_corner xs) in
      record { long = ap length front ∙ length-us; rest = rest ∙ ap (padded MAX_EMBEDDING) (sym front); corner = subst Q (sym front) corner }
