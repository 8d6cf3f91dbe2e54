-- Cells by corner and rank: their order, and what becomes of one whose interval becomes a point.
use Rattle.std.proofs.Common.{◌≡◌, ◌≢◌, ℕ, zero, suc, ◌+◌, ◌-◌, ◌/◌, ◌%◌, ◌^◌, ◌<◌, ◌≤◌, ⊎_elim, refl, sym, ap, ◌∙◌, arith, List, [], ◌∷◌, length, get_or, set, Bool, true, false, eqb, ltb, ◌&&◌, true≢false}
use Rattle.std.specs.Prelude.{ℤ, pos, ◌+ℤ◌, ◌||◌, not}
use Rattle.std.specs.Int.{bit_at}
use Rattle.std.specs.Ordering.{ordering_then}
use Rattle.std.specs.declared.cmp.Ordering.TheVariants.{Less, Equal}
use Rattle.std.specs.Cmp.{tied_itself}
use Rattle.std.proofs.lemmas.Cmp.{lists_total, int_cmp_total}
use Rattle.std.proofs.lemmas.Bool.{eqb-true, cases_lt, or_cases}
use Rattle.elem_cubes.specs.Range.{most_factors}
use Rattle.elem_cubes.specs.Corners.{corner_cmp}
use Rattle.elem_cubes.specs.Cells.{Factor, point, interval, factor_of, low, is_wide, lower_of, upper_of, axes_of, cell_of}
use Rattle.elem_cubes.specs.Order.{cell_cmp}
use Rattle.elem_cubes.specs.KeepingLemmas.{lower-cell_of, axes-cell_of}
use Rattle.elem_cubes.specs.Walks.{factor_at}
use Rattle.std.proofs.Math.Nat.{pow-suc}
use Rattle.std.proofs.lemmas.Int.{ints}
use Rattle.std.proofs.lemmas.Nat.Bits.{bit_at_above}
use Rattle.std.proofs.lemmas.Bool.Decides.{nat_tests}
use Rattle.elem_cubes.proofs.Uppers.{uppers_greater}
use Rattle.elem_cubes.proofs.Bits.{wide_at, cell_set, parts_of_cell}
use Rattle.cube_sets.proofs.Sorting.{and_true}
use Rattle.cube_sets.proofs.Merging.{above}
use Rattle.cell_points.specs.Masks.{turned, has_bit, wide_along, fall_along}
use Rattle.cell_points.specs.Places.{rank_of, up_along}
use Rattle.cell_points.proofs.Ranks.{all_below, below, turned_twice}

pub axes_few : (n a : ℕ) → n ≤ most_factors → a < 2 ^ n → a < 16
axes_few zero a l h = omega arith
axes_few (suc zero) a l h = omega arith
axes_few (suc (suc zero)) a l h = omega arith
axes_few (suc (suc (suc zero))) a l h = omega arith
axes_few (suc (suc (suc (suc zero)))) a l h = omega arith
axes_few (suc (suc (suc (suc (suc n))))) a l h = absurd (omega arith)

-- ---- ranks stand in the order of cells: the first axis in which two of them differ is in the higher one

abbrev agree : ℕ → ℕ → ℕ → Bool
agree t a b = all_below t (λ j. eqb (bit_at (turned a) j) (bit_at (turned b) j))

abbrev differ_at : ℕ → ℕ → ℕ → Bool
differ_at a b t = agree t a b && (eqb (bit_at (turned a) t) 0 && eqb (bit_at (turned b) t) 1)

abbrev less_ranks : ℕ → ℕ → Bool
less_ranks b a = not (ltb a b) || (differ_at a b 0 || (differ_at a b 1 || (differ_at a b 2 || differ_at a b 3)))

all_less : all_below 16 (λ b. all_below 16 (less_ranks b)) ≡ true
all_less = refl

agree_at : (t a b j : ℕ) → agree t a b ≡ true → j < t → bit_at (turned b) j ≡ bit_at (turned a) j
agree_at t a b j h l = sym (eqb-true (bit_at (turned a) j) (bit_at (turned b) j) (below t (λ j. eqb (bit_at (turned a) j) (bit_at (turned b) j)) j h l))

less_uppers : (ls : List ℤ) (a b t : ℕ) → turned b < 2 ^ length ls → differ_at a b t ≡ true
    → corner_cmp (upper_of (cell_of ls (turned a))) (upper_of (cell_of ls (turned b))) ≡ Less
less_uppers ls a b t s h =
    let o = and_true (agree t a b) (eqb (bit_at (turned a) t) 0 && eqb (bit_at (turned b) t) 1) h in
    let i = and_true (eqb (bit_at (turned a) t) 0) (eqb (bit_at (turned b) t) 1) o.1 in
    above corner_cmp (lists_total int_cmp_total) (upper_of (cell_of ls (turned b))) (upper_of (cell_of ls (turned a)))
    (uppers_greater ls (turned b) (turned a) t s (λ j l. agree_at t a b j o.0 l) (eqb-true (bit_at (turned b) t) 1 i.1) (eqb-true (bit_at (turned a) t) 0 i.0))

not_false : (b c : Bool) → b ≡ true → (not b || c) ≡ true → c ≡ true
not_false true c e h = h
not_false false c e h = absurd (true≢false (sym e))

lt_ltb : (a b : ℕ) → a < b → ltb a b ≡ true
lt_ltb a b l = grind (arith, nat_tests)

uppers_by_rank : (ls : List ℤ) (a b : ℕ) → a < b → b < 16 → turned b < 2 ^ length ls
    → corner_cmp (upper_of (cell_of ls (turned a))) (upper_of (cell_of ls (turned b))) ≡ Less
uppers_by_rank ls a b l k s =
    let h = not_false (ltb a b) (differ_at a b 0 || (differ_at a b 1 || (differ_at a b 2 || differ_at a b 3))) (lt_ltb a b l)
    (below 16 (less_ranks b) a (below 16 (λ b. all_below 16 (less_ranks b)) b all_less k) (omega arith)) in
    ⊎_elim (less_uppers ls a b 0 s) (λ h1. ⊎_elim (less_uppers ls a b 1 s) (λ h2. ⊎_elim (less_uppers ls a b 2 s) (less_uppers ls a b 3 s)
    (or_cases (differ_at a b 2) (differ_at a b 3) h2))
    (or_cases (differ_at a b 1) (differ_at a b 2 || differ_at a b 3) h1))
    (or_cases (differ_at a b 0) (differ_at a b 1 || (differ_at a b 2 || differ_at a b 3)) h)

corner_itself : (ls : List ℤ) → corner_cmp ls ls ≡ Equal
corner_itself = tied_itself (lists_total int_cmp_total)

pub cells_by_rank : (ls : List ℤ) (a b : ℕ) → a < b → b < 16 → turned b < 2 ^ length ls → cell_cmp (cell_of ls (turned a)) (cell_of ls (turned b)) ≡ Less
cells_by_rank ls a b l k s =
    (λ i. ordering_then (corner_cmp (lower-cell_of ls (turned a) i) (lower-cell_of ls (turned b) i)) (corner_cmp (upper_of (cell_of ls (turned a))) (upper_of (cell_of ls (turned b)))))
    ∙ ap (λ o. ordering_then o (corner_cmp (upper_of (cell_of ls (turned a))) (upper_of (cell_of ls (turned b))))) (corner_itself ls)
    ∙ uppers_by_rank ls a b l k s

-- cells at two corners stand as the corners do
pub cells_by_corner : (q r : List Factor) (c d : List ℤ) → lower_of q ≡ c → lower_of r ≡ d → corner_cmp c d ≡ Less → cell_cmp q r ≡ Less
cells_by_corner q r c d e f h =
    (λ i. ordering_then (corner_cmp (e i) (f i)) (corner_cmp (upper_of q) (upper_of r)))
    ∙ ap (λ o. ordering_then o (corner_cmp (upper_of q) (upper_of r))) h

-- ---- a cell, its axes and its rank

pub axes-lt : (q : List Factor) → axes_of q < 2 ^ length q
axes-lt [] = omega arith
axes-lt (point l ∷ qs) = let h = axes-lt qs in omega (arith, pow-suc 2 (length qs))
axes-lt (interval l ∷ qs) = let h = axes-lt qs in omega (arith, pow-suc 2 (length qs))

pub length-lower : (q : List Factor) → length (lower_of q) ≡ length q
length-lower [] = refl
length-lower (f ∷ fs) = ap suc (length-lower fs)

pub rank_of_ranked : (ls : List ℤ) (r : ℕ) → r < 16 → turned r < 2 ^ length ls → rank_of (cell_of ls (turned r)) ≡ r
rank_of_ranked ls r l s = ap turned (axes-cell_of ls (turned r) s) ∙ turned_twice r l

pub ranked_rank_of : (q : List Factor) → length q ≤ most_factors → cell_of (lower_of q) (turned (rank_of q)) ≡ q
ranked_rank_of q l = ap (cell_of (lower_of q)) (turned_twice (axes_of q) (axes_few (length q) (axes_of q) l (axes-lt q))) ∙ parts_of_cell q

-- ---- an interval becomes a point

abbrev others_agree : ℕ → ℕ → Bool
others_agree axis r = all_below 4 (λ j. eqb j axis || eqb (bit_at (turned r) j) (bit_at (turned (fall_along axis + r)) j))

abbrev falls : ℕ → ℕ → Bool
falls axis r = not (has_bit (wide_along axis) (fall_along axis + r))
    || (eqb (bit_at (turned r) axis) 0 && (eqb (bit_at (turned (fall_along axis + r)) axis) 1 && (others_agree axis r && not (ltb (turned (fall_along axis + r)) (turned r)))))

all_fall : all_below 4 (λ axis. all_below 16 (falls axis)) ≡ true
all_fall = refl

abbrev rises : ℕ → ℕ → Bool
rises axis x = not (eqb (bit_at (turned x) axis) 1) || (has_bit (wide_along axis) x && not (ltb x (fall_along axis)))

all_rise : all_below 4 (λ axis. all_below 16 (rises axis)) ≡ true
all_rise = refl

record Falls (axis r : ℕ) : Type 0 where
  low : bit_at (turned r) axis ≡ 0
  high : bit_at (turned (fall_along axis + r)) axis ≡ 1
  less : turned r ≤ turned (fall_along axis + r)
  others : (j : ℕ) → j < 4 → j ≢ axis → bit_at (turned r) j ≡ bit_at (turned (fall_along axis + r)) j

second : (b c : Bool) → b ≡ false → (b || c) ≡ true → c ≡ true
second true c e h = absurd (true≢false e)
second false c e h = h

other_axis : (j axis : ℕ) → j ≢ axis → eqb j axis ≡ false
other_axis j axis n = grind (arith, nat_tests)

not_below : (a b : ℕ) → not (ltb a b) ≡ true → b ≤ a
not_below a b h = ⊎_elim (λ lt. absurd (true≢false (sym h ∙ ap not (lt_ltb a b lt)))) (λ le. le) (cases_lt a b)

falls_at : (axis r : ℕ) → axis < 4 → r < 16 → has_bit (wide_along axis) (fall_along axis + r) ≡ true → Falls axis r
falls_at axis r l k w =
    let h = not_false (has_bit (wide_along axis) (fall_along axis + r)) _ w (below 16 (falls axis) r (below 4 (λ axis. all_below 16 (falls axis)) axis all_fall l) k) in
    let a = and_true (eqb (bit_at (turned r) axis) 0) (eqb (bit_at (turned (fall_along axis + r)) axis) 1 && (others_agree axis r && not (ltb (turned (fall_along axis + r)) (turned r)))) h in
    let b = and_true (eqb (bit_at (turned (fall_along axis + r)) axis) 1) (others_agree axis r && not (ltb (turned (fall_along axis + r)) (turned r))) a.1 in
    let d = and_true (others_agree axis r) (not (ltb (turned (fall_along axis + r)) (turned r))) b.1 in
    record {
      low = eqb-true (bit_at (turned r) axis) 0 a.0;
      high = eqb-true (bit_at (turned (fall_along axis + r)) axis) 1 b.0;
      others = λ j s n. eqb-true (bit_at (turned r) j) (bit_at (turned (fall_along axis + r)) j)
          (second (eqb j axis) _ (other_axis j axis n) (below 4 (λ j. eqb j axis || eqb (bit_at (turned r) j) (bit_at (turned (fall_along axis + r)) j)) j d.0 s));
      less = not_below (turned (fall_along axis + r)) (turned r) d.1;
    }

low-chosen : (b : Bool) (l : ℤ) → low (factor_of b l) ≡ l
low-chosen true l = refl
low-chosen false l = refl

low_at : (ls : List ℤ) (a i : ℕ) → i < length ls → low (factor_at (cell_of ls a) i) ≡ get_or ls i (pos 0)
low_at [] a i s = absurd (omega arith)
low_at (l ∷ ls) a zero s = low-chosen (eqb (a % 2) 1) l
low_at (l ∷ ls) a (suc i) s = low_at ls (a / 2) i (omega arith)

no_more : (l : ℤ) → l +ℤ pos 0 ≡ l
no_more l = omega (arith, ints)

set_same : (ls : List ℤ) (i : ℕ) → i < length ls → set ls i (get_or ls i (pos 0)) ≡ ls
set_same [] i s = absurd (omega arith)
set_same (l ∷ ls) zero s = refl
set_same (l ∷ ls) (suc i) s = ap (λ k. l ∷ k) (set_same ls i (omega arith))

-- the interval along the axis becomes the point so far up
abbrev pub with_end : ℕ → ℤ → List Factor → List Factor
with_end axis z q = set q axis (point (low (factor_at q axis) +ℤ z))

module _ (axis r : ℕ) (ls : List ℤ) (l : axis < 4) (k : r < 16) (s : axis < length ls) (few : length ls ≤ 4) (w : has_bit (wide_along axis) (fall_along axis + r) ≡ true) where
  fallen : (m : ℤ) → cell_of (set ls axis m) (turned r) ≡ set (cell_of ls (turned (fall_along axis + r))) axis (point m)
  fallen m =
      let f = falls_at axis r l k w in
      cell_set ls (turned (fall_along axis + r)) (turned r) axis m s (λ j t n. f.others j (omega arith) n)
      ∙ ap (λ n. set (cell_of ls (turned (fall_along axis + r))) axis (factor_of (eqb n 1) m)) f.low

  pub lower_end : with_end axis (pos 0) (cell_of ls (turned (fall_along axis + r))) ≡ cell_of ls (turned r)
  lower_end =
      ap (λ m. set (cell_of ls (turned (fall_along axis + r))) axis (point (m +ℤ pos 0))) (low_at ls (turned (fall_along axis + r)) axis s)
      ∙ ap (λ m. set (cell_of ls (turned (fall_along axis + r))) axis (point m)) (no_more (get_or ls axis (pos 0)))
      ∙ sym (fallen (get_or ls axis (pos 0)))
      ∙ ap (λ c. cell_of c (turned r)) (set_same ls axis s)

  pub upper_end : with_end axis (pos 1) (cell_of ls (turned (fall_along axis + r))) ≡ cell_of (up_along axis ls) (turned r)
  upper_end =
      ap (λ m. set (cell_of ls (turned (fall_along axis + r))) axis (point (m +ℤ pos 1))) (low_at ls (turned (fall_along axis + r)) axis s)
      ∙ sym (fallen (get_or ls axis (pos 0) +ℤ pos 1))

  pub is_wide_there : is_wide (factor_at (cell_of ls (turned (fall_along axis + r))) axis) ≡ true
  is_wide_there =
      let f = falls_at axis r l k w in
      sym (wide_at ls (turned (fall_along axis + r)) axis (point (pos 0)) s) ∙ ap (λ n. eqb n 1) f.high

-- a cell with an interval along the axis has a rank that falls
pub wide_falls : (axis x : ℕ) (ls : List ℤ) → axis < 4 → x < 16 → axis < length ls → is_wide (factor_at (cell_of ls (turned x)) axis) ≡ true
    → (r : ℕ) × (x ≡ fall_along axis + r) × (has_bit (wide_along axis) (fall_along axis + r) ≡ true)
wide_falls axis x ls l k s w =
    let one : eqb (bit_at (turned x) axis) 1 ≡ true = wide_at ls (turned x) axis (point (pos 0)) s ∙ w in
    let h = not_false (eqb (bit_at (turned x) axis) 1) _ one (below 16 (rises axis) x (below 4 (λ axis. all_below 16 (rises axis)) axis all_rise l) k) in
    let b = and_true (has_bit (wide_along axis) x) (not (ltb x (fall_along axis))) h in
    let le : fall_along axis ≤ x = not_below x (fall_along axis) b.1 in
    let e : x ≡ fall_along axis + (x - fall_along axis) = omega arith in
    (x - fall_along axis, e, ap (has_bit (wide_along axis)) (sym e) ∙ b.0)

-- past its end a cell has no interval
pub wide_within : (q : List Factor) (axis : ℕ) → is_wide (factor_at q axis) ≡ true → axis < length q
wide_within [] axis w = absurd (true≢false (sym w))
wide_within (f ∷ fs) zero w = omega arith
wide_within (f ∷ fs) (suc axis) w = let h = wide_within fs axis w in omega arith

pub fits_fallen : (axis r : ℕ) → axis < 4 → r < 16 → has_bit (wide_along axis) (fall_along axis + r) ≡ true → turned r ≤ turned (fall_along axis + r)
fits_fallen axis r l k w = (falls_at axis r l k w).less

-- where its rank is one of the corner's, a cell with an interval along the axis has the axis
pub wide_of : (axis r : ℕ) (ls : List ℤ) → axis < 4 → r < 16 → turned (fall_along axis + r) < 2 ^ length ls → has_bit (wide_along axis) (fall_along axis + r) ≡ true
    → is_wide (factor_at (cell_of ls (turned (fall_along axis + r))) axis) ≡ true
wide_of axis r ls l k fits w =
    let f = falls_at axis r l k w in
    let s : axis < length ls = ⊎_elim (λ lt. lt) (λ ge. absurd (let z = bit_at_above (turned (fall_along axis + r)) (length ls) axis fits ge in let o = f.high in omega arith)) (cases_lt axis (length ls)) in
    sym (wide_at ls (turned (fall_along axis + r)) axis (point (pos 0)) s) ∙ ap (λ n. eqb n 1) f.high
