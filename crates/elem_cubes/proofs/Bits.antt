-- The factors of a cell by the bits of its axes.
use Rattle.std.proofs.Common.{◌≡◌, ◌≢◌, ℕ, zero, suc, ◌+◌, ◌-◌, ◌*◌, ◌/◌, ◌%◌, ◌^◌, ◌<◌, ◌≤◌, refl, sym, ap, ◌∙◌, arith, List, [], ◌∷◌, length, get_or, set, Bool, true, false, cond, eqb, eq-eqb, ◌&&◌, ⊎_elim}
use Rattle.std.specs.Prelude.{ℤ, bit_and, bit_or, count_ones}
use Rattle.std.specs.Int.{bit_at, w8, bit_not}
use Rattle.std.specs.List.{list_all}
use Rattle.std.proofs.Math.Nat.{pow-suc}
use Rattle.std.proofs.lemmas.Nat.{ones_cat, zero_from_ones, ones_le_self, and_le_l, or_lt, one_shl, pow_below, pow_pos}
use Rattle.std.proofs.lemmas.Nat.Bits.{bit_at_lowest, bit_at-suc, bit_at_clear_same, bit_at_clear_other, bit_at_set_same, bit_at_set_other}
use Rattle.std.proofs.lemmas.Bool.{cases_eq}
use Rattle.std.proofs.lemmas.Bool.Decides.{nat_tests}
use Rattle.elem_cubes.specs.Cells.{Factor, point, interval, factor_of, is_wide, lower_of, axes_of, cell_of, dimension_of}

pub wide-factor_of : (b : Bool) (l : ℤ) → is_wide (factor_of b l) ≡ b
wide-factor_of true l = refl
wide-factor_of false l = refl

pub wide_at : (ls : List ℤ) (a i : ℕ) (d : Factor) → i < length ls → eqb (bit_at a i) 1 ≡ is_wide (get_or (cell_of ls a) i d)
wide_at [] a i d h = absurd (omega arith)
wide_at (l ∷ ls) a zero d h = ap (λ n. eqb n 1) (bit_at_lowest a) ∙ sym (wide-factor_of (eqb (a % 2) 1) l)
wide_at (l ∷ ls) a (suc i) d h = ap (λ n. eqb n 1) (bit_at-suc a i) ∙ wide_at ls (a / 2) i d (omega arith)

-- ---- the number of intervals

ones_of_bit : (n : ℕ) → n < 2 → count_ones n ≡ n
ones_of_bit zero h = omega (arith, ones_le_self 0)
ones_of_bit (suc zero) h = ⊎_elim (λ z. let y : ◌≡◌ {A = ℕ} 1 0 = zero_from_ones 1 z in absurd (omega (arith, y))) (λ n. omega (arith, ones_le_self 1, n)) (cases_eq (count_ones 1) 0)
ones_of_bit (suc (suc n)) h = absurd (omega arith)

dimension_first : (b : Bool) (l : ℤ) (qs : List Factor) → dimension_of (factor_of b l ∷ qs) ≡ dimension_of qs + cond b 1 0
dimension_first true l qs = refl
dimension_first false l qs = omega arith

bit_read : (n : ℕ) → n < 2 → cond (eqb n 1) 1 0 ≡ n
bit_read zero h = refl
bit_read (suc zero) h = refl
bit_read (suc (suc n)) h = absurd (omega arith)

pub ones_are_intervals : (ls : List ℤ) (a : ℕ) → a < 2 ^ length ls → count_ones a ≡ dimension_of (cell_of ls a)
ones_are_intervals [] a h = let e : a ≡ 0 = omega arith in ap count_ones e ∙ ones_of_bit 0 (omega arith)
ones_are_intervals (l ∷ ls) a h =
    let half : a / 2 < 2 ^ length ls = omega (arith, pow-suc 2 (length ls)) in
    let whole : a ≡ a / 2 * 2 ^ 1 + a % 2 = omega arith in
    ap count_ones whole ∙ ones_cat 1 (a / 2) (a % 2) (omega arith)
    ∙ (let e = ones_are_intervals ls (a / 2) half in let f = ones_of_bit (a % 2) (omega arith) in let g = bit_read (a % 2) (omega arith) in let d = dimension_first (eqb (a % 2) 1) l (cell_of ls (a / 2)) in omega arith)

pub few_intervals : (q : List Factor) → dimension_of q ≤ length q
few_intervals [] = omega arith
few_intervals (point l ∷ qs) = omega (arith, few_intervals qs)
few_intervals (interval l ∷ qs) = omega (arith, few_intervals qs)

-- ---- all axes

pub all_wide : (ls : List ℤ) (a : ℕ) → a < 2 ^ length ls → eqb a (2 ^ length ls - 1) ≡ list_all is_wide (cell_of ls a)
all_wide [] a h = eq-eqb a (2 ^ 0 - 1) (omega arith)
all_wide (l ∷ ls) a h =
    let half : a / 2 < 2 ^ length ls = omega (arith, pow-suc 2 (length ls)) in
    let e = all_wide ls (a / 2) half in
    split ∙ ap (λ v. v && eqb (a / 2) (2 ^ length ls - 1)) (sym (wide-factor_of (eqb (a % 2) 1) l)) ∙ ap (λ v. is_wide (factor_of (eqb (a % 2) 1) l) && v) e
  where
    split : eqb a (2 ^ suc (length ls) - 1) ≡ (eqb (a % 2) 1 && eqb (a / 2) (2 ^ length ls - 1))
    split = let p = pow-suc 2 (length ls) in let z = pow_pos (length ls) in grind (arith, nat_tests)

-- ---- one factor changed

pub same_by_bits : (ls : List ℤ) (a b : ℕ) → ((j : ℕ) → j < length ls → bit_at b j ≡ bit_at a j) → cell_of ls b ≡ cell_of ls a
same_by_bits [] a b h = refl
same_by_bits (l ∷ ls) a b h =
    let e : b % 2 ≡ a % 2 = sym (bit_at_lowest b) ∙ h 0 (omega arith) ∙ bit_at_lowest a in
    let k = same_by_bits ls (a / 2) (b / 2) (λ j s. sym (bit_at-suc b j) ∙ h (suc j) (omega arith) ∙ bit_at-suc a j) in
    λ i. factor_of (eqb (e i) 1) l ∷ k i

pub cell_set : (ls : List ℤ) (a b i : ℕ) (l : ℤ) → i < length ls → ((j : ℕ) → j < length ls → j ≢ i → bit_at b j ≡ bit_at a j)
    → cell_of (set ls i l) b ≡ set (cell_of ls a) i (factor_of (eqb (bit_at b i) 1) l)
cell_set [] a b i l s h = absurd (omega arith)
cell_set (m ∷ ls) a b zero l s h =
    let e : b % 2 ≡ bit_at b 0 = sym (bit_at_lowest b) in
    let k = same_by_bits ls (a / 2) (b / 2) (λ j t. sym (bit_at-suc b j) ∙ h (suc j) (omega arith) (λ z. omega arith) ∙ bit_at-suc a j) in
    λ i. factor_of (eqb (e i) 1) l ∷ k i
cell_set (m ∷ ls) a b (suc i) l s h =
    let e : b % 2 ≡ a % 2 = sym (bit_at_lowest b) ∙ h 0 (omega arith) (λ z. omega arith) ∙ bit_at_lowest a in
    let k = cell_set ls (a / 2) (b / 2) i l (omega arith) (λ j t n. sym (bit_at-suc b j) ∙ h (suc j) (omega arith) (λ z. n (omega arith)) ∙ bit_at-suc a j) in
    let f : bit_at (b / 2) i ≡ bit_at b (suc i) = sym (bit_at-suc b i) in
    λ x. factor_of (eqb (e x) 1) m ∷ (k ∙ ap (λ n. set (cell_of ls (a / 2)) i (factor_of (eqb n 1) l)) f) x

pub point_set : (ls : List ℤ) (a i : ℕ) (l : ℤ) → i < length ls → length ls ≤ 8 → cell_of (set ls i l) (bit_and a (bit_not w8 (1 * 2 ^ i % 2 ^ 8))) ≡ set (cell_of ls a) i (point l)
point_set ls a i l s w =
    cell_set ls a (bit_and a (bit_not w8 (1 * 2 ^ i % 2 ^ 8))) i l s (λ j t n. bit_at_clear_other w8 a i (omega arith) j (omega arith) n)
    ∙ ap (λ n. set (cell_of ls a) i (factor_of (eqb n 1) l)) (bit_at_clear_same w8 a i (omega arith))

pub interval_set : (ls : List ℤ) (a i : ℕ) (l : ℤ) → i < length ls → length ls ≤ 8 → cell_of (set ls i l) (bit_or a (1 * 2 ^ i % 2 ^ 8)) ≡ set (cell_of ls a) i (interval l)
interval_set ls a i l s w =
    cell_set ls a (bit_or a (1 * 2 ^ i % 2 ^ 8)) i l s (λ j t n. bit_at_set_other w8 a i (omega arith) j n)
    ∙ ap (λ n. set (cell_of ls a) i (factor_of (eqb n 1) l)) (bit_at_set_same w8 a i (omega arith))

pub point_few : (n a b : ℕ) → a < 2 ^ n → bit_and a b < 2 ^ n
point_few n a b h = omega (arith, and_le_l a b)

pub interval_few : (n a i : ℕ) → a < 2 ^ n → i < n → n ≤ 8 → bit_or a (1 * 2 ^ i % 2 ^ 8) < 2 ^ n
interval_few n a i h s w = or_lt n a (1 * 2 ^ i % 2 ^ 8) h (let e = one_shl i 8 (omega arith) in let k = pow_below i n s in omega arith)

-- a cell is its lower corner and its axes
pub parts_of_cell : (q : List Factor) → cell_of (lower_of q) (axes_of q) ≡ q
parts_of_cell [] = refl
parts_of_cell (point l ∷ qs) =
    let m : 2 * axes_of qs % 2 ≡ 0 = omega arith in
    let n : 2 * axes_of qs / 2 ≡ axes_of qs = omega arith in
    λ i. factor_of (eqb (m i) 1) l ∷ (ap (cell_of (lower_of qs)) n ∙ parts_of_cell qs) i
parts_of_cell (interval l ∷ qs) =
    let m : (1 + 2 * axes_of qs) % 2 ≡ 1 = omega arith in
    let n : (1 + 2 * axes_of qs) / 2 ≡ axes_of qs = omega arith in
    λ i. factor_of (eqb (m i) 1) l ∷ (ap (cell_of (lower_of qs)) n ∙ parts_of_cell qs) i
