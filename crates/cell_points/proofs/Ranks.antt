-- Masks and ranks: which ranks a mask has, how many, and where each stands; facts on all ranks, tried one after the other.
use Rattle.std.proofs.Common.{◌≡◌, ℕ, zero, suc, ◌+◌, ◌*◌, ◌/◌, ◌%◌, ◌^◌, ◌<◌, ◌⊎◌, inl, inr, ⊎_elim, refl, sym, ap, ◌∙◌, subst, arith, ◌∷◌, length, get_or, Bool, true, false, eqb, ◌&&◌, true≢false, min, max}
use Rattle.std.specs.Prelude.{bit_and, bit_or, ◌||◌}
use Rattle.std.specs.Int.{bit_at}
use Rattle.std.specs.Int.RustNames.{count_ones}
use Rattle.std.proofs.Math.Nat.{div-div-eq-div-mul, pow-suc}
use Rattle.std.proofs.lemmas.Bool.{cond_both, eqb-true, eq-eqb, cases_lt}
use Rattle.std.proofs.lemmas.Nat.{ones_cat, pow-add, mod-pow-add}
use Rattle.std.proofs.lemmas.Nat.Bits.{bit_at_lowest, bit_at-suc, bit_at-zero, bit_at_and, bit_at_or, bit_at-lt}
use Rattle.elem_cubes.proofs.Members.{In}
use Rattle.cube_sets.proofs.Sorting.{and_true}
use Rattle.cell_points.specs.Masks.{turned, has_bit, ranks_from, ranks_of, wide_along, fall_along, narrowed}

-- ---- facts on all numbers below a bound, as one computed test

abbrev pub all_below : ℕ → (ℕ → Bool) → Bool
all_below zero p = true
all_below (suc n) p = p n && all_below n p

pub below : (n : ℕ) (p : ℕ → Bool) (x : ℕ) → all_below n p ≡ true → x < n → p x ≡ true
below zero p x h l = absurd (omega arith)
below (suc n) p x h l =
    let both = and_true (p n) (all_below n p) h in
    ⊎_elim (λ lt. below n p x both.1 lt) (λ ge. let e : n ≡ x = omega arith in ap p (sym e) ∙ both.0) (cases_lt x n)

pub turned_twice : (a : ℕ) → a < 16 → turned (turned a) ≡ a
turned_twice a l = eqb-true (turned (turned a)) a (below 16 (λ x. eqb (turned (turned x)) x) a refl l)

pub turned_few : (a : ℕ) → turned a < 16
turned_few a = omega arith

-- ---- ones

ones_small : (x : ℕ) → x < 2 → count_ones x ≡ x
unfolding count_ones
ones_small zero l = refl
ones_small (suc zero) l = refl
ones_small (suc (suc x)) l = absurd (omega arith)

pub ones_half : (m : ℕ) → count_ones m ≡ count_ones (m / 2) + m % 2
ones_half m =
    let e : m ≡ m / 2 * 2 ^ 1 + m % 2 = omega arith in
    ap count_ones e ∙ ones_cat 1 (m / 2) (m % 2) (omega arith) ∙ ap (λ x. count_ones (m / 2) + x) (ones_small (m % 2) (omega arith))

odd_from : (m : ℕ) → eqb (m % 2) 1 ≡ true → m % 2 ≡ 1
odd_from m t = eqb-true (m % 2) 1 t

even_from : (m : ℕ) → eqb (m % 2) 1 ≡ false → m % 2 ≡ 0
even_from m f = ⊎_elim (λ lt. omega arith) (λ ge. let e : m % 2 ≡ 1 = omega arith in absurd (true≢false (sym (eq-eqb (m % 2) 1 e) ∙ f))) (cases_lt (m % 2) 1)

pub length-ranks : (n r m : ℕ) → m < 2 ^ n → length (ranks_from n r m) ≡ count_ones m
length-ranks zero r m l = let e : m ≡ 0 = omega arith in sym (ap count_ones e ∙ ones_small 0 (omega arith))
length-ranks (suc n) r m l =
    let half : m / 2 < 2 ^ n = omega (arith, pow-suc 2 n) in
    let rest = length-ranks n (suc r) (m / 2) half in
    let ones = ones_half m in
    cond_both (eqb (m % 2) 1) (r ∷ ranks_from n (suc r) (m / 2)) (ranks_from n (suc r) (m / 2)) (λ xs. length xs ≡ count_ones m)
    (λ t. let e : m % 2 ≡ 1 = eqb-true (m % 2) 1 t in omega arith)
    (λ f. let e : m % 2 ≡ 0 = even_from m f in omega arith)

-- ---- one rank of a mask

pub bit_first : (m : ℕ) → has_bit m 0 ≡ eqb (m % 2) 1
bit_first m = ap (λ x. eqb x 1) (bit_at_lowest m)

pub bit_next : (m k : ℕ) → has_bit m (suc k) ≡ has_bit (m / 2) k
bit_next m k = ap (λ x. eqb x 1) (bit_at-suc m k)

-- the ranks of a mask are those that it has
pub ranks_In : (n r m x : ℕ) → In (ranks_from n r m) x → (k : ℕ) × (k < n) × (x ≡ r + k) × (has_bit m k ≡ true)
ranks_In zero r m x h = absurd h
ranks_In (suc n) r m x h =
    let rest : In (ranks_from n (suc r) (m / 2)) x → (k : ℕ) × (k < suc n) × (x ≡ r + k) × (has_bit m k ≡ true) =
    λ i. let w = ranks_In n (suc r) (m / 2) x i in (suc w.0, omega (arith, w.1), omega (arith, w.2), bit_next m w.0 ∙ w.3) in
    cond_both (eqb (m % 2) 1) (r ∷ ranks_from n (suc r) (m / 2)) (ranks_from n (suc r) (m / 2)) (λ xs. In xs x → (k : ℕ) × (k < suc n) × (x ≡ r + k) × (has_bit m k ≡ true))
    (λ t i. ⊎_elim (λ e. (0, omega arith, omega (arith, e), bit_first m ∙ t)) rest i)
    (λ f i. rest i) h

pub In_ranks : (n r m k : ℕ) → k < n → has_bit m k ≡ true → In (ranks_from n r m) (r + k)
In_ranks zero r m k l h = absurd (omega arith)
In_ranks (suc n) r m zero l h =
    cond_both (eqb (m % 2) 1) (r ∷ ranks_from n (suc r) (m / 2)) (ranks_from n (suc r) (m / 2)) (λ xs. In xs (r + 0))
    (λ t. inl (let e : r ≡ r + 0 = omega arith in e))
    (λ f. absurd (true≢false (sym h ∙ bit_first m ∙ f)))
In_ranks (suc n) r m (suc k) l h =
    let e : suc r + k ≡ r + suc k = omega arith in
    let rest : In (ranks_from n (suc r) (m / 2)) (r + suc k) = subst (λ (x : ℕ). In (ranks_from n (suc r) (m / 2)) x) e (In_ranks n (suc r) (m / 2) k (omega arith) (sym (bit_next m k) ∙ h)) in
    cond_both (eqb (m % 2) 1) (r ∷ ranks_from n (suc r) (m / 2)) (ranks_from n (suc r) (m / 2)) (λ xs. In xs (r + suc k))
    (λ t. inr rest) (λ f. rest)

-- a rank stands behind those below it
pub rank_place : (n r m k d : ℕ) → k < n → has_bit m k ≡ true → get_or (ranks_from n r m) (count_ones (m % 2 ^ k)) d ≡ r + k
rank_place zero r m k d l h = absurd (omega arith)
rank_place (suc n) r m zero d l h =
    let e : m % 2 ^ 0 ≡ 0 = omega arith in
    let c : count_ones (m % 2 ^ 0) ≡ 0 = ap count_ones e ∙ ones_small 0 (omega arith) in
    cond_both (eqb (m % 2) 1) (r ∷ ranks_from n (suc r) (m / 2)) (ranks_from n (suc r) (m / 2)) (λ xs. get_or xs (count_ones (m % 2 ^ 0)) d ≡ r + 0)
    (λ t. ap (λ i. get_or (r ∷ ranks_from n (suc r) (m / 2)) i d) c ∙ (let e : r ≡ r + 0 = omega arith in e))
    (λ f. absurd (true≢false (sym h ∙ bit_first m ∙ f)))
rank_place (suc n) r m (suc k) d l h =
    let rest = rank_place n (suc r) (m / 2) k d (omega arith) (sym (bit_next m k) ∙ h) in
    let s : suc r + k ≡ r + suc k = omega arith in
    let p : m % 2 ^ suc k ≡ (m / 2 % 2 ^ k) * 2 ^ 1 + m % 2 = let e : suc k ≡ k + 1 = omega arith in ap (λ j. m % 2 ^ j) e ∙ mod-pow-add m k 1 in
    let c : count_ones (m % 2 ^ suc k) ≡ count_ones (m / 2 % 2 ^ k) + m % 2 =
    ap count_ones p ∙ ones_cat 1 (m / 2 % 2 ^ k) (m % 2) (omega arith) ∙ ap (λ x. count_ones (m / 2 % 2 ^ k) + x) (ones_small (m % 2) (omega arith)) in
    cond_both (eqb (m % 2) 1) (r ∷ ranks_from n (suc r) (m / 2)) (ranks_from n (suc r) (m / 2)) (λ xs. get_or xs (count_ones (m % 2 ^ suc k)) d ≡ r + suc k)
    (λ t. let o = odd_from m t in let i : count_ones (m % 2 ^ suc k) ≡ suc (count_ones (m / 2 % 2 ^ k)) = omega arith in
    ap (λ i. get_or (r ∷ ranks_from n (suc r) (m / 2)) i d) i ∙ rest ∙ s)
    (λ f. let o = even_from m f in let i : count_ones (m % 2 ^ suc k) ≡ count_ones (m / 2 % 2 ^ k) = omega arith in
    ap (λ i. get_or (ranks_from n (suc r) (m / 2)) i d) i ∙ rest ∙ s)

-- a mask below 2 ^ n has no rank from n on
pub bit_within : (n m k : ℕ) → m < 2 ^ n → has_bit m k ≡ true → k < n
bit_within zero m k l h = let e : m ≡ 0 = omega arith in absurd (true≢false (sym h ∙ ap (λ x. eqb x 1) (ap (λ x. bit_at x k) e ∙ bit_at-zero k)))
bit_within (suc n) m zero l h = omega arith
bit_within (suc n) m (suc k) l h =
    let half : m / 2 < 2 ^ n = omega (arith, pow-suc 2 n) in
    let rest = bit_within n (m / 2) k half (sym (bit_next m k) ∙ h) in omega arith

-- a mask that has a rank
pub some_bit : (n m : ℕ) → m < 2 ^ n → 0 < m → (k : ℕ) × (has_bit m k ≡ true)
some_bit zero m l p = absurd (omega arith)
some_bit (suc n) m l p =
    let half : m / 2 < 2 ^ n = omega (arith, pow-suc 2 n) in
    elim (eqb (m % 2) 1) as (λ b. eqb (m % 2) 1 ≡ b → (k : ℕ) × (has_bit m k ≡ true)) [
      | true ↦ λ t. (0, bit_first m ∙ t)
      | false ↦ λ f. let e = even_from m f in let w = some_bit n (m / 2) half (omega arith) in (suc w.0, bit_next m w.0 ∙ w.1)
    ] refl

-- ---- masks of two

bit_cases : (x : ℕ) → x < 2 → (x ≡ 0) ⊎ (x ≡ 1)
bit_cases zero l = inl refl
bit_cases (suc zero) l = inr refl
bit_cases (suc (suc x)) l = absurd (omega arith)

either : (x y : ℕ) → x < 2 → y < 2 → eqb (max x y) 1 ≡ (eqb x 1 || eqb y 1)
either zero zero l k = refl
either zero (suc zero) l k = refl
either (suc zero) zero l k = refl
either (suc zero) (suc zero) l k = refl
either (suc (suc x)) y l k = absurd (omega arith)
either zero (suc (suc y)) l k = absurd (omega arith)
either (suc zero) (suc (suc y)) l k = absurd (omega arith)

both : (x y : ℕ) → x < 2 → y < 2 → eqb (min x y) 1 ≡ (eqb x 1 && eqb y 1)
both zero zero l k = refl
both zero (suc zero) l k = refl
both (suc zero) zero l k = refl
both (suc zero) (suc zero) l k = refl
both (suc (suc x)) y l k = absurd (omega arith)
both zero (suc (suc y)) l k = absurd (omega arith)
both (suc zero) (suc (suc y)) l k = absurd (omega arith)

pub has_or : (a b r : ℕ) → has_bit (bit_or a b) r ≡ (has_bit a r || has_bit b r)
has_or a b r = ap (λ x. eqb x 1) (bit_at_or a b r) ∙ either (bit_at a r) (bit_at b r) (bit_at-lt a r) (bit_at-lt b r)

pub has_and : (a b r : ℕ) → has_bit (bit_and a b) r ≡ (has_bit a r && has_bit b r)
has_and a b r = ap (λ x. eqb x 1) (bit_at_and a b r) ∙ both (bit_at a r) (bit_at b r) (bit_at-lt a r) (bit_at-lt b r)

pub has_shifted : (m s r : ℕ) → has_bit (m / 2 ^ s) r ≡ has_bit m (s + r)
has_shifted m s r = ap (λ x. eqb (x % 2) 1) (div-div-eq-div-mul m (2 ^ s) (2 ^ r) ∙ ap (λ x. m / x) (sym (pow-add 2 s r)))

pub has_narrowed : (axis m r : ℕ) → has_bit (narrowed axis m) r ≡ (has_bit m (fall_along axis + r) && has_bit (wide_along axis) (fall_along axis + r))
has_narrowed axis m r = has_shifted (bit_and m (wide_along axis)) (fall_along axis) r ∙ has_and m (wide_along axis) (fall_along axis + r)

-- ---- all ranks of a mask of sixteen bits

pub mask_In : (m x : ℕ) → In (ranks_of m) x → (x < 16) × (has_bit m x ≡ true)
unfolding ranks_of
mask_In m x h =
    let w = ranks_In 16 0 m x h in
    let e : w.0 ≡ x = omega (arith, w.2) in
    (omega (arith, w.1, w.2), ap (has_bit m) (sym e) ∙ w.3)

pub In_mask : (m x : ℕ) → m < 2 ^ 16 → has_bit m x ≡ true → In (ranks_of m) x
unfolding ranks_of
In_mask m x l h = let e : 0 + x ≡ x = omega arith in subst (λ (y : ℕ). In (ranks_from 16 0 m) y) e (In_ranks 16 0 m x (bit_within 16 m x l h) h)

pub length-mask : (m : ℕ) → m < 2 ^ 16 → length (ranks_of m) ≡ count_ones m
unfolding ranks_of
length-mask m l = length-ranks 16 0 m l

pub mask_place : (m x d : ℕ) → x < 16 → has_bit m x ≡ true → get_or (ranks_of m) (count_ones (m % 2 ^ x)) d ≡ x
unfolding ranks_of
mask_place m x d l h = let e : 0 + x ≡ x = omega arith in rank_place 16 0 m x d l h ∙ e

ones_front : (m k : ℕ) → count_ones (m % 2 ^ suc k) ≡ count_ones (m / 2 % 2 ^ k) + m % 2
ones_front m k =
    let p : m % 2 ^ suc k ≡ (m / 2 % 2 ^ k) * 2 ^ 1 + m % 2 = let e : suc k ≡ k + 1 = omega arith in ap (λ j. m % 2 ^ j) e ∙ mod-pow-add m k 1 in
    ap count_ones p ∙ ones_cat 1 (m / 2 % 2 ^ k) (m % 2) (omega arith) ∙ ap (λ x. count_ones (m / 2 % 2 ^ k) + x) (ones_small (m % 2) (omega arith))

-- one more rank
pub ones_next : (m r : ℕ) → count_ones (m % 2 ^ (r + 1)) ≡ count_ones (m % 2 ^ r) + bit_at m r
ones_next m zero =
    let a : m % 2 ^ (0 + 1) ≡ m % 2 = refl in
    let b : m % 2 ^ 0 ≡ 0 = omega arith in
    let c : count_ones (m % 2 ^ 0) ≡ 0 = ap count_ones b ∙ ones_small 0 (omega arith) in
    let d = bit_at_lowest m in
    let e : count_ones (m % 2 ^ (0 + 1)) ≡ m % 2 = ones_small (m % 2) (omega arith) in
    omega arith
ones_next m (suc r) =
    let rest = ones_next (m / 2) r in
    let a = ones_front m r in
    let b = ones_front m (r + 1) in
    let d = bit_at-suc m r in
    let s : suc r + 1 ≡ suc (r + 1) = omega arith in
    ap (λ k. count_ones (m % 2 ^ k)) s ∙ (omega arith)

pub next_with : (m r : ℕ) → has_bit m r ≡ true → count_ones (m % 2 ^ (r + 1)) ≡ count_ones (m % 2 ^ r) + 1
next_with m r h = let n = ones_next m r in let b = eqb-true (bit_at m r) 1 h in omega arith

pub next_without : (m r : ℕ) → has_bit m r ≡ false → count_ones (m % 2 ^ (r + 1)) ≡ count_ones (m % 2 ^ r)
next_without m r h =
    let n = ones_next m r in
    ⊎_elim (λ z. omega arith) (λ o. absurd (true≢false (sym (eq-eqb (bit_at m r) 1 o) ∙ h))) (bit_cases (bit_at m r) (bit_at-lt m r))
