-- Upper corners: the order of two of them over one lower corner, and how they are kept.
use Rattle.std.proofs.Common.{◌≡◌, ℕ, zero, suc, ◌+◌, ◌/◌, ◌%◌, ◌^◌, ◌<◌, sym, ap, ◌∙◌, arith, List, [], ◌∷◌, length, eqb}
use Rattle.std.specs.Prelude.{ℤ, pos, ◌+ℤ◌, bit_xor}
use Rattle.std.specs.Int.{bit_at, w8, trailing_zeros}
use Rattle.std.specs.declared.cmp.Ordering.{Ordering}
use Rattle.std.specs.declared.cmp.Ordering.TheVariants.{Less, Equal, Greater}
use Rattle.std.specs.Ordering.{int_cmp, ordering_then, ordering_reverse}
use Rattle.std.specs.Cmp.{int_cmp_is, tied_itself}
use Rattle.std.proofs.lemmas.Cmp.{lists_total, int_cmp_total}
use Rattle.std.proofs.Math.Nat.{pow-suc}
use Rattle.std.proofs.lemmas.Nat.Bits.{bit_at_lowest, bit_at-suc, bit_at-zero, bit_at_xor, bit_at-trailing_zeros, bit_at-lt, same_from_bits}
use Rattle.std.proofs.lemmas.Int.{ints}
use Rattle.elem_cubes.specs.Corners.{corner_cmp}
use Rattle.elem_cubes.specs.Cells.{factor_of, high, upper_of, cell_of}
use Rattle.elem_cubes.specs.Packed.{OrdersUppers}

above : (l : ℤ) → int_cmp (l +ℤ pos 1) l ≡ Greater
above l = sym (int_cmp_is (l +ℤ pos 1) l Greater (omega (arith, ints)))

-- the first axis that one set has and the other has not decides
pub uppers_greater : (ls : List ℤ) (a b t : ℕ) → a < 2 ^ length ls → ((j : ℕ) → j < t → bit_at a j ≡ bit_at b j) → bit_at a t ≡ 1 → bit_at b t ≡ 0
    → corner_cmp (upper_of (cell_of ls a)) (upper_of (cell_of ls b)) ≡ Greater
uppers_greater [] a b t s h x y = let e : a ≡ 0 = omega arith in absurd (omega (arith, ap (λ n. bit_at n t) e, bit_at-zero t))
uppers_greater (l ∷ ls) a b zero s h x y =
    let e : a % 2 ≡ 1 = sym (bit_at_lowest a) ∙ x in
    let f : b % 2 ≡ 0 = sym (bit_at_lowest b) ∙ y in
    let rest : Ordering = corner_cmp (upper_of (cell_of ls (a / 2))) (upper_of (cell_of ls (b / 2))) in
    ap (λ n. ordering_then (int_cmp (high (factor_of (eqb n 1) l)) (high (factor_of (eqb (b % 2) 1) l))) rest) e
    ∙ ap (λ n. ordering_then (int_cmp (l +ℤ pos 1) (high (factor_of (eqb n 1) l))) rest) f
    ∙ ap (λ o. ordering_then o rest) (above l)
uppers_greater (l ∷ ls) a b (suc t) s h x y =
    let e : b % 2 ≡ a % 2 = sym (bit_at_lowest b) ∙ sym (h 0 (omega arith)) ∙ bit_at_lowest a in
    let rest : Ordering = corner_cmp (upper_of (cell_of ls (a / 2))) (upper_of (cell_of ls (b / 2))) in
    let half : a / 2 < 2 ^ length ls = omega (arith, pow-suc 2 (length ls)) in
    ap (λ n. ordering_then (int_cmp (high (factor_of (eqb (a % 2) 1) l)) (high (factor_of (eqb n 1) l))) rest) e
    ∙ ap (λ o. ordering_then o rest) (tied_itself int_cmp_total (high (factor_of (eqb (a % 2) 1) l)))
    ∙ uppers_greater ls (a / 2) (b / 2) t half (λ j k. sym (bit_at-suc a j) ∙ h (suc j) (omega arith) ∙ bit_at-suc b j) (sym (bit_at-suc a t) ∙ x) (sym (bit_at-suc b t) ∙ y)

same_bit : (x y : ℕ) → x < 2 → y < 2 → (x + y) % 2 ≡ 0 → x ≡ y
same_bit x y s t e = omega arith

other_bit : (x y : ℕ) → x < 2 → y < 2 → (x + y) % 2 ≡ 1 → x + y ≡ 1
other_bit x y s t e = omega arith

-- where two sets of axes differ first
pub record DifferFirst (a b t : ℕ) : Type 0 where
  pub within : t < 8
  pub before : (j : ℕ) → j < t → bit_at a j ≡ bit_at b j
  pub here : bit_at a t + bit_at b t ≡ 1

differ : (a b t : ℕ) → (t < 8) × (bit_at (bit_xor a b) t ≡ 1) × ((i : ℕ) → i < t → bit_at (bit_xor a b) i ≡ 0) → DifferFirst a b t
differ a b t z = record {
  within = z.0;
  before = λ j s. same_bit (bit_at a j) (bit_at b j) (bit_at-lt a j) (bit_at-lt b j) (sym (bit_at_xor a b j) ∙ z.2 j s);
  here = other_bit (bit_at a t) (bit_at b t) (bit_at-lt a t) (bit_at-lt b t) (sym (bit_at_xor a b t) ∙ z.1);
}

pub differ_first : (a b : ℕ) → 0 < bit_xor a b → bit_xor a b < 2 ^ 8 → DifferFirst a b (trailing_zeros w8 (bit_xor a b))
differ_first a b p s = differ a b (trailing_zeros w8 (bit_xor a b)) (bit_at-trailing_zeros w8 (bit_xor a b) p s)

pub greater_uppers : (a b t : ℕ) → DifferFirst a b t → bit_at a t ≡ 1 → OrdersUppers a b Greater
greater_uppers a b t d e ls s r = sym (uppers_greater ls a b t s d.before e (omega (arith, d.here)))

pub less_uppers : (a b t : ℕ) → DifferFirst a b t → bit_at a t ≡ 0 → OrdersUppers a b Less
less_uppers a b t d e ls s r =
    ap ordering_reverse (sym (uppers_greater ls b a t r (λ j k. sym (d.before j k)) (omega (arith, d.here)) e))
    ∙ sym ((lists_total int_cmp_total).antisymm (upper_of (cell_of ls a)) (upper_of (cell_of ls b)))

pub equal_uppers : (a b : ℕ) → a ≡ b → OrdersUppers a b Equal
equal_uppers a b e ls s r = sym (ap (λ n. corner_cmp (upper_of (cell_of ls n)) (upper_of (cell_of ls b))) e ∙ tied_itself (lists_total int_cmp_total) (upper_of (cell_of ls b)))

pub same_from_xor : (a b : ℕ) → bit_xor a b ≡ 0 → a ≡ b
same_from_xor a b e = same_from_bits a b (λ i. same_bit (bit_at a i) (bit_at b i) (bit_at-lt a i) (bit_at-lt b i) (sym (bit_at_xor a b i) ∙ ap (λ n. bit_at n i) e ∙ bit_at-zero i))
