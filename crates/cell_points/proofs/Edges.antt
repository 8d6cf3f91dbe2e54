-- The edge from a corner along an axis.
use Rattle.std.proofs.Common.{◌≡◌, ℕ, zero, suc, ◌*◌, ◌/◌, ◌%◌, ◌^◌, ◌<◌, ◌≤◌, refl, ap, ◌∙◌, arith, List, [], ◌∷◌, length, true, eqb, Option, Some, None, IsSome, rules}
use Rattle.std.specs.Prelude.{ℤ, pos, ◌+ℤ◌, IsTrue, nat_lt, if◌then◌else◌}
use Rattle.std.proofs.lemmas.Nat.{one_shl, pow_below}
use Rattle.std.proofs.lemmas.Bool.Decides.{nat_tests}
use Rattle.std.proofs.Math.Nat.{pow-suc}
use Rattle.elem_cubes.specs.Cells.{point, interval, high, upper_of, cell_of, is_cell, checked_of}
use Rattle.cell_points.specs.Places.{up_along}

pub made_some : {A : Type 0} (o : Option A) (x : A) → o ≡ Some x → IsSome o
made_some None x e = cc
made_some (Some y) x e = search rules

pub axis_below : (a n : ℕ) → a < 2 ^ n → nat_lt a (2 ^ n) ≡ true
axis_below a n h = grind (arith, nat_tests)

pub edge_made : (c : List ℤ) (axis : ℕ) → axis < length c → length c ≤ 4 → IsTrue (is_cell (cell_of c (2 ^ axis))) → checked_of c (1 * 2 ^ axis % 2 ^ 8) ≡ Some (cell_of c (2 ^ axis))
edge_made c axis l s h =
    let e : 1 * 2 ^ axis % 2 ^ 8 ≡ 2 ^ axis = one_shl axis 8 (omega arith) in
    ap (λ a. checked_of c a) e ∙ rw (axis_below (2 ^ axis) (length c) (pow_below axis (length c) l), h) refl

points_upper : (c : List ℤ) → upper_of (cell_of c 0) ≡ c
points_upper [] = refl
points_upper (l ∷ ls) = ap (λ k. l ∷ k) (points_upper ls)

pub edge_upper : (c : List ℤ) (axis : ℕ) → axis < length c → upper_of (cell_of c (2 ^ axis)) ≡ up_along axis c
edge_upper [] axis l = absurd (omega arith)
edge_upper (l ∷ ls) zero h = ap (λ k. (l +ℤ pos 1) ∷ k) (points_upper ls)
edge_upper (l ∷ ls) (suc n) h =
    let e : 2 ^ suc n % 2 ≡ 0 = omega (arith, pow-suc 2 n) in
    let d : 2 ^ suc n / 2 ≡ 2 ^ n = omega (arith, pow-suc 2 n) in
    (λ i. high (if eqb (e i) 1 then interval l else point l) ∷ upper_of (cell_of ls (d i))) ∙ ap (λ k. l ∷ k) (edge_upper ls n (omega arith))

pub same_some : {A : Type 0} (o : Option A) (x y : A) → o ≡ Some x → o ≡ Some y → x ≡ y
same_some o x y e f = cc
