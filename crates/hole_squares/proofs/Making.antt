-- The squares that are made are those around the holes.
use Rattle.std.proofs.Common.{◌≡◌, ℕ, zero, suc, ◌+◌, ◌*◌, ◌%◌, ◌<◌, ◌≤◌, ◌^◌, refl, sym, ap, ◌∙◌, subst, arith, inl, inr, ⊎_elim, ◌⊎◌, List, [], ◌∷◌, length, length-append, Bool, true, false, ◌&&◌, ◌==◌, true≢false}
use Rattle.std.specs.Prelude.{pos}
use Rattle.std.specs.List.{list_all}
use Rattle.std.proofs.lemmas.Bool.{cases_lt, cond_both, and_parts, eqb-true, eq-eqb}
use Rattle.std.proofs.lemmas.Int.{ints}
use Rattle.elem_cubes.specs.Cells.{Factor, interval, is_file_factor}
use Rattle.elem_cubes.specs.Order.{cell_cmp}
use Rattle.elem_cubes.proofs.Members.{In, In-append, left-In, right-In}
use Rattle.cube_sets.specs.Sorted.{has}
use Rattle.cube_sets.specs.Sets.{Members, IsCubeSet, holds, is_member}
use Rattle.cube_sets.proofs.Spreads.{has_In, In_has, all_from_In}
use Rattle.hole_squares.specs.Holes.{square, IsHoleSquare, IsHoleSet}
use Rattle.hole_squares.specs.Columns.{unless_hole, column, columns}

-- ---- one square

abbrev NotBothOdd : ℕ → ℕ → Type 0
NotBothOdd x y = x % 2 ≡ 1 → y % 2 ≡ 1 → ⊥

both_true : (a b : Bool) → a ≡ true → b ≡ true → (a && b) ≡ true
both_true true b e f = f
both_true false b e f = e

In_unless : (x y : ℕ) (q : List Factor) → In (unless_hole x y) q → NotBothOdd x y × (q ≡ square x y)
In_unless x y q m = cond_both (x % 2 == 1 && y % 2 == 1) [] (square x y ∷ []) (λ ys. In ys q → NotBothOdd x y × (q ≡ square x y))
    (λ t k. absurd k)
    (λ f k. ((λ a b. true≢false (sym (both_true (x % 2 == 1) (y % 2 == 1) (eq-eqb (x % 2) 1 a) (eq-eqb (y % 2) 1 b)) ∙ f)), ⊎_elim (λ e. sym e) (λ z. absurd z) k)) m

unless_In : (x y : ℕ) → NotBothOdd x y → In (unless_hole x y) (square x y)
unless_In x y free = cond_both (x % 2 == 1 && y % 2 == 1) [] (square x y ∷ []) (λ ys. In ys (square x y))
    (λ t. let both = and_parts (x % 2 == 1) (y % 2 == 1) t in absurd (free (eqb-true (x % 2) 1 both.0) (eqb-true (y % 2) 1 both.1)))
    (λ f. inl refl)

one_at_most : (x y : ℕ) → length (unless_hole x y) ≤ 1
one_at_most x y = cond_both (x % 2 == 1 && y % 2 == 1) [] (square x y ∷ []) (λ ys. length ys ≤ 1) (λ t. omega arith) (λ f. omega arith)

-- ---- a column

last_or_before : (y n : ℕ) → y < suc n → (y < n) ⊎ (y ≡ n)
last_or_before y n l = ⊎_elim (λ m. inl m) (λ m. inr (omega arith)) (cases_lt y n)

In_column : (x rows : ℕ) (q : List Factor) → In (column x rows) q → (y : ℕ) × (y < rows) × NotBothOdd x y × (q ≡ square x y)
In_column x zero q m = absurd m
In_column x (suc rows) q m = ⊎_elim
    (λ k. let w = In_column x rows q k in (w.0, omega (arith, w.1), w.2, w.3))
    (λ k. let w = In_unless x rows q k in (rows, omega arith, w.0, w.1))
    (In-append (column x rows) (unless_hole x rows) q m)

column_In : (x rows y : ℕ) → y < rows → NotBothOdd x y → In (column x rows) (square x y)
column_In x zero y l free = absurd (omega arith)
column_In x (suc rows) y l free = ⊎_elim
    (λ m. left-In (column x rows) (unless_hole x rows) (square x y) (column_In x rows y m free))
    (λ e. right-In (column x rows) (unless_hole x rows) (square x y) (subst (λ (k : ℕ). In (unless_hole x k) (square x y)) e (unless_In x y free)))
    (last_or_before y rows l)

column_short : (x rows : ℕ) → length (column x rows) ≤ rows
column_short x zero = omega arith
column_short x (suc rows) = omega (arith, length-append (column x rows) (unless_hole x rows), one_at_most x rows, column_short x rows)

-- ---- all columns

In_columns : (rows n : ℕ) (q : List Factor) → In (columns rows n) q → (x : ℕ) × (y : ℕ) × (x < n) × (y < rows) × NotBothOdd x y × (q ≡ square x y)
In_columns rows zero q m = absurd m
In_columns rows (suc n) q m = ⊎_elim
    (λ k. let w = In_columns rows n q k in (w.0, w.1, omega (arith, w.2), w.3, w.4, w.5))
    (λ k. let w = In_column n rows q k in (n, w.0, omega arith, w.1, w.2, w.3))
    (In-append (columns rows n) (column n rows) q m)

columns_In : (rows n x y : ℕ) → x < n → y < rows → NotBothOdd x y → In (columns rows n) (square x y)
columns_In rows zero x y l k free = absurd (omega arith)
columns_In rows (suc n) x y l k free = ⊎_elim
    (λ m. left-In (columns rows n) (column n rows) (square x y) (columns_In rows n x y m k free))
    (λ e. right-In (columns rows n) (column n rows) (square x y) (subst (λ (z : ℕ). In (column z rows) (square x y)) e (column_In x rows y k free)))
    (last_or_before x n l)

columns_short : (rows n : ℕ) → length (columns rows n) ≤ n * rows
columns_short rows zero = omega arith
columns_short rows (suc n) = omega (arith, length-append (columns rows n) (column n rows), column_short n rows, columns_short rows n)

-- ---- the set of them

module _ (n : ℕ) (squares : List (List Factor)) (made : squares ≡ columns (2 * n + 1) (2 * n + 1)) where
  to_square : (q : List Factor) → In squares q → IsHoleSquare n q
  to_square q m =
      let w = In_columns (2 * n + 1) (2 * n + 1) q (subst (λ (qs : List (List Factor)). In qs q) made m) in
      record { x = w.0; y = w.1; first = omega (arith, w.2); second = omega (arith, w.3); not_both_odd = w.4; is = w.5 }

  from_square : (q : List Factor) → IsHoleSquare n q → In squares q
  from_square q h =
      let m : In (columns (2 * n + 1) (2 * n + 1)) (square h.x h.y) = columns_In (2 * n + 1) (2 * n + 1) h.x h.y (omega (arith, h.first)) (omega (arith, h.second)) h.not_both_odd in
      subst (λ (r : List Factor). In squares r) (sym h.is) (subst (λ (qs : List (List Factor)). In qs (square h.x h.y)) (sym made) m)

  pub is_hole_set : (set : Members) → set.dimension ≡ 2 → IsCubeSet set → ((c : List Factor) → holds set c ≡ has cell_cmp squares c) → IsHoleSet n set
  is_hole_set set dimension is members = record {
    dimension = dimension;
    sorted = is.sorted;
    members = λ q. ((λ h. to_square q (has_In squares q (sym (members q) ∙ h))), (λ h. members q ∙ In_has squares q (from_square q h)));
  }

  module _ (small : n ≤ 527) where
    many : (k : ℕ) → k ≤ 1055 → k * k ≤ 1055 * 1055
    many k l = grind arith

    pub squares_few : length squares < 2 ^ 32
    squares_few =
        let short : length squares ≤ (2 * n + 1) * (2 * n + 1) = omega (arith, ap length made, columns_short (2 * n + 1) (2 * n + 1)) in
        let bound = many (2 * n + 1) (omega arith) in
        omega arith

    in_range : (x : ℕ) → x ≤ 2 * n → is_file_factor (interval (pos x)) ≡ true
    in_range x l = grind (arith, ints)

    pub squares_alike : list_all (is_member 2) squares ≡ true
    squares_alike = all_from_In (is_member 2) squares (λ q m.
        let h = to_square q m in
        ap (is_member 2) h.is ∙ both_true (is_file_factor (interval (pos h.x))) (is_file_factor (interval (pos h.y)) && true) (in_range h.x h.first)
        (both_true (is_file_factor (interval (pos h.y))) true (in_range h.y h.second) refl))
