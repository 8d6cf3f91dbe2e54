-- The squares around the holes, counted.
use Rattle.std.proofs.Common.{◌≡◌, ℕ, ◌+◌, ◌*◌, ◌%◌, ◌/◌, ◌<◌, ◌≤◌, sym, ap, ◌∙◌, subst, arith, inl, inr, ⊎_elim, ◌⊎◌, List, length, map}
use Rattle.std.specs.Prelude.{pos}
use Rattle.std.proofs.lemmas.Bool.{cases_eq}
use Rattle.elem_cubes.specs.Cells.{Factor, interval}
use Rattle.elem_cubes.proofs.Members.{In, In-map, map-In, Apart, apart-map}
use Rattle.cube_sets.specs.Sets.{Members}
use Rattle.cube_sets.proofs.Spreads.{has_In, In_has}
use Rattle.hole_squares.specs.Holes.{IsHoleSquare, IsHoleSet}
use Rattle.hole_squares.specs.Counts.{square_number}
use Rattle.hole_squares.proofs.Lists.{apart_distinct, sorted_distinct, same_length, below, below_In, In_below, apart_below, length_below}
use Rattle.hole_squares.proofs.Grids.{pair, grid, length_grid, apart_grid, AreInGrid, In_grid, grid_In, length_map}

-- ---- intervals with odd and with even lower ends

abbrev pub odd_interval : ℕ → Factor
odd_interval k = interval (pos (2 * k + 1))

abbrev pub even_interval : ℕ → Factor
even_interval k = interval (pos (2 * k))

abbrev pub odds : ℕ → List Factor
odds n = map odd_interval (below n)

abbrev pub evens : ℕ → List Factor
evens n = map even_interval (below (n + 1))

same_ends : (k l : ℕ) → interval (pos k) ≡ interval (pos l) → k ≡ l
same_ends k l e = cc

pub apart_odds : (n : ℕ) → Apart (odds n)
apart_odds n = apart-map odd_interval (below n) (λ k l e. let s = same_ends (2 * k + 1) (2 * l + 1) e in omega arith) (apart_below n)

pub apart_evens : (n : ℕ) → Apart (evens n)
apart_evens n = apart-map even_interval (below (n + 1)) (λ k l e. let s = same_ends (2 * k) (2 * l) e in omega arith) (apart_below (n + 1))

pub In_odds : (n : ℕ) (f : Factor) → In (odds n) f → (k : ℕ) × (k < n) × (f ≡ odd_interval k)
In_odds n f m = let w = In-map odd_interval (below n) f m in (w.0, In_below n w.0 w.1, sym w.2)

pub odds_In : (n k : ℕ) → k < n → In (odds n) (odd_interval k)
odds_In n k l = map-In odd_interval (below n) k (below_In n k l)

pub In_evens : (n : ℕ) (f : Factor) → In (evens n) f → (k : ℕ) × (k ≤ n) × (f ≡ even_interval k)
In_evens n f m = let w = In-map even_interval (below (n + 1)) f m in (w.0, (let l = In_below (n + 1) w.0 w.1 in omega arith), sym w.2)

pub evens_In : (n k : ℕ) → k ≤ n → In (evens n) (even_interval k)
evens_In n k l = map-In even_interval (below (n + 1)) k (below_In (n + 1) k (omega arith))

pub never_both : (n : ℕ) (f : Factor) → In (odds n) f → In (evens n) f → ⊥
never_both n f m k =
    let a = In_odds n f m in
    let b = In_evens n f k in
    let s = same_ends (2 * a.0 + 1) (2 * b.0) (sym a.2 ∙ b.2) in
    omega arith

-- an interval of which the lower end is from 0 to 2n
pub parity : (n x : ℕ) → x ≤ 2 * n → (In (odds n) (interval (pos x)) × (x % 2 ≡ 1)) ⊎ (In (evens n) (interval (pos x)) × (x % 2 ≡ 0))
parity n x l = ⊎_elim
    (λ odd.
    let e : 2 * (x / 2) + 1 ≡ x = omega arith in
    inl (subst (λ (k : ℕ). In (odds n) (interval (pos k))) e (odds_In n (x / 2) (omega arith)), odd))
    (λ not_odd.
    let e : 2 * (x / 2) ≡ x = omega arith in
    inr (subst (λ (k : ℕ). In (evens n) (interval (pos k))) e (evens_In n (x / 2) (omega arith)), omega arith))
    (cases_eq (x % 2) 1)

-- ---- squares

abbrev squares : ℕ → List (List Factor)
squares n = grid (odds n) (evens n)

square_In : (n : ℕ) (q : List Factor) → IsHoleSquare n q → In (squares n) q
square_In n q h = subst (λ (r : List Factor). In (squares n) r) (sym h.is) (grid_In (odds n) (evens n) (interval (pos h.x)) (interval (pos h.y)) (by (parity n h.x h.first) (parity n h.y h.second)))
  where
    by : ((In (odds n) (interval (pos h.x)) × (h.x % 2 ≡ 1)) ⊎ (In (evens n) (interval (pos h.x)) × (h.x % 2 ≡ 0)))
        → ((In (odds n) (interval (pos h.y)) × (h.y % 2 ≡ 1)) ⊎ (In (evens n) (interval (pos h.y)) × (h.y % 2 ≡ 0)))
        → AreInGrid (odds n) (evens n) (interval (pos h.x)) (interval (pos h.y))
    by (inl a) (inl b) = absurd (h.not_both_odd a.1 b.1)
    by (inl a) (inr b) = inl (a.0, b.0)
    by (inr a) (inl b) = inr (a.0, inl b.0)
    by (inr a) (inr b) = inr (a.0, inr b.0)

even_left : (k : ℕ) → (2 * k) % 2 ≡ 1 → ⊥
even_left k e = omega arith

-- the square of two of these factors
pub square_of : (n : ℕ) (f g : Factor) → AreInGrid (odds n) (evens n) f g → IsHoleSquare n (pair f g)
square_of n f g (inl (a, b)) =
    let i = In_odds n f a in
    let j = In_evens n g b in
    record { x = 2 * i.0 + 1; y = 2 * j.0; first = omega (arith, i.1); second = omega (arith, j.1); not_both_odd = λ o p. even_left j.0 p; is = ap (λ h. pair h g) i.2 ∙ ap (λ h. pair (odd_interval i.0) h) j.2 }
square_of n f g (inr (a, inl b)) =
    let i = In_evens n f a in
    let j = In_odds n g b in
    record { x = 2 * i.0; y = 2 * j.0 + 1; first = omega (arith, i.1); second = omega (arith, j.1); not_both_odd = λ o p. even_left i.0 o; is = ap (λ h. pair h g) i.2 ∙ ap (λ h. pair (even_interval i.0) h) j.2 }
square_of n f g (inr (a, inr b)) =
    let i = In_evens n f a in
    let j = In_evens n g b in
    record { x = 2 * i.0; y = 2 * j.0; first = omega (arith, i.1); second = omega (arith, j.1); not_both_odd = λ o p. even_left i.0 o; is = ap (λ h. pair h g) i.2 ∙ ap (λ h. pair (even_interval i.0) h) j.2 }

In_square : (n : ℕ) (q : List Factor) → In (squares n) q → IsHoleSquare n q
In_square n q m =
    let w = In_grid (odds n) (evens n) q m in
    subst (λ (r : List Factor). IsHoleSquare n r) (sym w.3) (square_of n w.0 w.1 w.2)

product : (n a b : ℕ) → a ≡ n → b ≡ n + 1 → a * b + b * (a + b) ≡ square_number n
product n a b e f = ap (λ k. k * b + b * (k + b)) e ∙ ap (λ k. n * k + k * (n + k)) f ∙ omega arith

length_squares : (n : ℕ) → length (squares n) ≡ square_number n
length_squares n = length_grid (odds n) (evens n) ∙ product n (length (odds n)) (length (evens n)) (length_map odd_interval (below n) ∙ length_below n) (length_map even_interval (below (n + 1)) ∙ length_below (n + 1))

pub squares_are_counted : (n : ℕ) (set : Members) → IsHoleSet n set → length set.cells ≡ square_number n
squares_are_counted n set is = same_length set.cells (squares n) (sorted_distinct set.cells is.sorted)
    (apart_distinct (squares n) (apart_grid (odds n) (evens n) (apart_odds n) (apart_evens n) (never_both n)))
    (λ q m. square_In n q ((is.members q).0 (In_has set.cells q m)))
    (λ q m. has_In set.cells q ((is.members q).1 (In_square n q m)))
    ∙ length_squares n
