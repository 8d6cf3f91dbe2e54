-- The cells of the squares around the holes, counted.
use Rattle.std.proofs.Common.{◌≡◌, ℕ, ◌+◌, ◌*◌, ◌%◌, ◌/◌, ◌<◌, ◌≤◌, refl, sym, ap, ◌∙◌, subst, arith, inl, inr, ⊎_elim, ◌⊎◌, List, [], ◌∷◌, ◌++◌, length, length-append, map}
use Rattle.std.specs.Prelude.{pos, ℤ}
use Rattle.std.specs.List.{flat_map}
use Rattle.std.proofs.lemmas.Bool.{cases_eq}
use Rattle.elem_cubes.specs.Cells.{Factor, point, interval}
use Rattle.elem_cubes.specs.Faces.{IsPart, IsFace, closure_of}
use Rattle.elem_cubes.proofs.Listing.{closures_are_faces}
use Rattle.elem_cubes.proofs.Members.{In, In-from, from-In, In-map, map-In, In-append, left-In, right-In, In-flat, flat-In, Apart, apart-append, apart-map}
use Rattle.cube_sets.specs.Sets.{Members}
use Rattle.cube_sets.proofs.Spreads.{has_In, In_has}
use Rattle.cell_complex.specs.CellCount.{cell_count}
use Rattle.hole_squares.specs.Holes.{square, IsHoleSquare, IsHoleSet}
use Rattle.hole_squares.specs.Counts.{cell_number}
use Rattle.hole_squares.proofs.Lists.{apart_distinct, counted, below, below_In, In_below, apart_below, length_below}
use Rattle.hole_squares.proofs.Grids.{pair, grid, length_grid, apart_grid, AreInGrid, In_grid, grid_In, length_map}
use Rattle.hole_squares.proofs.Counted.{odd_interval, even_interval, odds, evens, apart_odds, apart_evens, In_odds, In_evens, never_both, parity}

-- ---- points, and what is no interval with an odd lower end

abbrev point_at : ℕ → Factor
point_at k = point (pos k)

abbrev points : ℕ → List Factor
points n = map point_at (below (2 * n + 2))

abbrev others : ℕ → List Factor
others n = evens n ++ points n

same_places : (k l : ℕ) → point (pos k) ≡ point (pos l) → k ≡ l
same_places k l e = cc

In_points : (n : ℕ) (f : Factor) → In (points n) f → (k : ℕ) × (k < 2 * n + 2) × (f ≡ point_at k)
In_points n f m = let w = In-map point_at (below (2 * n + 2)) f m in (w.0, In_below (2 * n + 2) w.0 w.1, sym w.2)

points_In : (n k : ℕ) → k < 2 * n + 2 → In (points n) (point_at k)
points_In n k l = map-In point_at (below (2 * n + 2)) k (below_In (2 * n + 2) k l)

no_interval : (l m : ℤ) → interval l ≡ point m → ⊥
no_interval l m e = cc

apart_others : (n : ℕ) → Apart (others n)
apart_others n = apart-append (evens n) (points n) (apart_evens n) (apart-map point_at (below (2 * n + 2)) same_places (apart_below (2 * n + 2)))
    (λ f a b. let i = In_evens n f a in let j = In_points n f b in no_interval (pos (2 * i.0)) (pos j.0) (sym i.2 ∙ j.2))

never_odd : (n : ℕ) (f : Factor) → In (odds n) f → In (others n) f → ⊥
never_odd n f a b = ⊎_elim
    (λ m. never_both n f a m)
    (λ m. let i = In_odds n f a in let j = In_points n f m in no_interval (pos (2 * i.0 + 1)) (pos j.0) (sym i.2 ∙ j.2))
    (In-append (evens n) (points n) f b)

-- ---- parts of the intervals of the squares

-- a part of such an interval is a point, or the interval
part_of : (n x : ℕ) (f : Factor) → x ≤ 2 * n → IsPart (interval (pos x)) f → In (points n) f ⊎ (f ≡ interval (pos x))
part_of n x (point m) l (inl e) = inl (subst (λ (z : ℤ). In (points n) (point z)) (sym e) (points_In n x (omega arith)))
part_of n x (point m) l (inr e) = inl (subst (λ (z : ℤ). In (points n) (point z)) (sym e) (points_In n (x + 1) (omega arith)))
part_of n x (interval m) l e = inr (ap interval e)

pub In_factors : (n x : ℕ) (f : Factor) → x ≤ 2 * n → IsPart (interval (pos x)) f → (In (odds n) f × (x % 2 ≡ 1)) ⊎ In (others n) f
In_factors n x f l part = ⊎_elim
    (λ m. inr (right-In (evens n) (points n) f m))
    (λ e. ⊎_elim
    (λ (m, odd). inl (subst (λ (g : Factor). In (odds n) g) (sym e) m, odd))
    (λ (m, even). inr (left-In (evens n) (points n) f (subst (λ (g : Factor). In (evens n) g) (sym e) m)))
    (parity n x l))
    (part_of n x f l part)

even_part : (n m : ℕ) → m < 2 * n + 2 → (k : ℕ) × (k ≤ n) × IsPart (even_interval k) (point_at m)
even_part n m l = ⊎_elim
    (λ odd. let e : m ≡ 2 * (m / 2) + 1 = omega arith in (m / 2, (omega arith), inr (ap pos e)))
    (λ not_odd. let e : m ≡ 2 * (m / 2) = omega arith in (m / 2, (omega arith), inl (ap pos e)))
    (cases_eq (m % 2) 1)

-- each of the others is a part of an interval with an even lower end
covered : (n : ℕ) (f : Factor) → In (others n) f → (k : ℕ) × (k ≤ n) × IsPart (even_interval k) f
covered n f m = ⊎_elim
    (λ a. let i = In_evens n f a in (i.0, i.1, subst (λ (g : Factor). IsPart (even_interval i.0) g) (sym i.2) refl))
    (λ b.
    let j = In_points n f b in
    let w = even_part n j.0 j.1 in
    (w.0, w.1, subst (λ (g : Factor). IsPart (even_interval w.0) g) (sym j.2) w.2))
    (In-append (evens n) (points n) f m)

-- ---- cells of the squares

abbrev cells : ℕ → List (List Factor)
cells n = grid (odds n) (others n)

abbrev IsCell : ℕ → List Factor → Type 0
IsCell n q = (s : List Factor) × IsHoleSquare n s × IsFace s q

In_cells : (n x y : ℕ) (q : List Factor) → x ≤ 2 * n → y ≤ 2 * n → (x % 2 ≡ 1 → y % 2 ≡ 1 → ⊥) → IsFace (square x y) q → In (cells n) q
In_cells n x y [] l k free face = absurd face
In_cells n x y (f ∷ []) l k free face = absurd face.1
In_cells n x y (f ∷ g ∷ h ∷ q) l k free face = absurd face.1.1
In_cells n x y (f ∷ g ∷ []) l k free face = grid_In (odds n) (others n) f g (by (In_factors n x f l face.0) (In_factors n y g k face.1.0))
  where
    by : ((In (odds n) f × (x % 2 ≡ 1)) ⊎ In (others n) f) → ((In (odds n) g × (y % 2 ≡ 1)) ⊎ In (others n) g) → AreInGrid (odds n) (others n) f g
    by (inl a) (inl b) = absurd (free a.1 b.1)
    by (inl a) (inr b) = inl (a.0, b)
    by (inr a) (inl b) = inr (a, inl b.0)
    by (inr a) (inr b) = inr (a, inr b)

cell_In : (n : ℕ) (q : List Factor) → IsCell n q → In (cells n) q
cell_In n q (s, is, face) = In_cells n is.x is.y q is.first is.second is.not_both_odd (subst (λ (r : List Factor). IsFace r q) is.is face)

even_left : (k : ℕ) → (2 * k) % 2 ≡ 1 → ⊥
even_left k e = omega arith

factors_face : (n x y : ℕ) (f g : Factor) → x ≤ 2 * n → y ≤ 2 * n → (x % 2 ≡ 1 → y % 2 ≡ 1 → ⊥) → IsPart (interval (pos x)) f → IsPart (interval (pos y)) g → IsCell n (pair f g)
factors_face n x y f g l k free a b = (square x y, record { x = x; y = y; first = l; second = k; not_both_odd = free; is = refl }, (a, (b, tt)))

odd_part : (k : ℕ) (f : Factor) → f ≡ odd_interval k → IsPart (odd_interval k) f
odd_part k f e = subst (λ (g : Factor). IsPart (odd_interval k) g) (sym e) refl

pair_cell : (n : ℕ) (f g : Factor) → AreInGrid (odds n) (others n) f g → IsCell n (pair f g)
pair_cell n f g (inl (a, b)) =
    let i = In_odds n f a in
    let j = covered n g b in
    factors_face n (2 * i.0 + 1) (2 * j.0) f g (omega (arith, i.1)) (omega (arith, j.1)) (λ o p. even_left j.0 p) (odd_part i.0 f i.2) j.2
pair_cell n f g (inr (a, inl b)) =
    let i = covered n f a in
    let j = In_odds n g b in
    factors_face n (2 * i.0) (2 * j.0 + 1) f g (omega (arith, i.1)) (omega (arith, j.1)) (λ o p. even_left i.0 o) i.2 (odd_part j.0 g j.2)
pair_cell n f g (inr (a, inr b)) =
    let i = covered n f a in
    let j = covered n g b in
    factors_face n (2 * i.0) (2 * j.0) f g (omega (arith, i.1)) (omega (arith, j.1)) (λ o p. even_left i.0 o) i.2 j.2

In_cell : (n : ℕ) (q : List Factor) → In (cells n) q → IsCell n q
In_cell n q m =
    let w = In_grid (odds n) (others n) q m in
    subst (λ (r : List Factor). IsCell n r) (sym w.3) (pair_cell n w.0 w.1 w.2)

-- ---- how many

length_others : (n : ℕ) → length (others n) ≡ 3 * n + 3
length_others n = length-append (evens n) (points n)
    ∙ ap (λ k. k + length (points n)) (length_map even_interval (below (n + 1)) ∙ length_below (n + 1))
    ∙ ap (λ k. n + 1 + k) (length_map point_at (below (2 * n + 2)) ∙ length_below (2 * n + 2))
    ∙ omega arith

product : (n a b : ℕ) → a ≡ n → b ≡ 3 * n + 3 → a * b + b * (a + b) ≡ cell_number n
product n a b e f = ap (λ k. k * b + b * (k + b)) e ∙ ap (λ k. n * k + k * (n + k)) f ∙ omega arith

length_cells : (n : ℕ) → length (cells n) ≡ cell_number n
length_cells n = length_grid (odds n) (others n) ∙ product n (length (odds n)) (length (others n)) (length_map odd_interval (below n) ∙ length_below n) (length_others n)

pub cells_are_counted : (n : ℕ) (set : Members) → IsHoleSet n set → cell_count set.cells ≡ cell_number n
cells_are_counted n set is =
    sym (counted (cells n) (flat_map closure_of set.cells)
    (apart_distinct (cells n) (apart_grid (odds n) (others n) (apart_odds n) (apart_others n) (never_odd n)))
    (λ q m.
    let w = In_cell n q m in
    flat-In closure_of set.cells w.0 q (has_In set.cells w.0 ((is.members w.0).1 w.1)) (In-from (closure_of w.0) q ((closures_are_faces.faces w.0 q).1 w.2)))
    (λ q m.
    let w = In-flat closure_of set.cells q m in
    cell_In n q (w.0, (is.members w.0).0 (In_has set.cells w.0 w.1), (closures_are_faces.faces w.0 q).0 (from-In (closure_of w.0) q w.2))))
    ∙ length_cells n
