-- How many cells a set and its subset have together.
use Rattle.std.proofs.Common.{◌≡◌, ◌≤◌, ⊎_elim, ℕ, refl, sym, ◌∙◌, List, ◌++◌, length, Bool, true, false}
use Rattle.elem_cubes.specs.Cells.{Factor}
use Rattle.elem_cubes.proofs.Members.{In-from, from-In, In-append, left-In, right-In}
use Rattle.cube_sets.specs.Closures.{is_cell_of, cells_of}
use Rattle.cube_sets.proofs.Covering.{cells_are_faces}
use Rattle.cell_complex.specs.CellCount.{cell_count}
use Rattle.cell_complex.proofs.Deciding.{has_is}
use Rattle.cell_complex.proofs.Counting.{counted, counted_below, distinct_from_sorted}
use Rattle.acyclic_values.proofs.Cells.{cell_in, cell_from}
use Rattle.map_checks.specs.Faults.{together}
use Rattle.map_checks.proofs.Firsts.{together_to, left_together, right_together}

-- all cells of a set are as many as are counted
pub cells_counted : (x : List (List Factor)) → length (cells_of x) ≡ cell_count x
cells_counted x = counted x (cells_of x) (distinct_from_sorted (cells_of x) (cells_are_faces.sorted x)) (λ q. sym (has_is (cells_of x) q) ∙ cells_are_faces.faces x q)

both_ways : (a b : Bool) → (a ≡ true → b ≡ true) → (b ≡ true → a ≡ true) → a ≡ b
both_ways true b f g = sym (f refl)
both_ways false true f g = g refl
both_ways false false f g = refl

-- the cells of both together are those of the one and of the other
together_cells : (x a : List (List Factor)) (q : List Factor) → is_cell_of (together x a) q ≡ is_cell_of (x ++ a) q
together_cells x a q = both_ways (is_cell_of (together x a) q) (is_cell_of (x ++ a) q) to from
  where
    to : is_cell_of (together x a) q ≡ true → is_cell_of (x ++ a) q ≡ true
    to e =
        let w = cell_in (together x a) q e in
        cell_from (x ++ a) w.0 q (⊎_elim
        (λ v. left-In x a w.0 (In-from x w.0 v))
        (λ v. right-In x a w.0 (In-from a w.0 v))
        (together_to x a w.0 (from-In (together x a) w.0 w.1))) w.2

    from : is_cell_of (x ++ a) q ≡ true → is_cell_of (together x a) q ≡ true
    from e =
        let w = cell_in (x ++ a) q e in
        cell_from (together x a) w.0 q (In-from (together x a) w.0 (⊎_elim
        (λ v. left_together x a w.0 (from-In x w.0 v))
        (λ v. right_together x a w.0 (from-In a w.0 v))
        (In-append x a w.0 w.1))) w.2

pub count_together : (x a : List (List Factor)) → cell_count (together x a) ≡ cell_count (x ++ a)
count_together x a = sym (cells_counted (together x a)) ∙ counted (x ++ a) (cells_of (together x a)) (distinct_from_sorted (cells_of (together x a)) (cells_are_faces.sorted (together x a)))
    (λ q. sym (has_is (cells_of (together x a)) q) ∙ cells_are_faces.faces (together x a) q ∙ together_cells x a q)

-- a set has no more cells than both together
pub first_few : (x a : List (List Factor)) → length (cells_of x) ≤ cell_count (together x a)
first_few x a = counted_below (together x a) (cells_of x) (distinct_from_sorted (cells_of x) (cells_are_faces.sorted x))
    (λ q e. let w = cell_in x q (sym (cells_are_faces.faces x q) ∙ has_is (cells_of x) q ∙ e) in
    cell_from (together x a) w.0 q (In-from (together x a) w.0 (left_together x a w.0 (from-In x w.0 w.1))) w.2)
