-- A set and what excision leaves of its subset have no more cells than both.
use Rattle.std.proofs.Common.{◌≡◌, ◌≤◌, ⊎_elim, sym, ◌∙◌, List, ◌++◌, true, subst}
use Rattle.elem_cubes.specs.Cells.{Factor}
use Rattle.elem_cubes.proofs.Members.{In-append, left-In, right-In}
use Rattle.cube_sets.specs.Sets.{Members}
use Rattle.cube_sets.specs.Closures.{is_cell_of, cells_of}
use Rattle.cube_sets.proofs.Covering.{cells_are_faces}
use Rattle.cell_complex.specs.CellCount.{cell_count}
use Rattle.cell_complex.proofs.Deciding.{has_is}
use Rattle.cell_complex.proofs.Counting.{counted_below, distinct_from_sorted}
use Rattle.acyclic_values.proofs.Cells.{cell_in, cell_from, filter_In}
use Rattle.excision.specs.Excision.{touches, excised}
use Rattle.pair_maps.proofs.Cells.{cells_counted}

pub excised_few : (x a : Members) → cell_count (x.cells ++ (excised x a).cells) ≤ cell_count (x.cells ++ a.cells)
excised_few x a =
    let less : List (List Factor) = x.cells ++ (excised x a).cells in
    let all : List (List Factor) = x.cells ++ a.cells in
    subst (λ n. n ≤ cell_count all) (cells_counted less) (counted_below all (cells_of less) (distinct_from_sorted (cells_of less) (cells_are_faces.sorted less))
    (λ q e. inside q (sym (cells_are_faces.faces less q) ∙ has_is (cells_of less) q ∙ e)))
  where
    inside : (q : List Factor) → is_cell_of (x.cells ++ (excised x a).cells) q ≡ true → is_cell_of (x.cells ++ a.cells) q ≡ true
    inside q e =
        let w = cell_in (x.cells ++ (excised x a).cells) q e in
        cell_from (x.cells ++ a.cells) w.0 q (⊎_elim
        (λ v. left-In x.cells a.cells w.0 v)
        (λ v. right-In x.cells a.cells w.0 (filter_In (touches x.cells) a.cells w.0 v).0)
        (In-append x.cells (excised x a).cells w.0 w.1)) w.2
