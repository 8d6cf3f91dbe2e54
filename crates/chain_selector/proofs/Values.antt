-- The value at a cell, as a list of cells of the range.
use Rattle.std.proofs.Common.{◌≡◌, ◌≢◌, ℕ, suc, ◌+◌, ◌<◌, ◌≤◌, refl, sym, ap, ◌∙◌, arith, ⊎_elim, List, [], ◌∷◌, length, filter, cond, Bool, true, false}
use mathlib.Core.Path.{fun_ext}
use Rattle.std.specs.List.{Contains, list_all}
use Rattle.std.specs.Cmp.{both_ways}
use Rattle.std.proofs.lemmas.Bool.{cases_lt}
use Rattle.std.proofs.lemmas.List.{get_or_default}
use Rattle.std.proofs.lemmas.List.Elements.{Contains-get_or}
use Rattle.elem_cubes.specs.Cells.{Factor, dimension_of, is_file_factor}
use Rattle.elem_cubes.specs.Laws.{cell_at}
use Rattle.elem_cubes.proofs.Members.{In-from, from-In}
use Rattle.cube_sets.specs.Closures.{is_cell_of, cells_of}
use Rattle.cell_complex.specs.Sorted.{IsSortedCells}
use Rattle.cell_complex.specs.RelativeComplex.{IsClosedList}
use Rattle.cell_complex.specs.Acyclic.{IsAcyclic}
use Rattle.cell_complex.proofs.Numbering.{found}
use Rattle.acyclic_values.specs.Values.{in_value, IsValueAt}
use Rattle.acyclic_values.specs.Contractions.{IsCellList}
use Rattle.acyclic_values.proofs.Cells.{cells_listing, all_In, In_all, corner, corner_face, corner_dimension}
use Rattle.acyclic_values.proofs.Values.{value_to, value_from, value_list, value_list_is, values_are_one, values_carry}
use Rattle.acyclic_values.proofs.Contracting.{member}
use Rattle.map_checks.specs.Carriers.{Carrying, IsCarrier}
use Rattle.map_checks.proofs.Hollow.{value_closed}

filter_few : (test : List Factor → Bool) (xs : List (List Factor)) → length (filter test xs) ≤ length xs
filter_few test [] = omega arith
filter_few test (x ∷ xs) =
    let h = filter_few test xs in
    elim (test x) as (λ b. length (cond b (x ∷ filter test xs) (filter test xs)) ≤ suc (length xs)) [ true ↦ omega arith | false ↦ omega arith ]

-- a list of cells that is closed under faces and not empty has a vertex
pub some_vertex : (V : List (List Factor)) → IsClosedList V → 0 < length V → ((k : ℕ) → k < length V → dimension_of (cell_at V k) ≢ 0) → ⊥
some_vertex V closed some none =
    let w = closed (cell_at V 0) (corner (cell_at V 0)) (corner_face (cell_at V 0)) (Contains-get_or V 0 [] some) in
    let i = place_of V (corner (cell_at V 0)) w in
    none i.0 i.1 (ap dimension_of i.2 ∙ corner_dimension (cell_at V 0))
  where
    place_of : (V : List (List Factor)) (q : List Factor) → Contains V q → (i : ℕ) × (i < length V) × (cell_at V i ≡ q)
    place_of V q w = (w.0, w.1, get_or_default V w.0 [] q w.1 ∙ w.2)

-- the first cells are no vertices, and one more is none
pub no_vertex_more : (V : List (List Factor)) (n d : ℕ) (q : List Factor) → ((k : ℕ) → k < n → dimension_of (cell_at V k) ≢ 0) → q ≡ cell_at V n → d ≡ dimension_of q → d ≢ 0 → (k : ℕ) → k < n + 1 → dimension_of (cell_at V k) ≢ 0
no_vertex_more V n d q before at e none k l z = ⊎_elim
    (λ lt. before k lt z)
    (λ ge. let m : k ≡ n = omega arith in none (e ∙ ap dimension_of (at ∙ ap (cell_at V) (sym m)) ∙ z))
    (cases_lt k n)

pub not_empty : (V : List (List Factor)) → V ≢ [] → 0 < length V
not_empty [] n = absurd (n refl)
not_empty (q ∷ qs) n = omega arith

-- the value V at the cell q
module _ (p : ℕ) (c : Carrying) (is : IsCarrier p c) (q : List Factor) (at : is_cell_of c.domain q ≡ true) (V : List (List Factor)) (v : IsValueAt c.map c.domain q V) where
  pub closed_value : IsClosedList V
  closed_value = value_closed c.map c.domain q V v

  pub cell_list : IsCellList V
  cell_list = record { sorted = v.sorted; closed = closed_value }

  pub acyclic_value : IsAcyclic p V
  acyclic_value = is.acyclic.acyclic q V at v

  -- the two tests of being in the value
  pub same_test : (g : List Factor) → is_cell_of V g ≡ in_value c.map c.domain q g
  same_test g = both_ways (is_cell_of V g) (in_value c.map c.domain q g)
      (λ e. value_from c.map c.domain q g ((v.cells g).0 ((member V cell_list g).0 e)))
      (λ e. (member V cell_list g).1 ((v.cells g).1 (value_to c.map c.domain q g e)))

  pub same_tests : is_cell_of V ≡ in_value c.map c.domain q
  same_tests = fun_ext (λ g. same_test g)

  -- its cells are cells of the range
  pub in_range : (g : List Factor) → is_cell_of V g ≡ true → is_cell_of c.range g ≡ true
  in_range g e = (values_carry p c.map c.domain c.range is.acyclic).inside q g at (sym (same_test g) ∙ e)

  pub place : (i : ℕ) → i < length V → (j : ℕ) × (j < length (cells_of c.range)) × (cell_at (cells_of c.range) j ≡ cell_at V i)
  place i l = found (is_cell_of c.range) (cells_of c.range) (cells_listing c.range) (cell_at V i) (in_range (cell_at V i) ((member V cell_list (cell_at V i)).1 (Contains-get_or V i [] l)))

  -- they stand as numbered cells do
  pub sorted_value : IsSortedCells V
  sorted_value = record {
    sorted = v.sorted;
    alike = λ i j li lj. let a = place i li in let b = place j lj in ap length (sym a.2) ∙ is.range_cells.alike a.0 b.0 a.1 b.1 ∙ ap length b.2;
    in_range = In_all (list_all is_file_factor) V (λ g w.
        all_In (list_all is_file_factor) (cells_of c.range) is.range_cells.in_range g
        (In-from (cells_of c.range) g (((cells_listing c.range).members g).0 (in_range g ((member V cell_list g).1 (from-In V g w))))));
    few =
        let e : V ≡ value_list c.map c.domain c.range q = values_are_one c.map c.domain q V (value_list c.map c.domain c.range q) v (value_list_is c.map c.domain c.range q (λ g h. in_range g (same_test g ∙ h))) in
        let f = filter_few (in_value c.map c.domain q) (cells_of c.range) in
        let g : length V ≡ length (value_list c.map c.domain c.range q) = ap length e in
        let h = is.range_cells.few in
        omega arith;
  }
