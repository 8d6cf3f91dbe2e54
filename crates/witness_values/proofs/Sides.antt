-- The values of the map of a witness.
use Rattle.std.proofs.Common.{◌≡◌, ℕ, ◌<◌, ◌≤◌, sym, ap, ◌∙◌, subst, arith, List, [], ◌∷◌, length, filter, cond, Bool, true, false}
use Rattle.std.specs.List.{list_all}
use Rattle.std.proofs.lemmas.List.{get_or_default}
use Rattle.std.proofs.lemmas.List.Elements.{Contains-get_or}
use Rattle.std.proofs.lemmas.List.Kept.{IsStrictlySortedBy-filter}
use Rattle.elem_cubes.specs.Cells.{Factor, is_file_factor}
use Rattle.elem_cubes.specs.Order.{cell_cmp}
use Rattle.elem_cubes.specs.Laws.{cell_at}
use Rattle.elem_cubes.proofs.Members.{In-from, from-In}
use Rattle.cube_sets.specs.Closures.{is_cell_of}
use Rattle.cube_maps.specs.CubeMaps.{Naming}
use Rattle.cell_complex.specs.Sorted.{IsSortedCells}
use Rattle.cell_complex.specs.Numbering.{IsOfPair}
use Rattle.cell_complex.proofs.Numbering.{listed}
use Rattle.acyclic_values.specs.Values.{in_value, IsValueAt}
use Rattle.acyclic_values.proofs.Cells.{cells_listing, all_In, In_all, filter_In}
use Rattle.acyclic_values.proofs.Values.{values_are_one}
use Rattle.acyclic_values.proofs.Making.{pair_of}
use Rattle.map_checks.specs.Faults.{together, AreNamed}
use Rattle.witness_laws.specs.Inputs.{Given, target_of, all_cells}
use Rattle.witness_laws.specs.Parts.{cell_of, value_at, range_cells}
use Rattle.witness_laws.specs.Tables.{Tables}
use Rattle.witness_laws.proofs.Mapping.{value_here, value_list}
use Rattle.read_parts.specs.declared.parts.ReadMap.{ReadMap}
use Rattle.witness_values.specs.declared.cells.MapSides.{MapSides}
use Rattle.witness_values.specs.Cells.{AreSidesOf}

few_kept : (test : List Factor → Bool) (xs : List (List Factor)) → length (filter test xs) ≤ length xs
few_kept test [] = omega arith
few_kept test (x ∷ xs) = few (test x) (filter test xs) (few_kept test xs)
  where
    few : (b : Bool) (ys : List (List Factor)) → length ys ≤ length xs → length (cond b (x ∷ ys) ys) ≤ length (x ∷ xs)
    few true ys h = omega (arith, h)
    few false ys h = omega (arith, h)

-- what is kept of cells in order is in order
pub kept_sorted : (test : List Factor → Bool) (xs : List (List Factor)) → IsSortedCells xs → IsSortedCells (filter test xs)
kept_sorted test xs s = record {
  sorted = IsStrictlySortedBy-filter cell_cmp test xs s.sorted;
  alike = λ i j li lj. let a = place i li in let b = place j lj in ap length (sym a.2) ∙ s.alike a.0 b.0 a.1 b.1 ∙ ap length b.2;
  in_range = In_all (list_all is_file_factor) (filter test xs) (λ g w. all_In (list_all is_file_factor) xs s.in_range g (filter_In test xs g w).0);
  few = let f = few_kept test xs in let g = s.few in omega (arith, f, g);
}
  where
    place : (i : ℕ) → i < length (filter test xs) → (j : ℕ) × (j < length xs) × (cell_at xs j ≡ cell_at (filter test xs) i)
    place i l =
        let w = from-In xs (cell_at (filter test xs) i) (filter_In test xs (cell_at (filter test xs) i) (In-from (filter test xs) (cell_at (filter test xs) i) (Contains-get_or (filter test xs) i [] l))).0 in
        (w.0, w.1, get_or_default xs w.0 [] (cell_at (filter test xs) i) w.1 ∙ w.2)

module _ {p : ℕ} (s : MapSides p) (m : List Naming) (set : List (List Factor)) (part : ReadMap p) (G : Given) (W : Tables) (w : AreSidesOf s m set part G W) (i : ℕ) (li : i < length s.domain) where
  inside : i < length (all_cells G.x G.a)
  inside = subst (λ (ds : List (List Factor)). i < length ds) w.domain li

  cell_is : cell_at s.domain i ≡ cell_of G i
  cell_is = ap (λ (ds : List (List Factor)). cell_at ds i) w.domain

  pub in_set : (q : List Factor) → q ≡ cell_at s.domain i → is_cell_of set q ≡ true
  in_set q e = subst (λ (r : List Factor). is_cell_of set r ≡ true) (sym (e ∙ cell_is)) (subst (λ (d : List (List Factor)). is_cell_of d (cell_of G i) ≡ true) (sym w.cubes) (listed (is_cell_of (together G.x G.a)) (all_cells G.x G.a) (cells_listing (together G.x G.a)) i inside))

  pub cubes_named : AreNamed m set
  cubes_named = subst (λ (n : List Naming). AreNamed n set) (sym w.naming) (subst (λ (d : List (List Factor)). AreNamed (target_of G).map d) (sym w.cubes) w.fault.named)

  -- the value that was found is that of the witness
  pub value_is : (q : List Factor) (V : List (List Factor)) → q ≡ cell_at s.domain i → IsValueAt m set q V → V ≡ value_at G i
  value_is q V e v = values_are_one (target_of G).map (together G.x G.a) (cell_of G i) V (value_at G i)
      (subst (λ (n : List Naming). IsValueAt n (together G.x G.a) (cell_of G i) V) w.naming (subst (λ (d : List (List Factor)). IsValueAt m d (cell_of G i) V) w.cubes (subst (λ (r : List Factor). IsValueAt m set r V) (e ∙ cell_is) v)))
      (value_here G w.fault i inside)

  pub value_sorted : (q : List Factor) (V : List (List Factor)) → q ≡ cell_at s.domain i → IsValueAt m set q V → IsSortedCells V
  value_sorted q V e v = subst IsSortedCells (sym (value_is q V e v)) (kept_sorted (in_value (target_of G).map (together G.x G.a) (cell_of G i)) (range_cells G) (subst IsSortedCells w.range w.sorted))

  pub value_pair : (V : List (List Factor)) → V ≡ value_at G i → IsOfPair V
  value_pair V e = subst IsOfPair (sym e) (pair_of (value_at G i) (value_list G w.fault i inside))
