-- A map by its parts: where each value is acyclic and the images meet their laws, the map has acyclic values, and the images are a carried map.
use Rattle.std.proofs.Common.{◌≡◌, ℕ, ◌<◌, sym, ap, ◌∙◌, ⊎_elim, List, length, subst, true, true≢false}
use Rattle.std.specs.List.{Contains}
use Rattle.field_mod.specs.Modular.{Same}
use Rattle.elem_cubes.specs.Laws.{cell_at}
use Rattle.elem_cubes.specs.Cells.{Factor, dimension_of}
use Rattle.elem_cubes.proofs.Modular.{exact}
use Rattle.cube_sets.specs.Closures.{is_cell_of}
use Rattle.elem_cubes.specs.Boundary.{boundary_coefficient, boundary_at}
use Rattle.chains.specs.Homology.{IsChain}
use Rattle.cell_complex.specs.RelativeComplex.{complex_on}
use Rattle.cell_complex.specs.Numbering.{number_of}
use Rattle.cell_complex.proofs.Numbering.{listed, number_within, at_number}
use Rattle.cell_complex.proofs.Sorting.{number_below}
use Rattle.cell_complex.specs.Acyclic.{sum_over, IsAcyclic}
use Rattle.acyclic_values.specs.Values.{in_value, IsValueAt}
use Rattle.acyclic_values.specs.Contractions.{IsCellList}
use Rattle.acyclic_values.specs.CarriedMaps.{image as image_by, IsCarriedMap, IsAcyclicMap}
use Rattle.map_checks.specs.Faults.{together}
use Rattle.acyclic_values.proofs.Cells.{cells_listing}
use Rattle.acyclic_values.proofs.Values.{value_inside, value_list_is, values_are_one, values_closed, value_to, value_from}
use Rattle.acyclic_values.proofs.Contracting.{listing, member}
use Rattle.witness_laws.specs.Inputs.{Given, Target, target_of, all_cells, value_cells, IsWithoutFault}
use Rattle.witness_laws.proofs.Naming.{none_or}
use Rattle.witness_laws.specs.Parts.{nth, cell_of, value_at, range_cells, image_of, vertex_cell, vertex_of, NamesVertex, IsOfOneDimension, IsCarriedTo, IsAugmented, Commutes}

module _ (G : Given) (nf : IsWithoutFault G (target_of G)) where
  abbrev T : Target
  T = target_of G

  abbrev D : List (List Factor)
  D = together G.x G.a

  abbrev R : List (List Factor)
  R = together T.y T.b

  abbrev ds : List (List Factor)
  ds = all_cells G.x G.a

  abbrev rs : List (List Factor)
  rs = range_cells G

  pub is_value : (s : List Factor) → is_cell_of D s ≡ true → IsValueAt T.map D s (value_cells T G.x G.a s)
  is_value s e = value_list_is T.map D R s (λ g h. value_inside T.map D D R (λ q c. c) nf.inside s g e h)

  pub value_here : (i : ℕ) → i < length ds → IsValueAt T.map D (cell_of G i) (value_at G i)
  value_here i l = is_value (cell_of G i) (listed (is_cell_of D) ds (cells_listing D) i l)

  -- the value is a list of cells
  pub value_list : (i : ℕ) → i < length ds → IsCellList (value_at G i)
  value_list i l =
      let s : List Factor = cell_of G i in
      let v = value_here i l in
      record {
        sorted = v.sorted;
        closed = λ q r d c. (v.cells r).1 (value_to T.map D s r (values_closed T.map D s q r d (value_from T.map D s q ((v.cells q).0 c))));
      }

  -- the vertex stands at its place
  pub vertex_inside : (vertices : List ℕ) (i : ℕ) → i < length ds → NamesVertex G vertices i → vertex_of G vertices i < length (value_at G i)
  vertex_inside vertices i l w = number_below (value_at G i) (vertex_cell G vertices i) w.2.0

  pub vertex_lowest : (vertices : List ℕ) (i : ℕ) → i < length ds → NamesVertex G vertices i → dimension_of (cell_at (value_at G i) (vertex_of G vertices i)) ≡ 0
  vertex_lowest vertices i l w =
      let V : List (List Factor) = value_at G i in
      let cl = value_list i l in
      let c : List Factor = vertex_cell G vertices i in
      let e : cell_at V (vertex_of G vertices i) ≡ c = at_number (is_cell_of V) V (listing V cl) c ((member V cl c).1 w.2.0) in
      ap dimension_of e ∙ w.2.1

  pub place_of : (s : List Factor) → is_cell_of D s ≡ true → number_of ds s < length ds
  place_of s e = number_within (is_cell_of D) ds (cells_listing D) s e

  there : (s : List Factor) → is_cell_of D s ≡ true → cell_of G (number_of ds s) ≡ s
  there s e = at_number (is_cell_of D) ds (cells_listing D) s e

  pub is_acyclic : (p : ℕ) → ((i : ℕ) → i < length ds → IsAcyclic p (value_at G i)) → IsAcyclicMap p T.map D R
  is_acyclic p each = record {
    inside = nf.inside;
    acyclic = λ s value e v.
        let i : ℕ = number_of ds s in
        subst (IsAcyclic p) (values_are_one T.map D s (value_at G i) value (subst (λ (q : List Factor). IsValueAt T.map D q (value_at G i)) (there s e) (value_here i (place_of s e))) v)
        (each i (place_of s e));
  }

  module _ (p : ℕ) (images : List (List (ℕ × ℕ))) (degrees : (i : ℕ) → i < length ds → IsOfOneDimension G images i) (inside : (i : ℕ) → i < length ds → IsCarriedTo G images i)
      (augmented : (i : ℕ) → i < length ds → IsAugmented p G images i) (commuting : (i : ℕ) → i < length ds → Commutes p G images i) where
    abbrev f : List Factor → List Factor → ℕ
    f = image_of G images

    image_chain : (s : List Factor) → is_cell_of D s ≡ true → IsChain p (complex_on p (in_value T.map D s)) (dimension_of s) (f s)
    image_chain s e =
        let i : ℕ = number_of ds s in
        let ts : List (ℕ × ℕ) = nth images i in
        record {
          on = λ g off. ⊎_elim (λ z. exact p z) (λ h. absurd (true≢false (sym (value_from T.map D s g (((is_value s e).cells g).0 (subst (λ (q : List Factor). Contains (value_cells T G.x G.a q) g) (there s e) h))) ∙ off))) (none_or rs (Contains (value_at G i)) ts g (inside i (place_of s e)));
          of_degree = λ g f. ⊎_elim (λ z. exact p z) (λ h. absurd (f (h ∙ ap dimension_of (there s e)))) (none_or rs (λ q. dimension_of q ≡ dimension_of (cell_of G i)) ts g (degrees i (place_of s e)));
        }

    pub is_carried : IsCarriedMap p T.map D R f
    is_carried s e = record {
      chain = image_chain s e;
      commutes = subst (λ (q : List Factor). (r : List Factor) → Same p (boundary_at p r (f q)) (image_by ds f (boundary_coefficient p q) r)) (there s e) (commuting (number_of ds s) (place_of s e));
      augmentation = subst (λ (q : List Factor). dimension_of q ≡ 0 → Same p (sum_over rs (f q)) 1) (there s e) (augmented (number_of ds s) (place_of s e));
    }
