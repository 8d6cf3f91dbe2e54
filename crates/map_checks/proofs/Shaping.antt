-- The shape of a value, while it is made of one cube round the cell after the other; and what acyclic shapes say of values.
use Rattle.std.proofs.Common.{◌≡◌, ◌↔◌, ◌⊎◌, inl, inr, ⊎_elim, ℕ, refl, sym, ◌∙◌, subst, List, [], ◌∷◌, ◌++◌, true, ◌&&◌}
use Rattle.std.specs.List.{Contains, list_all}
use Rattle.std.specs.Cmp as cmp
use Rattle.std.proofs.lemmas.Bool.{and_parts}
use Rattle.std.proofs.lemmas.List.Folds.{list_all-append}
use Rattle.elem_cubes.specs.Cells.{Factor}
use Rattle.elem_cubes.specs.Covers.{covers_of}
use Rattle.elem_cubes.proofs.FaceLemmas.{face_refl}
use Rattle.elem_cubes.proofs.Members.{In, In-from, from-In}
use Rattle.cube_sets.specs.Closures.{is_cell_of, cells_of}
use Rattle.cube_sets.proofs.Covering.{cells_are_faces}
use Rattle.cell_complex.specs.RelativeComplex.{IsClosedList}
use Rattle.cell_complex.proofs.Alike.{of_cells}
use Rattle.cell_complex.proofs.Deciding.{closed, cells_of_sets_are_closed}
use Rattle.cell_complex.proofs.Sorting.{apart}
use Rattle.cube_maps.specs.CubeMaps.{Naming, Mapping, IsCubeMap, value_of}
use Rattle.acyclic_values.specs.Values.{IsValueAt}
use Rattle.acyclic_values.proofs.Cells.{cell_in, cell_from}
use Rattle.map_checks.specs.Faults.{AreNamed, IsAcyclicAt}
use Rattle.map_checks.specs.Shapes.{InShape, IsShapeAt, IsAcyclicShape}
use Rattle.map_checks.proofs.Narrowing.{InAll, cells_have, in_value}
use Rattle.map_checks.proofs.Moving.{closed_shape}

-- the shape and the cubes that are left tell what is in the value
pub record IsShaped (map : List Naming) (domain all left : List (List Factor)) (shape : List (List (List Factor))) : Type 0 where
  pub so_far : (g : List Factor) → InAll map domain all g ↔ (InShape shape g × InAll map domain left g)

one_more : (shape : List (List (List Factor))) (v : List (List Factor)) (g : List Factor) → InShape (shape ++ v ∷ []) g ↔ (InShape shape g × (is_cell_of v g ≡ true))
one_more shape v g = (
  λ e.
      let both = and_parts (list_all (λ v. is_cell_of v g) shape) (list_all (λ v. is_cell_of v g) (v ∷ [])) (sym (list_all-append (λ v. is_cell_of v g) shape (v ∷ [])) ∙ e) in
      (both.0, (and_parts (is_cell_of v g) true both.1).0),
  λ h. list_all-append (λ v. is_cell_of v g) shape (v ∷ []) ∙ (λ i. h.0 i && (h.1 i && true)),
)

module _ (map : List Naming) (domain all : List (List Factor)) where
  pub shaped_none : (left : List (List Factor)) → left ≡ all → IsShaped map domain all left []
  shaped_none left e = record {
    so_far = λ g. (
      λ k. (refl, subst (λ (l : List (List Factor)). InAll map domain l g) (sym e) k),
      λ k. subst (λ (l : List (List Factor)). InAll map domain l g) e k.1,
    );
  }

  module _ (left rest : List (List Factor)) (x : List Factor) (step : left ≡ x ∷ rest) (shape : List (List (List Factor))) where
    later : (q : List Factor) → In rest q → In left q
    later q w = subst (λ (l : List (List Factor)). In l q) (sym step) (inr w)

    first : In left x
    first = subst (λ (l : List (List Factor)). In l x) (sym step) (inl refl)

    either : (q : List Factor) → In left q → (x ≡ q) ⊎ In rest q
    either q w = subst (λ (l : List (List Factor)). In l q) step w

    -- a cube that the domain has not
    pub shaped_passed : (Contains domain x → ⊥) → IsShaped map domain all left shape → IsShaped map domain all rest shape
    shaped_passed out h = record {
      so_far = λ g. (
        λ k. let v = (h.so_far g).0 k in (v.0, λ q w d. v.1 q (later q w) d),
        λ k. (h.so_far g).1 (k.0, λ q w d. ⊎_elim (λ e. absurd (out (subst (Contains domain) (sym e) d))) (λ v. k.1 q v d) (either q w)),
      );
    }

    -- a cube of the domain
    pub shaped_taken : (new : List (List (List Factor))) → new ≡ shape ++ value_of map x ∷ [] → Contains domain x → IsShaped map domain all left shape → IsShaped map domain all rest new
    shaped_taken new e at h = subst (IsShaped map domain all rest) (sym e) (record {
      so_far = λ g. (
        λ k. let v = (h.so_far g).0 k in ((one_more shape (value_of map x) g).1 (v.0, v.1 x first at), λ q w d. v.1 q (later q w) d),
        λ k. let v = (one_more shape (value_of map x) g).0 k.0 in
            (h.so_far g).1 (v.0, λ q w d. ⊎_elim (λ e. subst (λ (r : List Factor). is_cell_of (value_of map r) g ≡ true) e v.1) (λ u. k.1 q u d) (either q w)),
      );
    })

pub shaped_at : (map : Mapping) → IsCubeMap map → (domain : List (List Factor)) → AreNamed map.named domain → (s : List Factor) (left : List (List Factor)) (shape : List (List (List Factor)))
    → left ≡ [] → IsShaped map.named domain (covers_of s) left shape → IsShapeAt map.named domain s shape
shaped_at map is domain named s left shape e h g = (
  λ k. (in_value map is domain named s g).0 ((h.so_far g).1 (k, λ q w d. absurd (subst (λ (l : List (List Factor)). In l q) e w))),
  λ v. ((h.so_far g).0 ((in_value map is domain named s g).1 v)).0,
)

-- ---- what acyclic shapes say

same_as_cells : (x : List (List Factor)) (g : List Factor) → is_cell_of (cells_of x) g ≡ is_cell_of x g
same_as_cells x g = cmp.both_ways (is_cell_of (cells_of x) g) (is_cell_of x g)
    (λ e. let w = cell_in (cells_of x) g e in closed x w.0 g w.2 ((cells_have x w.0).0 (from-In (cells_of x) w.0 w.1)))
    (λ e. cell_from (cells_of x) g g (In-from (cells_of x) g ((cells_have x g).1 e)) (face_refl g))

module _ (p : ℕ) (map : List Naming) (domain : List (List Factor)) (s : List Factor) (shape : List (List (List Factor))) (at : IsShapeAt map domain s shape) where
  pub acyclic_shape : IsAcyclicAt p map domain s → IsAcyclicShape p shape
  acyclic_shape ac value once members =
      let shut : IsClosedList value = closed_shape shape value members in
      let inner = λ (g : List Factor). cells_of_sets_are_closed.themselves value shut g in
      let is : IsValueAt map domain s (cells_of value) = record {
        sorted = cells_are_faces.sorted value;
        cells = λ g. (
          λ w. (at g).0 ((members g).0 ((inner g).0 ((cells_have value g).0 w))),
          λ v. (cells_have value g).1 ((inner g).1 ((members g).1 ((at g).1 v))),
        );
      } in
      of_cells p (cells_of value) value (same_as_cells value) (ac (cells_of value) is)

  pub acyclic_by_shape : IsAcyclicShape p shape → IsAcyclicAt p map domain s
  acyclic_by_shape h value is = h value (apart value is.sorted) (λ g. (λ w. (at g).1 ((is.cells g).0 w), λ k. (is.cells g).1 ((at g).0 k)))
