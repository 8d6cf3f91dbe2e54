-- The tests of cells: of being the same cell, of being a face, and of being a cell of a set
use Rattle.std.proofs.Common.{◌≡◌, ◌↔◌, refl, sym, ap, ◌∙◌, ⊎_elim, subst, List, [], ◌∷◌, ◌++◌, Bool, true, false, ◌&&◌, ◌||◌, get_or}
use Rattle.std.specs.Prelude.{not}
use Rattle.std.specs.List.{list_any, Contains}
use Rattle.std.proofs.lemmas.Bool.{or_cases}
use Rattle.std.proofs.lemmas.List.Folds.{list_any_at, Any-from_list_any, list_any-append}
use Rattle.std.proofs.lemmas.Map.Views.{list_any-from_Contains}
use Rattle.elem_cubes.specs.Cells.{Factor, same_cell}
use Rattle.elem_cubes.specs.Faces.{IsFace, is_face}
use Rattle.elem_cubes.specs.Order.{cell_cmp}
use Rattle.elem_cubes.specs.OrderLemmas.{same_cell-Decides, same_cell_equivalence, cell_cmp_ties, cell_refl, cell_cases}
use Rattle.elem_cubes.proofs.FaceLemmas.{face-Decides, face_refl, face_trans}
use Rattle.cube_sets.specs.Sorted.{has}
use Rattle.cube_sets.specs.Closures.{is_cell_of}
use Rattle.cell_complex.specs.RelativeComplex.{is_relative, IsClosed, IsClosedList}
use Rattle.cell_complex.specs.Laws.{CellsOfSetsAreClosed}

-- ---- the same cell

pub cell_true : (q r : List Factor) → same_cell q r ≡ true → q ≡ r
cell_true q r h = (same_cell-Decides q r).0 h

pub same_cell_sym : (q r : List Factor) → same_cell q r ≡ same_cell r q
same_cell_sym = same_cell_equivalence.symm

-- q is in the list
abbrev pub has_cell : List (List Factor) → List Factor → Bool
has_cell cells q = list_any (same_cell q) cells

pub has_from : (cells : List (List Factor)) (q : List Factor) → Contains cells q → has_cell cells q ≡ true
has_from cells q w = list_any-from_Contains same_cell_equivalence q cells w

pub from_has : (cells : List (List Factor)) (q : List Factor) → has_cell cells q ≡ true → Contains cells q
from_has cells q h =
    let w = Any-from_list_any (same_cell q) cells h in
    subst (λ (r : List Factor). Contains cells r) (sym (cell_true q w.1 w.4)) (w.0, w.2, w.3)

-- the test by the order is the same
pub has_is : (cells : List (List Factor)) (q : List Factor) → has cell_cmp cells q ≡ has_cell cells q
has_is [] q = refl
has_is (r ∷ rs) q = ap (λ b. b || has cell_cmp rs q) (sym (cell_cmp_ties r q) ∙ same_cell_sym r q) ∙ ap (λ b. same_cell q r || b) (has_is rs q)

-- what is said of any cell that is not r, and of r
pub either_cell : (p : Bool → Bool → Type 0) (q r : List Factor) (at : List Factor → Bool) → p true (at r) → ((b : Bool) → p false b) → p (same_cell q r) (at q)
either_cell p q r at here there = ⊎_elim
    (λ e. let P : List Factor → Type 0 = λ s. p (same_cell s r) (at s) in subst P (sym e) (let Q : Bool → Type 0 = λ b. p b (at r) in subst Q (sym (cell_refl r)) here))
    (λ f. let Q : Bool → Type 0 = λ b. p b (at q) in subst Q (sym f) (there (at q)))
    (cell_cases q r)

-- ---- a face

pub face_true : (q r : List Factor) → is_face q r ≡ true → IsFace q r
face_true q r h = (face-Decides q r).0 h

pub face_from : (q r : List Factor) → IsFace q r → is_face q r ≡ true
face_from q r h = (face-Decides q r).1 h

or_left : (a b : Bool) → a ≡ true → (a || b) ≡ true
or_left true b e = refl
or_left false b e = cc

or_right : (a b : Bool) → b ≡ true → (a || b) ≡ true
or_right true b e = refl
or_right false b e = e

-- ---- the cells of a set

pub closed : (x : List (List Factor)) → IsClosed (is_cell_of x)
closed [] q r f h = h
closed (s ∷ x) q r f h =
    ⊎_elim
    (λ e. or_left (is_face s r) (is_cell_of x r) (face_from s r (face_trans s q r (face_true s q e) f)))
    (λ e. or_right (is_face s r) (is_cell_of x r) (closed x q r f e))
    (or_cases (is_face s q) (is_cell_of x q) h)

themselves : (x : List (List Factor)) → IsClosedList x → (q : List Factor) → (is_cell_of x q ≡ true) ↔ Contains x q
themselves x c q = (
  λ h. let w = Any-from_list_any (λ s. is_face s q) x h in
      c w.1 q (face_true w.1 q w.4) (w.0, w.2, w.3),
  λ w. list_any_at (λ s. is_face s q) x w.0 q w.1 (face_from (get_or x w.0 q) q (let P : List Factor → Type 0 = λ s. IsFace s q in subst P (sym w.2) (face_refl q))),
)

joined : (x a : List (List Factor)) (q : List Factor) → is_relative (x ++ a) a q ≡ is_relative x a q
joined x a q = ap (λ v. v && not (is_cell_of a q)) (list_any-append (λ s. is_face s q) x a) ∙ cases (is_cell_of x q) (is_cell_of a q)
  where
    cases : (u v : Bool) → ((u || v) && not v) ≡ (u && not v)
    cases true true = refl
    cases true false = refl
    cases false true = refl
    cases false false = refl

pub cells_of_sets_are_closed : CellsOfSetsAreClosed
cells_of_sets_are_closed = record { closed = closed; themselves = themselves; joined = joined }
