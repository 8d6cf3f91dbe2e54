-- Membership in a list of cells: by the order, and by equality
use Rattle.std.proofs.Common.{◌≡◌, refl, sym, ap, ◌∙◌, subst, List, [], ◌∷◌, Bool, true, ◌||◌}
use Rattle.std.specs.List.{list_any, Contains}
use Rattle.std.proofs.lemmas.List.Folds.{Any-from_list_any}
use Rattle.std.proofs.lemmas.Map.Views.{list_any-from_Contains}
use Rattle.elem_cubes.specs.Cells.{Factor, same_cell}
use Rattle.elem_cubes.specs.Order.{cell_cmp}
use Rattle.elem_cubes.specs.OrderLemmas.{same_cell-Decides, same_cell_equivalence, cell_cmp_ties}
use Rattle.cube_sets.specs.Sorted.{has}

cell_true : (q r : List Factor) → same_cell q r ≡ true → q ≡ r
cell_true q r h = (same_cell-Decides q r).0 h

same_cell_sym : (q r : List Factor) → same_cell q r ≡ same_cell r q
same_cell_sym = same_cell_equivalence.symm

-- q is in the list
abbrev pub has_cell : List (List Factor) → List Factor → Bool
has_cell cells q = list_any (same_cell q) cells

pub has_from : (cells : List (List Factor)) (q : List Factor) → Contains cells q → has_cell cells q ≡ true
has_from cells q w = list_any-from_Contains same_cell_equivalence q cells w

pub from_has : (cells : List (List Factor)) (q : List Factor) → has_cell cells q ≡ true → Contains cells q
from_has cells q h =
    let w = Any-from_list_any (same_cell q) cells h in
    subst (λ (r : List Factor). Contains cells r) (sym (cell_true q w.1 w.4)) (w.0, w.2, w.3)

-- the test by the order is the same
pub has_is : (cells : List (List Factor)) (q : List Factor) → has cell_cmp cells q ≡ has_cell cells q
has_is [] q = refl
has_is (r ∷ rs) q = ap (λ b. b || has cell_cmp rs q) (sym (cell_cmp_ties r q) ∙ same_cell_sym r q) ∙ ap (λ b. same_cell q r || b) (has_is rs q)
