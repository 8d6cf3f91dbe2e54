-- Sorted lists of cells: the cells are apart, and a search of the list tells the number of a cell
use Rattle.std.proofs.Common.{◌≡◌, ℕ, ◌<◌, sym, ap, ◌∙◌, arith, ⊎_elim, subst, List, [], length, false, Result, Some}
use Rattle.std.specs.Prelude.{slice_get}
use Rattle.std.specs.List.{HoldsAt, Contains}
use Rattle.std.specs.List.Sorted.{IsStrictlySortedBy, IsSearchInRange, IsBinarySearchResult}
use Rattle.std.specs.Result.{is_ok}
use Rattle.std.specs.Cmp.{tied_itself}
use Rattle.std.specs.declared.cmp.Ordering.TheVariants.{Less, Equal}
use Rattle.std.proofs.lemmas.Bool.{true≢false, cases_lt}
use Rattle.std.proofs.lemmas.List.{get_or_default}
use Rattle.std.proofs.lemmas.Map.Keys.{Less-from_sorted}
use Rattle.std.proofs.lemmas.Option.{slice_get-get_or}
use Rattle.elem_cubes.specs.Cells.{Factor}
use Rattle.elem_cubes.specs.Order.{cell_cmp}
use Rattle.elem_cubes.specs.OrderLemmas.{cell_cmp_total, tied_cells}
use Rattle.elem_cubes.specs.Laws.{cell_at}
use Rattle.cube_sets.proofs.Sorting.{search_has}
use Rattle.cell_points.proofs.Deciding.{has_is, has_from}

differ : (q r : List Factor) → cell_cmp q r ≡ Less → q ≡ r → ⊥
differ q r less e =
    let t : cell_cmp q q ≡ Equal = tied_itself cell_cmp_total q in
    let u : cell_cmp q q ≡ Less = ap (cell_cmp q) e ∙ less in
    cc

-- no cell stands twice
pub apart : (cells : List (List Factor)) → IsStrictlySortedBy cell_cmp cells → (i j : ℕ) → i < length cells → j < length cells → cell_at cells i ≡ cell_at cells j → i ≡ j
apart cells h i j li lj e = ⊎_elim
    (λ lt. absurd (differ (cell_at cells i) (cell_at cells j) (Less-from_sorted cell_cmp cells i j [] h lt lj) e))
    (λ ge. ⊎_elim (λ lt. absurd (differ (cell_at cells j) (cell_at cells i) (Less-from_sorted cell_cmp cells j i [] h lt li) (sym e))) (λ le. let s : i ≡ j = omega arith in s) (cases_lt j i))
    (cases_lt i j)

-- ---- the number of a cell

-- a search finds each cell of the list, and tells the number of what it finds
pub missing : (cells kept seen : List (List Factor)) (q : List Factor) (r : Result ℕ ℕ) → seen ≡ kept → kept ≡ cells → IsStrictlySortedBy cell_cmp kept → IsSearchInRange r (length seen) → IsBinarySearchResult (λ s. cell_cmp s q) seen r → is_ok r ≡ false → Contains cells q → ⊥
missing cells kept seen q r read viewed sorted within is none w =
    let sorted' : IsStrictlySortedBy cell_cmp seen = subst (IsStrictlySortedBy cell_cmp) (sym read) sorted in
    let w' : Contains seen q = subst (λ (l : List (List Factor)). Contains l q) (sym (read ∙ viewed)) w in
    absurd (true≢false (sym (has_is seen q ∙ has_from seen q w') ∙ sym (search_has cell_cmp cell_cmp_total seen q r sorted' within is) ∙ none))

pub at_found : (cells : List (List Factor)) (q : List Factor) (i : ℕ) → HoldsAt (λ s. cell_cmp s q ≡ Equal) cells i → cell_at cells i ≡ q
at_found cells q i is = tied_cells (cell_at cells i) q (is [])

pub found : (cells : List (List Factor)) (q : List Factor) (i : ℕ) → i < length cells → cell_at cells i ≡ q → Contains cells q
found cells q i within at = (i, within, get_or_default cells i q [] within ∙ at)

pub placed : (cells : List (List Factor)) (q : List Factor) (i : ℕ) → i < length cells → cell_at cells i ≡ q → slice_get cells i ≡ Some q
placed cells q i within at = slice_get-get_or cells i [] within ∙ ap Some at
