-- Sorted lists of cells: the cells are apart, and the place of a cell is its number
use Rattle.std.proofs.Common.{Option, None, IfSome, ◌≡◌, ℕ, ◌<◌, sym, ap, ◌∙◌, arith, ⊎_elim, List, [], length, Some}
use Rattle.std.specs.Prelude.{slice_get}
use Rattle.std.specs.List.{Contains}
use Rattle.std.specs.List.Sorted.{IsStrictlySortedBy}
use Rattle.std.specs.Cmp.{tied_itself}
use Rattle.std.specs.declared.cmp.Ordering.TheVariants.{Less, Equal}
use Rattle.std.proofs.lemmas.Bool.{true≢false, cases_lt}
use Rattle.std.proofs.lemmas.Map.Keys.{Less-from_sorted}
use Rattle.std.proofs.lemmas.List.Sums.{fails_before_first, position_or_len_is}
use Rattle.std.proofs.lemmas.Option.{slice_get_within, get_or_from_slice_get}
use Rattle.elem_cubes.specs.Cells.{Factor, same_cell}
use Rattle.elem_cubes.specs.Order.{cell_cmp}
use Rattle.elem_cubes.specs.OrderLemmas.{cell_cmp_total, cell_refl, cell_cases}
use Rattle.elem_cubes.specs.Laws.{cell_at}
use Rattle.cell_complex.specs.Sorted.{IsSortedCells}
use Rattle.cell_complex.specs.Numbering.{number_of}

differ : (q r : List Factor) → cell_cmp q r ≡ Less → q ≡ r → ⊥
differ q r less e =
    let t : cell_cmp q q ≡ Equal = tied_itself cell_cmp_total q in
    let u : cell_cmp q q ≡ Less = ap (cell_cmp q) e ∙ less in
    cc

-- no cell stands twice
pub apart : (cells : List (List Factor)) → IsStrictlySortedBy cell_cmp cells → (i j : ℕ) → i < length cells → j < length cells → cell_at cells i ≡ cell_at cells j → i ≡ j
apart cells h i j li lj e = ⊎_elim
    (λ lt. absurd (differ (cell_at cells i) (cell_at cells j) (Less-from_sorted cell_cmp cells i j [] h lt lj) e))
    (λ ge. ⊎_elim (λ lt. absurd (differ (cell_at cells j) (cell_at cells i) (Less-from_sorted cell_cmp cells j i [] h lt li) (sym e))) (λ le. let s : i ≡ j = omega arith in s) (cases_lt j i))
    (cases_lt i j)

-- ---- the number of a cell

pub number_below : (cells : List (List Factor)) (q : List Factor) → Contains cells q → number_of cells q < length cells
number_below cells q w = ⊎_elim (λ l. l)
    (λ past. absurd (true≢false (sym (ap (same_cell q) (w.2) ∙ cell_refl q) ∙ fails_before_first (same_cell q) cells w.0 q (omega (arith, w.1, past)))))
    (cases_lt (number_of cells q) (length cells))

-- the place of a cell is its number
present : (cells : List (List Factor)) (q : List Factor) (i : ℕ) → IsStrictlySortedBy cell_cmp cells → i < length cells → cell_at cells i ≡ q → i ≡ number_of cells q
present cells q i sorted within at =
    sym (position_or_len_is (same_cell q) cells i [] (omega (arith, within))
    (λ k below. ⊎_elim (λ e. absurd (let t : i ≡ k = apart cells sorted i k within (omega (arith, within)) (at ∙ e) in omega arith)) (λ f. f) (cell_cases q (cell_at cells k)))
    (λ _. ap (same_cell q) at ∙ cell_refl q))

pub told : (kept cells : List (List Factor)) (q : List Factor) (r : Option ℕ) → kept ≡ cells → IsSortedCells kept → IfSome r (λ n. slice_get kept n ≡ Some q) → IfSome r (λ n. n ≡ number_of cells q)
told kept cells q None viewed s at = tt
told kept cells q (Some n) viewed s at =
    present kept q n s.sorted (slice_get_within kept n q at) (get_or_from_slice_get kept n q [] at) ∙ ap (λ (l : List (List Factor)). number_of l q) viewed
