-- Lists of cells without repeats, and how long those with the same members are.
use Rattle.std.proofs.Common.{◌≡◌, ℕ, zero, suc, ◌<◌, refl, sym, ap, ◌∙◌, arith, inl, inr, ⊎_elim, ◌⊎◌, List, [], ◌∷◌, length, Bool, true, false, ◌||◌, true≢false}
use Rattle.std.specs.List.{list_any, IsDistinct, AllByRecursion}
use Rattle.std.specs.Cmp.{both_ways}
use Rattle.std.specs.List.Sorted.{IsStrictlySortedBy}
use Rattle.std.specs.Set.{distinct_count}
use Rattle.std.proofs.lemmas.Bool.{or_cases, cases_lt}
use Rattle.std.proofs.lemmas.Map.Made.{length-from_keys, distinct_count-from_IsDistinct}
use Rattle.elem_cubes.specs.Cells.{Factor, same_cell}
use Rattle.elem_cubes.specs.Order.{cell_cmp}
use Rattle.elem_cubes.specs.OrderLemmas.{same_cell-Decides, same_cell_equivalence, cell_cases, cell_refl, cell_cmp_ties}
use Rattle.elem_cubes.proofs.Members.{In, Apart}
use Rattle.std.specs.Ordering.{is_eq}
use Rattle.std.specs.declared.cmp.Ordering.TheVariants.{Less}

-- ---- distinct lists

differ : (q : List Factor) (cells : List (List Factor)) → (In cells q → ⊥) → AllByRecursion (λ r. same_cell q r ≡ false) cells
differ q [] h = tt
differ q (r ∷ rs) h = (⊎_elim (λ e. absurd (h (inl (sym e)))) (λ f. f) (cell_cases q r), differ q rs (λ m. h (inr m)))

pub apart_distinct : (cells : List (List Factor)) → Apart cells → IsDistinct same_cell cells
unfolding IsDistinct
apart_distinct [] a = tt
apart_distinct (q ∷ qs) a = (differ q qs a.0, apart_distinct qs a.1)

later_differ : (q : List Factor) (cells : List (List Factor)) → AllByRecursion (λ r. cell_cmp q r ≡ Less) cells → AllByRecursion (λ r. same_cell q r ≡ false) cells
later_differ q [] h = tt
later_differ q (r ∷ rs) h = (cell_cmp_ties q r ∙ ap is_eq h.0, later_differ q rs h.1)

pub sorted_distinct : (cells : List (List Factor)) → IsStrictlySortedBy cell_cmp cells → IsDistinct same_cell cells
unfolding IsDistinct IsStrictlySortedBy
sorted_distinct [] h = tt
sorted_distinct (q ∷ qs) h = (later_differ q qs h.0, sorted_distinct qs h.1)

-- ---- members

same_In : (cells : List (List Factor)) (q : List Factor) → list_any (same_cell q) cells ≡ true → In cells q
same_In [] q h = absurd (true≢false (sym h))
same_In (r ∷ rs) q h = ⊎_elim
    (λ e. inl (sym ((same_cell-Decides q r).0 e)))
    (λ e. inr (same_In rs q e))
    (or_cases (same_cell q r) (list_any (same_cell q) rs) h)

or_left : (a b : Bool) → a ≡ true → (a || b) ≡ true
or_left true b e = refl
or_left false b e = absurd (true≢false (sym e))

or_right : (a b : Bool) → b ≡ true → (a || b) ≡ true
or_right true b e = refl
or_right false b e = e

In_same : (cells : List (List Factor)) (q : List Factor) → In cells q → list_any (same_cell q) cells ≡ true
In_same [] q m = absurd m
In_same (r ∷ rs) q (inl e) = or_left (same_cell q r) (list_any (same_cell q) rs) (ap (λ s. same_cell q s) e ∙ cell_refl q)
In_same (r ∷ rs) q (inr m) = or_right (same_cell q r) (list_any (same_cell q) rs) (In_same rs q m)

-- ---- lengths

-- the number of distinct members of a list is the length of a list without repeats that has the same
pub counted : (cells all : List (List Factor)) → IsDistinct same_cell cells → ((q : List Factor) → In cells q → In all q) → ((q : List Factor) → In all q → In cells q)
    → length cells ≡ distinct_count same_cell all
counted cells all distinct to from = length-from_keys same_cell_equivalence cells all distinct
    (λ q. both_ways (list_any (same_cell q) cells) (list_any (same_cell q) all)
    (λ h. In_same all q (to q (same_In cells q h)))
    (λ h. In_same cells q (from q (same_In all q h))))

pub same_length : (cells all : List (List Factor)) → IsDistinct same_cell cells → IsDistinct same_cell all → ((q : List Factor) → In cells q → In all q) → ((q : List Factor) → In all q → In cells q)
    → length cells ≡ length all
same_length cells all distinct apart to from = counted cells all distinct to from ∙ distinct_count-from_IsDistinct same_cell_equivalence all apart

-- ---- the numbers below n

abbrev pub below : ℕ → List ℕ
below zero = []
below (suc n) = n ∷ below n

pub below_In : (n k : ℕ) → k < n → In (below n) k
below_In zero k l = absurd (omega arith)
below_In (suc n) k l = ⊎_elim (λ e. inl e) (λ m. inr (below_In n k m)) (cases n k l)
  where
    cases : (n k : ℕ) → k < suc n → (n ≡ k) ⊎ (k < n)
    cases n k l = ⊎_elim (λ m. inr m) (λ m. inl (omega arith)) (cases_lt k n)

pub In_below : (n k : ℕ) → In (below n) k → k < n
In_below zero k m = absurd m
In_below (suc n) k (inl e) = omega (arith, e)
In_below (suc n) k (inr m) = omega (arith, In_below n k m)

pub apart_below : (n : ℕ) → Apart (below n)
apart_below zero = tt
apart_below (suc n) = ((λ m. let l : n < n = In_below n n m in omega (arith, l)), apart_below n)

pub length_below : (n : ℕ) → length (below n) ≡ n
length_below zero = refl
length_below (suc n) = ap suc (length_below n)
