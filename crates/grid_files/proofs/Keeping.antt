-- The cells that have come: one more of them, and how many distinct ones there are.
use Rattle.std.proofs.Common.{◌≡◌, ⊎_elim, suc, ◌≤◌, List, [], ◌∷◌, ◌++◌, length, Bool, true, false, ◌||◌, nat_lt, refl, sym, ap, ◌∙◌, subst, arith, length-append}
use Rattle.std.specs.List.{list_any, IsDistinct, AllByRecursion}
use Rattle.std.specs.List.Sorted.{IsStrictlySortedBy}
use Rattle.std.specs.Ordering.{is_eq}
use Rattle.std.proofs.lemmas.Bool.Decides.{nat_tests}
use Rattle.std.proofs.lemmas.List.Folds.{list_any-append}
use Rattle.elem_cubes.specs.Cells.{Factor, same_cell}
use Rattle.elem_cubes.specs.Order.{cell_cmp}
use Rattle.elem_cubes.specs.OrderLemmas.{cell_cmp_total}
use Rattle.cube_sets.specs.Sorted.{has, union_of}
use Rattle.cube_sets.specs.declared.fault.TheConstants.{CUBES}
use Rattle.cube_sets.proofs.Merging.{sorted-union, has-union}
use Rattle.cube_sets.proofs.SameSets.{same_sets}
use Rattle.cube_sets.proofs.Steps.{union-most}
use Rattle.grid_files.specs.Kept.{AreKept, AreMembers}
use Rattle.grid_files.proofs.Gathering.{any_has, with_key, joined, length_new}

or_false : (a : Bool) → (a || false) ≡ a
or_false true = refl
or_false false = refl

-- all cells are told apart, and one more
pub told_apart : (q : List Factor) (listed distinct all : List (List Factor)) (c : List Factor)
    → ((x : List Factor) → list_any (same_cell x) all ≡ (list_any (same_cell x) distinct || list_any (same_cell x) listed))
    → has cell_cmp (with_key q all) c ≡ (is_eq (cell_cmp q c) || has cell_cmp (listed ++ distinct) c)
told_apart q listed distinct all c is =
    joined q all c
    ∙ ap (λ b. is_eq (cell_cmp q c) || b)
    (sym (any_has c all) ∙ is c
    ∙ ap (λ b. b || list_any (same_cell c) listed) (any_has c distinct)
    ∙ ap (λ b. has cell_cmp distinct c || b) (any_has c listed)
    ∙ turned_round (has cell_cmp distinct c) (has cell_cmp listed c)
    ∙ sym (list_any-append (λ x. is_eq (cell_cmp x c)) listed distinct))
  where
    turned_round : (a b : Bool) → (a || b) ≡ (b || a)
    turned_round true true = refl
    turned_round true false = refl
    turned_round false true = refl
    turned_round false false = refl

-- sorted, the cells are the members
union_is : (came cells : List (List Factor)) → AreMembers came cells → union_of cell_cmp came [] ≡ cells
unfolding IsStrictlySortedBy
union_is came cells h =
    same_sets (union_of cell_cmp came []) cells (sorted-union cell_cmp cell_cmp_total came [] tt) h.sorted
    (λ c. has-union cell_cmp cell_cmp_total came [] c ∙ or_false (has cell_cmp came c) ∙ h.members c)

at_most : (came cells : List (List Factor)) → AreMembers came cells → length cells ≤ length came
at_most came cells h =
    let e : length (union_of cell_cmp came []) ≡ length cells = ap length (union_is came cells h) in
    omega (arith, union-most cell_cmp came [])

none_same : (q : List Factor) (xs : List (List Factor)) → AllByRecursion (λ y. same_cell q y ≡ false) xs → list_any (same_cell q) xs ≡ false
none_same q [] h = refl
none_same q (x ∷ xs) h = rw (h.0, none_same q xs h.1) refl

distinct_stay : (xs : List (List Factor)) → IsDistinct same_cell xs → length (union_of cell_cmp xs []) ≡ length xs
unfolding IsDistinct
distinct_stay [] h = refl
distinct_stay (x ∷ xs) h =
    let none : has cell_cmp (union_of cell_cmp xs []) x ≡ false =
    has-union cell_cmp cell_cmp_total xs [] x ∙ or_false (has cell_cmp xs x) ∙ sym (any_has x xs) ∙ none_same x xs h.0 in
    length_new x (union_of cell_cmp xs []) none ∙ ap suc (distinct_stay xs h.1)

exactly : (came cells : List (List Factor)) → IsDistinct same_cell came → AreMembers came cells → length came ≡ length cells
exactly came cells d h = sym (distinct_stay came d) ∙ ap length (union_is came cells h)

-- more than the limit have been told apart exactly where so many distinct ones have come
pub many_apart : (listed distinct cells : List (List Factor)) → AreKept listed distinct → IsDistinct same_cell distinct → AreMembers (listed ++ distinct) cells
    → nat_lt CUBES (length distinct) ≡ nat_lt CUBES (length cells)
many_apart listed distinct cells kept d h = ⊎_elim
    (λ e. ap (nat_lt CUBES) (exactly distinct cells d (subst (λ l. AreMembers (l ++ distinct) cells) e h)))
    (λ e.
    let none : length distinct ≡ 0 = ap length e in
    let most = at_most (listed ++ distinct) cells h in
    let sum = length-append listed distinct in
    let few : length listed ≤ CUBES = kept.few in
    let left : nat_lt CUBES (length distinct) ≡ false = grind (arith, nat_tests) in
    let fewer : length cells ≤ CUBES = omega arith in
    let right : nat_lt CUBES (length cells) ≡ false = grind (arith, nat_tests) in
    left ∙ sym right)
    kept.apart

-- where no more distinct ones than the limit have come, no more are kept
pub few_kept : (listed distinct cells : List (List Factor)) → AreKept listed distinct → IsDistinct same_cell distinct → AreMembers (listed ++ distinct) cells
    → length cells ≤ CUBES → length (listed ++ distinct) ≤ CUBES
few_kept listed distinct cells kept d h few = ⊎_elim
    (λ e.
    let none : length listed ≡ 0 = ap length e in
    let n : length distinct ≡ length cells = exactly distinct cells d (subst (λ l. AreMembers (l ++ distinct) cells) e h) in
    omega (arith, length-append listed distinct))
    (λ e.
    let none : length distinct ≡ 0 = ap length e in
    let fewer : length listed ≤ CUBES = kept.few in
    omega (arith, length-append listed distinct))
    kept.apart
