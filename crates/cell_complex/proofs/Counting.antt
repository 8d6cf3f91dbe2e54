-- The relative cells of a pair: which they are, how many, and that they are sorted cells
use Rattle.std.proofs.Common.{◌≡◌, ℕ, ◌+◌, ◌<◌, ◌≤◌, refl, sym, ap, ◌∙◌, subst, arith, ⊎_elim, List, [], ◌∷◌, ◌++◌, length, filter, Bool, true, false, cond, ◌&&◌, ◌||◌, ◌==◌, length-append}
use Rattle.std.specs.Prelude.{not}
use Rattle.std.specs.List.{list_any, list_all, flat_map, IsDistinct, AllByRecursion}
use Rattle.std.specs.List.Sorted.{IsStrictlySortedBy}
use Rattle.std.specs.Set.{unique_keys}
use Rattle.std.specs.Ordering.{is_eq}
use Rattle.std.specs.declared.cmp.Ordering.TheVariants.{Less}
use Rattle.std.proofs.lemmas.Bool.{true≢false, cases_Bool, and_parts, eqb-true}
use Rattle.std.proofs.lemmas.List.Folds.{list_any-append}
use Rattle.std.proofs.lemmas.List.Kept.{IsStrictlySortedBy-filter}
use Rattle.std.proofs.lemmas.Map.Made.{length-from_keys, length-le_from_is_member}
use Rattle.elem_cubes.specs.Cells.{Factor, is_file_factor, same_cell}
use Rattle.elem_cubes.specs.Faces.{is_face, closure_of}
use Rattle.elem_cubes.specs.Order.{cell_cmp}
use Rattle.elem_cubes.specs.OrderLemmas.{cell_cmp_total, cell_cmp_ties, same_cell_equivalence}
use Rattle.elem_cubes.specs.Laws.{cell_at}
use Rattle.elem_cubes.proofs.Conjunctions.{all_at}
use Rattle.cube_sets.specs.Sorted.{has}
use Rattle.cube_sets.specs.Sets.{Members, IsCubeSet, is_member}
use Rattle.cube_sets.specs.Closures.{cells_of, is_cell_of}
use Rattle.cube_sets.proofs.Merging.{has-union}
use Rattle.cube_sets.proofs.Covering.{cells_are_faces}
use Rattle.cell_complex.specs.RelativeComplex.{is_relative}
use Rattle.cell_complex.specs.Sorted.{IsSortedCells, without}
use Rattle.cell_complex.specs.Numbering.{IsListing}
use Rattle.cell_complex.specs.CellCount.{cell_count}
use Rattle.cell_complex.proofs.Deciding.{has_cell, has_is, has_from, from_has, either_cell}
use Rattle.cell_complex.proofs.Sorting.{apart}

-- ---- distinct lists

all_fail : {A : Type 0} (p : A → Bool) (xs : List A) → list_any p xs ≡ false → AllByRecursion (λ x. p x ≡ false) xs
all_fail p [] h = tt
all_fail p (x ∷ xs) h = ⊎_elim
    (λ e. absurd (true≢false (sym (ap (λ b. b || list_any p xs) e) ∙ h)))
    (λ e. (e, all_fail p xs (sym (ap (λ b. b || list_any p xs) e) ∙ h)))
    (cases_Bool (p x))

all_joined : {A : Type 0} (P : A → Type 0) (xs ys : List A) → AllByRecursion P xs → AllByRecursion P ys → AllByRecursion P (xs ++ ys)
all_joined P [] ys h k = k
all_joined P (x ∷ xs) ys h k = (h.0, all_joined P xs ys h.1 k)

distinct_joined : (xs ys : List (List Factor)) → IsDistinct same_cell xs → IsDistinct same_cell ys → ((q : List Factor) → has_cell xs q ≡ true → has_cell ys q ≡ false) → IsDistinct same_cell (xs ++ ys)
unfolding IsDistinct
distinct_joined [] ys h k apart = k
distinct_joined (x ∷ xs) ys h k apart = (
  all_joined (λ y. same_cell x y ≡ false) xs ys h.0 (all_fail (same_cell x) ys (apart x (ap (λ b. b || has_cell xs x) (same_cell_equivalence.refl x)))),
  distinct_joined xs ys h.1 k (λ q e. apart q (later (same_cell q x) (has_cell xs q) e)),
)
  where
    later : (a b : Bool) → b ≡ true → (a || b) ≡ true
    later true b e = refl
    later false b e = e

differ_all : (q : List Factor) (cells : List (List Factor)) → AllByRecursion (λ r. cell_cmp q r ≡ Less) cells → AllByRecursion (λ r. same_cell q r ≡ false) cells
differ_all q [] h = tt
differ_all q (r ∷ rs) h = (cell_cmp_ties q r ∙ ap is_eq h.0, differ_all q rs h.1)

pub distinct_from_sorted : (cells : List (List Factor)) → IsStrictlySortedBy cell_cmp cells → IsDistinct same_cell cells
unfolding IsDistinct IsStrictlySortedBy
distinct_from_sorted [] h = tt
distinct_from_sorted (q ∷ qs) h = (differ_all q qs h.0, distinct_from_sorted qs h.1)

-- ---- the number of cells of a set

has-unique_keys : (xs : List (List Factor)) (q : List Factor) → has_cell (unique_keys same_cell xs) q ≡ has_cell xs q
has-unique_keys [] q = refl
has-unique_keys (x ∷ xs) q = ⊎_elim
    (λ e. ap (λ b. has_cell (cond b (unique_keys same_cell xs) (x ∷ unique_keys same_cell xs)) q) e ∙ has-unique_keys xs q ∙ sym (either_cell (λ u v. (u || v) ≡ v) q x (has_cell xs) (sym e) (λ b. refl)))
    (λ e. ap (λ b. has_cell (cond b (unique_keys same_cell xs) (x ∷ unique_keys same_cell xs)) q) e ∙ ap (λ b. same_cell q x || b) (has-unique_keys xs q))
    (cases_Bool (has_cell xs x))

has-closures : (x : List (List Factor)) (q : List Factor) → has_cell (flat_map closure_of x) q ≡ is_cell_of x q
has-closures x q =
    let all : List (List Factor) = flat_map closure_of x in
    sym (has_is all q) ∙ sym (or_none (has cell_cmp all q)) ∙ sym (has-union cell_cmp cell_cmp_total all [] q) ∙ cells_are_faces.faces x q
  where
    or_none : (a : Bool) → (a || false) ≡ a
    or_none true = refl
    or_none false = refl

cells_are : (x : List (List Factor)) (q : List Factor) → has_cell (cells_of x) q ≡ is_cell_of x q
cells_are x q = sym (has_is (cells_of x) q) ∙ cells_are_faces.faces x q

pub counted : (x keys : List (List Factor)) → IsDistinct same_cell keys → ((q : List Factor) → has_cell keys q ≡ is_cell_of x q) → length keys ≡ cell_count x
counted x keys distinct h = length-from_keys same_cell_equivalence keys (flat_map closure_of x) distinct (λ q. h q ∙ sym (has-closures x q))

pub counted_below : (x keys : List (List Factor)) → IsDistinct same_cell keys → ((q : List Factor) → has_cell keys q ≡ true → is_cell_of x q ≡ true) → length keys ≤ cell_count x
counted_below x keys distinct h =
    length-le_from_is_member same_cell_equivalence keys (unique_keys same_cell (flat_map closure_of x)) distinct (λ q e. has-unique_keys (flat_map closure_of x) q ∙ has-closures x q ∙ h q e)

-- ---- the cells of one set that are not in another

has-filter : (p : List Factor → Bool) (cells : List (List Factor)) (q : List Factor) → has_cell (filter p cells) q ≡ (has_cell cells q && p q)
has-filter p [] q = refl
has-filter p (r ∷ rs) q =
    let rest = has-filter p rs q in
    ⊎_elim
    (λ e. ap (λ b. has_cell (cond b (r ∷ filter p rs) (filter p rs)) q) e ∙ ap (λ b. same_cell q r || b) rest ∙ either_cell (λ u v. (u || (has_cell rs q && v)) ≡ ((u || has_cell rs q) && v)) q r p (sym e) (λ b. refl))
    (λ e. ap (λ b. has_cell (cond b (r ∷ filter p rs) (filter p rs)) q) e ∙ rest ∙ either_cell (λ u v. (has_cell rs q && v) ≡ ((u || has_cell rs q) && v)) q r p (ap (λ b. has_cell rs q && b) e ∙ and_none (has_cell rs q) ∙ sym e) (λ b. refl))
    (cases_Bool (p r))
  where
    and_none : (a : Bool) → (a && false) ≡ false
    and_none true = refl
    and_none false = refl

module _ (x a faces subset : List (List Factor)) (in_faces : faces ≡ cells_of x) (in_subset : subset ≡ cells_of a) where
  has_face : (q : List Factor) → has_cell faces q ≡ is_cell_of x q
  has_face q = ap (λ cells. has_cell cells q) in_faces ∙ cells_are x q

  has_subset : (q : List Factor) → has cell_cmp subset q ≡ is_cell_of a q
  has_subset q = ap (λ cells. has cell_cmp cells q) in_subset ∙ cells_are_faces.faces a q

  pub relative_cells : (q : List Factor) → has_cell (without faces subset) q ≡ is_relative x a q
  relative_cells q = has-filter (λ r. not (has cell_cmp subset r)) faces q ∙ ap (λ b. b && not (has cell_cmp subset q)) (has_face q) ∙ ap (λ b. is_cell_of x q && not b) (has_subset q)

  in_both : (q : List Factor) → is_cell_of (x ++ a) q ≡ (is_cell_of x q || is_cell_of a q)
  in_both q = list_any-append (λ s. is_face s q) x a

  faces_sorted : IsStrictlySortedBy cell_cmp faces
  faces_sorted = subst (IsStrictlySortedBy cell_cmp) (sym in_faces) (cells_are_faces.sorted x)

  subset_sorted : IsStrictlySortedBy cell_cmp subset
  subset_sorted = subst (IsStrictlySortedBy cell_cmp) (sym in_subset) (cells_are_faces.sorted a)

  pub faces_count : length faces ≤ cell_count (x ++ a)
  faces_count = counted_below (x ++ a) faces (distinct_from_sorted faces faces_sorted) (λ q e. in_both q ∙ ap (λ b. b || is_cell_of a q) (sym (has_face q) ∙ e))

  pub subset_count : length subset ≤ cell_count (x ++ a)
  subset_count = counted_below (x ++ a) subset (distinct_from_sorted subset subset_sorted) (λ q e. in_both q ∙ ap (λ b. is_cell_of x q || b) (sym (has_subset q) ∙ has_is subset q ∙ e) ∙ or_true (is_cell_of x q))
    where
      or_true : (b : Bool) → (b || true) ≡ true
      or_true true = refl
      or_true false = refl

  -- the relative cells and those of the second set are those of both
  pub pair_count : length (without faces subset) + length subset ≡ cell_count (x ++ a)
  pair_count =
      let cells : List (List Factor) = without faces subset in
      let n = counted (x ++ a) (cells ++ subset)
      (distinct_joined cells subset (distinct_from_sorted cells (IsStrictlySortedBy-filter cell_cmp (λ q. not (has cell_cmp subset q)) faces faces_sorted)) (distinct_from_sorted subset subset_sorted)
      (λ q e. sym (has_is subset q) ∙ has_subset q ∙ apart_from (is_cell_of x q) (is_cell_of a q) (sym (relative_cells q) ∙ e)))
      (λ q. list_any-append (same_cell q) cells subset ∙ ap (λ b. b || has_cell subset q) (relative_cells q) ∙ ap (λ b. is_relative x a q || b) (sym (has_is subset q) ∙ has_subset q) ∙ filled (is_cell_of x q) (is_cell_of a q) ∙ sym (in_both q)) in
      omega (arith, n, length-append cells subset)
    where
      filled : (u v : Bool) → ((u && not v) || v) ≡ (u || v)
      filled true true = refl
      filled true false = refl
      filled false v = refl

      apart_from : (u v : Bool) → (u && not v) ≡ true → v ≡ false
      apart_from true true e = absurd (true≢false (sym e))
      apart_from true false e = refl
      apart_from false v e = absurd (true≢false (sym e))

-- ---- the members of a set are sorted cells, and the relative cells a listing

all_right : {A : Type 0} (p r : A → Bool) (xs : List A) → list_all (λ x. p x && r x) xs ≡ true → list_all r xs ≡ true
all_right p r [] h = refl
all_right p r (x ∷ xs) h =
    let both = and_parts (p x && r x) (list_all (λ y. p y && r y) xs) h in
    let here = and_parts (p x) (r x) both.0 in
    ap (λ b. b && list_all r xs) here.1 ∙ all_right p r xs both.1

pub sorted_of_set : (set : Members) → IsCubeSet set → IsSortedCells set.cells
sorted_of_set set is =
    let long = λ (i : ℕ) (l : i < length set.cells). eqb-true (length (cell_at set.cells i)) set.dimension (and_parts (length (cell_at set.cells i) == set.dimension) (list_all is_file_factor (cell_at set.cells i)) (all_at (is_member set.dimension) set.cells i [] is.alike l)).0 in
    record {
      sorted = is.sorted;
      alike = λ i j li lj. long i li ∙ sym (long j lj);
      in_range = all_right (λ q. length q == set.dimension) (list_all is_file_factor) set.cells is.alike;
      few = is.few;
    }

pub listing_of : (test : List Factor → Bool) (cells : List (List Factor)) → IsSortedCells cells → ((q : List Factor) → has_cell cells q ≡ test q) → IsListing test cells
listing_of test cells sorted same = record {
  members = λ q. (λ e. from_has cells q (same q ∙ e), λ w. sym (same q) ∙ has_from cells q w);
  once = apart cells sorted.sorted;
}
