-- What one more cube or dimension line makes of the set that is read.
use Rattle.std.proofs.Common.{◌≡◌, ◌⊎◌, inl, inr, ⊎_elim, ℕ, suc, ◌≤◌, ℤ, List, [], ◌∷◌, ◌++◌, length, Bool, true, false, ◌||◌, ◌==◌, nat_lt, if◌then◌else◌, None, Some, Result, Ok, Err, refl, sym, ap, ◌∙◌, subst, arith, length-append}
use Rattle.std.specs.Result.{is_err, OnOk}
use Rattle.std.specs.List.{list_any, list_all}
use Rattle.std.specs.List.Sorted.{IsStrictlySortedBy}
use Rattle.std.specs.Ordering.{is_eq, ordering_reverse}
use Rattle.std.specs.declared.cmp.Ordering.{Ordering}
use Rattle.std.specs.declared.cmp.Ordering.TheVariants.{Less, Equal, Greater}
use Rattle.std.proofs.lemmas.Bool.{true≢false}
use Rattle.std.proofs.lemmas.Bool.Decides.{nat_tests}
use Rattle.std.proofs.lemmas.List.Folds.{list_any-append}
use Rattle.elem_cubes.specs.declared.range.TheConstants.{MAX_EMBEDDING}
use Rattle.elem_cubes.specs.Cells.{Factor, same_cell, is_file_factor}
use Rattle.elem_cubes.specs.Order.{cell_cmp}
use Rattle.elem_cubes.specs.OrderLemmas.{cell_cmp_total, cell_cmp_ties}
use Rattle.cube_sets.specs.Sorted.{has, inserted}
use Rattle.cube_sets.specs.Sets.{Members, IsCubeSet, is_member, dimensions_agree}
use Rattle.grid_files.specs.Items.{cell_cause, with_cell, is_wanted}
use Rattle.grid_files.specs.Items.{Item, full, elementary, dimension_line, skipped_line, fits, fits_corner, is_full_end}
use Rattle.elem_cubes.specs.Corners.{is_file_end}
use Rattle.grid_files.specs.Corners.{IsCorner}
use Rattle.grid_files.specs.Openings.{IsClosing}
use Rattle.grid_files.specs.declared.corner.OpenCorner.{OpenCorner}
use Rattle.grid_files.specs.declared.opening.Closing.{Closing}
use Rattle.grid_files.specs.declared.opening.Closing.TheVariants as closings
use Rattle.grid_files.specs.Kept.{AreMembers}
use Rattle.grid_files.specs.Readers.{IsGathered}
use Rattle.grid_files.specs.declared.fault.Kind.{Kind}
use Rattle.grid_files.specs.declared.fault.TextCause.TheVariants.{TooMany}
use Rattle.cube_sets.specs.declared.fault.TheConstants.{CUBES}
use Rattle.grid_files.specs.declared.gathered.Gathered.{Gathered}
use Rattle.cube_sets.proofs.Merging.{by_cases, has-inserted, sorted-inserted, above, same', below_further}
use Rattle.cube_sets.proofs.Sorting.{equal_from, and_true}
use Rattle.cube_sets.proofs.Steps.{absent}
use Rattle.cube_sets.proofs.SetLemmas.{has_alike, all-inserted}

pub on_ok : {A E : Type 0} (r : Result A E) (P : Type 0) → OnOk r P → is_err r ≡ false → P
on_ok (Ok x) P h e = h
on_ok (Err x) P h e = cc

turned : (o : Ordering) → is_eq (ordering_reverse o) ≡ is_eq o
turned Less = refl
turned Equal = refl
turned Greater = refl

-- the test of the set of cells is membership by the order
pub any_has : (q : List Factor) (keys : List (List Factor)) → list_any (same_cell q) keys ≡ has cell_cmp keys q
any_has q [] = refl
any_has q (x ∷ xs) =
    let e : same_cell q x ≡ is_eq (cell_cmp x q) = cell_cmp_ties q x ∙ ap is_eq (cell_cmp_total.antisymm q x) ∙ turned (cell_cmp x q) in
    rw (e, any_has q xs) refl

or_comm : (a b : Bool) → (a || (b || false)) ≡ (b || a)
or_comm true true = refl
or_comm true false = refl
or_comm false true = refl
or_comm false false = refl

or_has : (a h : Bool) → (a ≡ true → h ≡ true) → h ≡ (a || h)
or_has true h f = f refl
or_has false h f = refl

-- the cells after one more has been told apart
abbrev pub with_key : List Factor → List (List Factor) → List (List Factor)
with_key q keys = if list_any (same_cell q) keys then keys else keys ++ q ∷ []

joined_by : (q : List Factor) (keys : List (List Factor)) (there : Bool) (c : List Factor) → list_any (same_cell q) keys ≡ there
    → has cell_cmp (if there then keys else keys ++ q ∷ []) c ≡ (is_eq (cell_cmp q c) || has cell_cmp keys c)
joined_by q keys true c e =
    or_has (is_eq (cell_cmp q c)) (has cell_cmp keys c) (λ t. sym (has_alike cell_cmp cell_cmp_total q c keys (equal_from cell_cmp cell_cmp_total (cell_cmp q c) t)) ∙ sym (any_has q keys) ∙ e)
joined_by q keys false c e = list_any-append (λ x. is_eq (cell_cmp x c)) keys (q ∷ []) ∙ or_comm (has cell_cmp keys c) (is_eq (cell_cmp q c))

pub joined : (q : List Factor) (keys : List (List Factor)) (c : List Factor) → has cell_cmp (with_key q keys) c ≡ (is_eq (cell_cmp q c) || has cell_cmp keys c)
joined q keys c = joined_by q keys (list_any (same_cell q) keys) c refl

pub joined_members : (q : List Factor) (keys cells : List (List Factor)) (there : Bool) (c : List Factor) → list_any (same_cell q) keys ≡ there
    → ((c : List Factor) → has cell_cmp keys c ≡ has cell_cmp cells c)
    → has cell_cmp (if there then keys else keys ++ q ∷ []) c ≡ has cell_cmp (inserted cell_cmp q cells) c
joined_members q keys cells there c e h = joined_by q keys there c e ∙ ap (λ b. is_eq (cell_cmp q c) || b) (h c) ∙ sym (has-inserted cell_cmp cell_cmp_total q cells c)

pub length_there : (q : List Factor) (cells : List (List Factor)) → IsStrictlySortedBy cell_cmp cells → has cell_cmp cells q ≡ true → length (inserted cell_cmp q cells) ≡ length cells
unfolding IsStrictlySortedBy
length_there q [] s h = cc
length_there q (x ∷ xs) s h = by_cases {A = List (List Factor)} (λ (ys : List (List Factor)). length ys ≡ suc (length xs)) (cell_cmp q x) (q ∷ x ∷ xs) (x ∷ xs) (x ∷ inserted cell_cmp q xs)
    (λ e.
    let none : has cell_cmp (x ∷ xs) q ≡ false = absent cell_cmp cell_cmp_total q (x ∷ xs) (e, below_further cell_cmp cell_cmp_total q x xs e s.0) in absurd (true≢false (sym h ∙ none)))
    (λ e. refl)
    (λ e.
    let up : is_eq (cell_cmp x q) ≡ false = ap is_eq (above cell_cmp cell_cmp_total q x e) in
    let there : has cell_cmp xs q ≡ true = sym (ap (λ b. b || has cell_cmp xs q) up) ∙ h in
    ap suc (length_there q xs s.1 there))

pub length_new : (q : List Factor) (cells : List (List Factor)) → has cell_cmp cells q ≡ false → length (inserted cell_cmp q cells) ≡ suc (length cells)
length_new q [] h = refl
length_new q (x ∷ xs) h = by_cases {A = List (List Factor)} (λ (ys : List (List Factor)). length ys ≡ suc (suc (length xs))) (cell_cmp q x) (q ∷ x ∷ xs) (x ∷ xs) (x ∷ inserted cell_cmp q xs)
    (λ e. refl)
    (λ e. absurd (true≢false (sym (ap (λ b. b || has cell_cmp xs q) (ap is_eq (same' cell_cmp cell_cmp_total q x e))) ∙ h)))
    (λ e. ap suc (length_new q xs (no_more (is_eq (cell_cmp x q)) (has cell_cmp xs q) h)))
  where
    no_more : (a b : Bool) → (a || b) ≡ false → b ≡ false
    no_more true b h = cc
    no_more false b h = h

pub joined_count : (q : List Factor) (keys cells : List (List Factor)) (there : Bool) → list_any (same_cell q) keys ≡ there → ((c : List Factor) → has cell_cmp keys c ≡ has cell_cmp cells c)
    → length keys ≡ length cells → IsStrictlySortedBy cell_cmp cells → length (if there then keys else keys ++ q ∷ []) ≡ length (inserted cell_cmp q cells)
joined_count q keys cells true e h n s = n ∙ sym (length_there q cells s (sym (h q) ∙ sym (any_has q keys) ∙ e))
joined_count q keys cells false e h n s =
    let new = length_new q cells (sym (h q) ∙ sym (any_has q keys) ∙ e) in
    omega (arith, length-append keys (q ∷ []))

agreeing : (a b : ℕ) → (a ≡ 0) ⊎ (a ≡ b) → dimensions_agree a b ≡ true
agreeing a b h = grind (arith, nat_tests)

member_self : (q : List Factor) → list_all is_file_factor q ≡ true → is_member (length q) q ≡ true
member_self q h = let e : (length q == length q) ≡ true = grind (arith, nat_tests) in rw (e, h) refl

joined_set : (set : Members) (q : List Factor) → IsCubeSet set → list_all is_file_factor q ≡ true → 1 ≤ length q → length q ≤ MAX_EMBEDDING → (set.dimension ≡ 0) ⊎ (set.dimension ≡ length q)
    → length (inserted cell_cmp q set.cells) ≤ CUBES → IsCubeSet (with_cell set (Some q))
joined_set set q is h some few agree n = record {
  axes = few;
  unknown = λ e. absurd (omega arith);
  alike = all-inserted cell_cmp (is_member (length q)) q set.cells (member_self q h) (⊎_elim
      (λ e. ap (list_all (is_member (length q))) (is.unknown e))
      (λ e. ap (λ n. list_all (is_member n) set.cells) (sym e) ∙ is.alike) agree);
  sorted = sorted-inserted cell_cmp cell_cmp_total q set.cells is.sorted;
  few = omega arith;
}

-- the cells that have come are those of the set with one more
pub more_members : (set : Members) (q : List Factor) (old new : List (List Factor)) → IsCubeSet set → ((c : List Factor) → has cell_cmp old c ≡ has cell_cmp set.cells c)
    → ((c : List Factor) → has cell_cmp new c ≡ (is_eq (cell_cmp q c) || has cell_cmp old c)) → AreMembers new (inserted cell_cmp q set.cells)
more_members set q old new is h j = record {
  sorted = sorted-inserted cell_cmp cell_cmp_total q set.cells is.sorted;
  members = λ c. j c ∙ ap (λ b. is_eq (cell_cmp q c) || b) (h c) ∙ sym (has-inserted cell_cmp cell_cmp_total q set.cells c);
}

pub cell_joins : (kind : Kind) (set : Members) (old new : Gathered) (q : List Factor) → IsGathered old set → list_all is_file_factor q ≡ true → 1 ≤ length q → length q ≤ MAX_EMBEDDING
    → (old.dimension ≡ 0) ⊎ (old.dimension ≡ length q) → is_wanted kind q ≡ true → ((c : List Factor) → has cell_cmp new.cells c ≡ (is_eq (cell_cmp q c) || has cell_cmp old.cells c))
    → new.dimension ≡ length q → ((cells : List (List Factor)) → AreMembers new.cells cells → false ≡ nat_lt CUBES (length cells))
    → (cell_cause kind set q ≡ None) × IsGathered new (with_cell set (Some q))
cell_joins kind set old new q g h some few agree wanted more dimension within =
    let a : (set.dimension ≡ 0) ⊎ (set.dimension ≡ length q) = ⊎_elim (λ e. inl (sym g.dimension ∙ e)) (λ e. inr (sym g.dimension ∙ e)) agree in
    let all = more_members set q old.cells new.cells g.is_set g.members more in
    let test : nat_lt CUBES (length (inserted cell_cmp q set.cells)) ≡ false = sym (within _ all) in
    let fewer : length (inserted cell_cmp q set.cells) ≤ CUBES = grind (arith, nat_tests) in (
      rw (agreeing set.dimension (length q) a, wanted, test) refl,
      record {
        dimension = dimension;
        members = all.members;
        is_set = joined_set set q g.is_set h some few a fewer;
        few = fewer;
      },
    )

pub cell_too_many : (kind : Kind) (set : Members) (old : Gathered) (q : List Factor) (new : List (List Factor)) → IsGathered old set
    → (old.dimension ≡ 0) ⊎ (old.dimension ≡ length q) → is_wanted kind q ≡ true → ((c : List Factor) → has cell_cmp new c ≡ (is_eq (cell_cmp q c) || has cell_cmp old.cells c))
    → ((cells : List (List Factor)) → AreMembers new cells → true ≡ nat_lt CUBES (length cells)) → cell_cause kind set q ≡ Some TooMany
cell_too_many kind set old q new g agree wanted more beyond =
    let a : (set.dimension ≡ 0) ⊎ (set.dimension ≡ length q) = ⊎_elim (λ e. inl (sym g.dimension ∙ e)) (λ e. inr (sym g.dimension ∙ e)) agree in
    let test : nat_lt CUBES (length (inserted cell_cmp q set.cells)) ≡ true = sym (beyond _ (more_members set q old.cells new g.is_set g.members more)) in
    rw (agreeing set.dimension (length q) a, wanted, test) refl

-- what is known of a closing is known of its item
pub full_item : (P : Item → Type 0) (closing : Closing) (corner : OpenCorner) (item : Item) → closing ≡ closings.Full corner → IsClosing closing item → fits item ≡ true
    → ((xs : List ℤ) → IsCorner corner xs → fits_corner is_full_end xs ≡ true → P (full xs)) → P item
full_item P closing corner item e h = by_item item (subst (λ (c : Closing). IsClosing c item) e h)
  where
    by_item : (item : Item) → IsClosing (closings.Full corner) item → fits item ≡ true → ((xs : List ℤ) → IsCorner corner xs → fits_corner is_full_end xs ≡ true → P (full xs)) → P item
    by_item (full xs) h fit f = f xs h fit
    by_item (elementary ls us) h fit f = absurd h
    by_item (dimension_line z) h fit f = absurd h
    by_item skipped_line h fit f = absurd h

pub elementary_item : (P : Item → Type 0) (closing : Closing) (lower upper : OpenCorner) (item : Item) → closing ≡ closings.Elementary lower upper → IsClosing closing item → fits item ≡ true
    → ((ls us : List ℤ) → IsCorner lower ls → IsCorner upper us → fits_corner is_file_end ls ≡ true → fits_corner is_file_end us ≡ true → P (elementary ls us)) → P item
elementary_item P closing lower upper item e h = by_item item (subst (λ (c : Closing). IsClosing c item) e h)
  where
    by_item : (item : Item) → IsClosing (closings.Elementary lower upper) item → fits item ≡ true
        → ((ls us : List ℤ) → IsCorner lower ls → IsCorner upper us → fits_corner is_file_end ls ≡ true → fits_corner is_file_end us ≡ true → P (elementary ls us)) → P item
    by_item (full xs) h fit f = absurd h
    by_item (elementary ls us) h fit f = let both = and_true (fits_corner is_file_end ls) (fits_corner is_file_end us) fit in f ls us h.0 h.1 both.0 both.1
    by_item (dimension_line z) h fit f = absurd h
    by_item skipped_line h fit f = absurd h
