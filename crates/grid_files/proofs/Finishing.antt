-- The end of the reading: what was gathered makes a set.
use Rattle.std.proofs.Common.{◌≡◌, List, [], ◌∷◌, Bool, true, false, ◌||◌, IsTrue, refl, sym, ap, ◌∙◌, arith}
use Rattle.std.specs.List.{list_all}
use Rattle.std.specs.List.Sorted.{IsStrictlySortedBy}
use Rattle.std.specs.Ordering.{is_eq}
use Rattle.std.proofs.lemmas.Bool.{true≢false}
use Rattle.elem_cubes.specs.Cells.{Factor}
use Rattle.elem_cubes.specs.Order.{cell_cmp}
use Rattle.elem_cubes.specs.OrderLemmas.{cell_cmp_total, tied_cells}
use Rattle.cube_sets.specs.Sorted.{has}
use Rattle.cube_sets.specs.Sets.{Members, IsCubeSet, is_member}
use Rattle.grid_files.specs.SetFile.{no_members}
use Rattle.grid_files.specs.Kept.{AreMembers}
use Rattle.grid_files.specs.Readers.{IsGathered}
use Rattle.grid_files.specs.declared.gathered.Gathered.{Gathered}
use Rattle.cube_sets.proofs.Sorting.{equal_from, and_true}
use Rattle.cube_sets.proofs.SameSets.{has_itself}

one_passes : (p : List Factor → Bool) (x c : List Factor) (xs : List (List Factor)) (b : Bool) → is_eq (cell_cmp x c) ≡ b → (b || has cell_cmp xs c) ≡ true → p x ≡ true
    → (has cell_cmp xs c ≡ true → p c ≡ true) → p c ≡ true
one_passes p x c xs true e k px more = ap p (sym (tied_cells x c (equal_from cell_cmp cell_cmp_total (cell_cmp x c) e))) ∙ px
one_passes p x c xs false e k px more = more k

-- a member of a list with a test passes it
pub member_passes : (p : List Factor → Bool) (cells : List (List Factor)) (c : List Factor) → list_all p cells ≡ true → has cell_cmp cells c ≡ true → p c ≡ true
member_passes p [] c h k = cc
member_passes p (x ∷ xs) c h k =
    let parts = and_true (p x) (list_all p xs) h in
    one_passes p x c xs (is_eq (cell_cmp x c)) refl k parts.0 (member_passes p xs c parts.1)

pub all_pass : (p : List Factor → Bool) (keys : List (List Factor)) → ((c : List Factor) → has cell_cmp keys c ≡ true → p c ≡ true) → list_all p keys ≡ true
all_pass p [] h = refl
all_pass p (x ∷ xs) h =
    rw (h x (has_itself x xs), all_pass p xs (λ c k. h c (or_right (is_eq (cell_cmp x c)) (has cell_cmp xs c) k))) refl
  where
    or_right : (a b : Bool) → b ≡ true → (a || b) ≡ true
    or_right true b k = refl
    or_right false b k = k

pub keys_alike : (g : Gathered) (set : Members) → IsGathered g set → IsTrue (list_all (is_member g.dimension) g.cells)
keys_alike g set is =
    let alike : list_all (is_member g.dimension) set.cells ≡ true = ap (λ n. list_all (is_member n) set.cells) is.dimension ∙ is.is_set.alike in
    all_pass (is_member g.dimension) g.cells (λ c k. member_passes (is_member g.dimension) set.cells c alike (sym (is.members c) ∙ k))

none_left : (xs : List (List Factor)) → ((c : List Factor) → has cell_cmp xs c ≡ false) → xs ≡ []
none_left [] h = refl
none_left (x ∷ xs) h = absurd (true≢false (sym (has_itself x xs) ∙ h x))

pub no_keys : (g : Gathered) (set : Members) → IsGathered g set → g.dimension ≡ 0 → g.cells ≡ []
no_keys g set is e = none_left g.cells (λ c. is.members c ∙ ap (λ l. has cell_cmp l c) (is.is_set.unknown (sym is.dimension ∙ e)))

-- the cells that came are the members of the set
pub are_its_members : (g : Gathered) (set : Members) → IsGathered g set → AreMembers g.cells set.cells
are_its_members g set is = record { sorted = is.is_set.sorted; members = is.members }

empty_set : IsCubeSet no_members
unfolding IsStrictlySortedBy
empty_set = record { axes = omega arith; unknown = λ e. refl; alike = refl; sorted = tt; few = omega arith }

pub empty_gathered : (g : Gathered) → g.dimension ≡ 0 → g.cells ≡ [] → IsGathered g no_members
empty_gathered g e f = record {
  dimension = e;
  members = λ c. ap (λ l. has cell_cmp l c) f;
  is_set = empty_set;
  few = omega arith;
}
