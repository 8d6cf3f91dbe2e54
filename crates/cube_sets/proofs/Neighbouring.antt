-- The neighbours of a set of full cubes: what they are, where they are all in range, and that spreading to the next cubes along all
-- axes gives them.
use Rattle.std.proofs.Common.{◌≡◌, inl, inr, ⊎_elim, ℕ, refl, sym, ap, ◌∙◌, arith, List, [], ◌∷◌, length, Bool, true, ◌&&◌, true≢false}
use Rattle.std.specs.Prelude.{Result, Ok, Err, OnOk}
use Rattle.std.specs.List.{list_all, list_any, flat_map}
use Rattle.std.specs.List.Sorted.{IsStrictlySortedBy}
use Rattle.std.specs.Cmp.{both_ways}
use Rattle.std.proofs.lemmas.Bool.{or_cases}
use Rattle.elem_cubes.specs.Cells.{Factor, is_wide, is_file_factor}
use Rattle.elem_cubes.specs.Order.{cell_cmp}
use Rattle.elem_cubes.proofs.Members.{In, In-flat, flat-In}
use Rattle.cube_sets.specs.Sorted.{has}
use Rattle.cube_sets.specs.Sets.{Members, IsCubeSet, is_member}
use Rattle.cube_sets.specs.Neighbours.{cells_meet, is_neighbour, around, neighbours_of, neighbourhood, are_full, are_in_range, is_inner, NeighboursMeet}
use Rattle.cube_sets.specs.Changes.{spread, spread_set}
use Rattle.cube_sets.specs.declared.change.Change.TheVariants.{Down, Up}
use Rattle.cube_sets.proofs.Sorting.{and_true}
use Rattle.cube_sets.proofs.SameSets.{same_sets, same_members}
use Rattle.cube_sets.proofs.Near.{around_to, to_around, spread_near, near_spread, meets_length, inner_near, near_inner}
use Rattle.cube_sets.proofs.Spreads.{or_left, or_right, has_In, In_has, union_In, In_union, all_from_In, In_passes, sorted_spread, spread_In, In_spread}
use Rattle.cube_sets.proofs.Covering.{sorted_set, member_parts, member_of}

both_true : (a b : Bool) → a ≡ true → b ≡ true → (a && b) ≡ true
both_true a b h k = rw (h, k) refl

-- ---- a full cube that shares a point with some member

some_meets : (x : List (List Factor)) (s q : List Factor) → In x s → cells_meet s q ≡ true → list_any (λ t. cells_meet t q) x ≡ true
some_meets [] s q m h = absurd m
some_meets (y ∷ x) s q (inl e) h = or_left (cells_meet y q) (list_any (λ t. cells_meet t q) x) (ap (λ t. cells_meet t q) e ∙ h)
some_meets (y ∷ x) s q (inr m) h = or_right (cells_meet y q) (list_any (λ t. cells_meet t q) x) (some_meets x s q m h)

meets_some : (x : List (List Factor)) (q : List Factor) → list_any (λ t. cells_meet t q) x ≡ true → (s : List Factor) × In x s × (cells_meet s q ≡ true)
meets_some [] q h = absurd (true≢false (sym h))
meets_some (y ∷ x) q h = ⊎_elim
    (λ e. (y, inl refl, e))
    (λ e. let w = meets_some x q e in (w.0, inr w.1, w.2))
    (or_cases (cells_meet y q) (list_any (λ t. cells_meet t q) x) h)

neighbour_from : (x : List (List Factor)) (s q : List Factor) → In x s → (list_all is_wide q ≡ true) × (cells_meet s q ≡ true) → is_neighbour x q ≡ true
neighbour_from x s q m h = both_true (list_all is_wide q) (list_any (λ t. cells_meet t q) x) h.0 (some_meets x s q m h.1)

neighbour_to : (x : List (List Factor)) (q : List Factor) → is_neighbour x q ≡ true → (s : List Factor) × In x s × (list_all is_wide q ≡ true) × (cells_meet s q ≡ true)
neighbour_to x q h =
    let k = and_true (list_all is_wide q) (list_any (λ t. cells_meet t q) x) h in
    let w = meets_some x q k.1 in
    (w.0, w.1, k.0, w.2)

-- ---- the neighbours

neighbours_cover : (x : List (List Factor)) (q : List Factor) → has cell_cmp (neighbours_of x) q ≡ is_neighbour x q
neighbours_cover x q = both_ways (has cell_cmp (neighbours_of x) q) (is_neighbour x q)
    (λ h. ⊎_elim
    (λ k. let w = In-flat around x q k in neighbour_from x w.0 q w.1 (around_to w.0 q w.2))
    (λ k. absurd k)
    (union_In (flat_map around x) [] q (has_In (neighbours_of x) q h)))
    (λ h.
    let w = neighbour_to x q h in
    In_has (neighbours_of x) q (In_union (flat_map around x) [] q (inl (flat-In around x w.0 q w.1 (to_around w.0 q w.2 w.3)))))

pub neighbours_meet : NeighboursMeet
neighbours_meet = record { sorted = λ x. sorted_set (flat_map around x); neighbours = neighbours_cover }

neighbour_in : (x : List (List Factor)) (q : List Factor) → In (neighbours_of x) q → is_neighbour x q ≡ true
neighbour_in x q m = sym (neighbours_cover x q) ∙ In_has (neighbours_of x) q m

in_neighbours : (x : List (List Factor)) (q : List Factor) → is_neighbour x q ≡ true → In (neighbours_of x) q
in_neighbours x q h = has_In (neighbours_of x) q (neighbours_cover x q ∙ h)

-- ---- the range

-- the neighbours are in range exactly where each member can be moved either way
pub range_is_inner : (x : List (List Factor)) → are_full x ≡ true → are_in_range (neighbours_of x) ≡ list_all is_inner x
range_is_inner x full = both_ways (are_in_range (neighbours_of x)) (list_all is_inner x)
    (λ h. all_from_In is_inner x (λ s m. near_inner s (In_passes (list_all is_wide) x s full m)
    (λ r v k. In_passes (list_all is_file_factor) (neighbours_of x) r h (in_neighbours x r (neighbour_from x s r m (v, k))))))
    (λ h. all_from_In (list_all is_file_factor) (neighbours_of x) (λ r m.
    let w = neighbour_to x r (neighbour_in x r m) in
    inner_near w.0 r (In_passes (list_all is_wide) x w.0 full w.1) (In_passes is_inner x w.0 h w.1) w.2 w.3))

pub neighbours_alike : (n : ℕ) (x : List (List Factor)) → list_all (is_member n) x ≡ true → are_in_range (neighbours_of x) ≡ true → list_all (is_member n) (neighbours_of x) ≡ true
neighbours_alike n x alike range = all_from_In (is_member n) (neighbours_of x) (λ r m.
    let w = neighbour_to x r (neighbour_in x r m) in
    member_of n r (meets_length w.0 r w.3 ∙ (member_parts n w.0 (In_passes (is_member n) x w.0 alike w.1)).0) (In_passes (list_all is_file_factor) (neighbours_of x) r range m))

-- ---- spread to the next cubes along all axes

spread_meets : (n : ℕ) (x : List (List Factor)) (q : List Factor) → list_all (is_member n) x ≡ true → are_full x ≡ true → has cell_cmp (spread Down Up n x) q ≡ is_neighbour x q
spread_meets n x q alike full = both_ways (has cell_cmp (spread Down Up n x) q) (is_neighbour x q)
    (λ h.
    let w = spread_In Down Up n x q (has_In (spread Down Up n x) q h) in
    neighbour_from x w.0 q w.1 (spread_near n w.0 q (In_passes (list_all is_wide) x w.0 full w.1) w.2))
    (λ h.
    let w = neighbour_to x q h in
    let l : length w.0 ≡ n = (member_parts n w.0 (In_passes (is_member n) x w.0 alike w.1)).0 in
    In_has (spread Down Up n x) q (In_spread Down Up n x w.0 q w.1 (near_spread n w.0 q (omega arith) (In_passes (list_all is_wide) x w.0 full w.1) w.2 w.3)))

pub spread_neighbours : (n : ℕ) (x : List (List Factor)) → IsStrictlySortedBy cell_cmp x → list_all (is_member n) x ≡ true → are_full x ≡ true → spread Down Up n x ≡ neighbours_of x
spread_neighbours n x h alike full = same_sets (spread Down Up n x) (neighbours_of x) (sorted_spread Down Up n x h) (sorted_set (flat_map around x))
    (λ q. spread_meets n x q alike full ∙ sym (neighbours_cover x q))

-- spread to the next cubes a set of full cubes is the set of its neighbours
pub spread_to_next : (set : Members) → IsCubeSet set → are_full set.cells ≡ true → spread_set Down Up set ≡ neighbourhood set
spread_to_next set is full = same_members (spread_set Down Up set) (neighbourhood set) refl (spread_neighbours set.dimension set.cells is.sorted is.alike full)

pub next_alike : (set : Members) → IsCubeSet set → are_full set.cells ≡ true → are_in_range (neighbours_of set.cells) ≡ true
    → list_all (is_member set.dimension) (spread_set Down Up set).cells ≡ true
next_alike set is full range = ap (list_all (is_member set.dimension)) (spread_neighbours set.dimension set.cells is.sorted is.alike full) ∙ neighbours_alike set.dimension set.cells is.alike range

pub on_ok : {A E : Type 0} {P : Type 0} (r : Result A E) → P → OnOk r P
on_ok (Ok x) p = p
on_ok (Err x) p = tt
