-- The cells of a set: what they are, and that spreading to the ends along all axes gives them.
use Rattle.std.proofs.Common.{◌≡◌, inl, inr, ⊎_elim, ℕ, ◌<◌, ◌^◌, refl, sym, ap, ◌∙◌, subst, arith, List, [], ◌∷◌, length, true, ◌==◌, true≢false}
use Rattle.std.specs.List.{list_all, flat_map}
use Rattle.std.specs.List.Sorted.{IsStrictlySortedBy}
use Rattle.std.specs.Cmp.{both_ways}
use Rattle.std.proofs.lemmas.Bool.{or_cases, eqb-true, eq-eqb}
use Rattle.elem_cubes.specs.Cells.{Factor, is_file_factor}
use Rattle.elem_cubes.specs.Faces.{IsFace, is_face, closure_of}
use Rattle.elem_cubes.specs.Order.{cell_cmp}
use Rattle.elem_cubes.specs.OrderLemmas.{cell_cmp_total}
use Rattle.elem_cubes.proofs.FaceLemmas.{face-Decides, face_length}
use Rattle.elem_cubes.proofs.Listing.{closures_are_faces}
use Rattle.elem_cubes.proofs.Members.{In, In-from, from-In, In-flat, flat-In}
use Rattle.elem_cubes.proofs.Ranges.{faces_stay_in_range}
use Rattle.cube_sets.specs.Sorted.{has, union_of}
use Rattle.cube_sets.specs.Sets.{Members, IsCubeSet, is_member}
use Rattle.cube_sets.specs.Closures.{is_cell_of, cells_of, closure, CellsAreFaces}
use Rattle.cube_sets.specs.Changes.{spread, spread_set}
use Rattle.cube_sets.specs.declared.change.Change.{Change}
use Rattle.cube_sets.specs.declared.change.Change.TheVariants.{LowerEnd, UpperEnd}
use Rattle.cube_sets.proofs.Merging.{sorted-union}
use Rattle.cube_sets.proofs.Sorting.{and_true}
use Rattle.cube_sets.proofs.SameSets.{same_sets, same_members}
use Rattle.cube_sets.proofs.Spreading.{spread_face, face_spread}
use Rattle.cube_sets.proofs.Spreads.{or_left, or_right, has_In, In_has, union_In, In_union, all_from_In, In_passes, sorted_spread, spread_In, In_spread}

-- ---- a face of some member

cell_from : (x : List (List Factor)) (s q : List Factor) → In x s → IsFace s q → is_cell_of x q ≡ true
cell_from [] s q m f = absurd m
cell_from (y ∷ x) s q (inl e) f = or_left (is_face y q) (is_cell_of x q) ((face-Decides y q).1 (subst (λ (z : List Factor). IsFace z q) (sym e) f))
cell_from (y ∷ x) s q (inr m) f = or_right (is_face y q) (is_cell_of x q) (cell_from x s q m f)

cell_to : (x : List (List Factor)) (q : List Factor) → is_cell_of x q ≡ true → (s : List Factor) × In x s × IsFace s q
cell_to [] q h = absurd (true≢false (sym h))
cell_to (y ∷ x) q h = ⊎_elim
    (λ e. (y, inl refl, (face-Decides y q).0 e))
    (λ e. let w = cell_to x q e in (w.0, inr w.1, w.2))
    (or_cases (is_face y q) (is_cell_of x q) h)

-- ---- the cells

nothing_sorted : IsStrictlySortedBy cell_cmp []
unfolding IsStrictlySortedBy
nothing_sorted = tt

pub sorted_set : (xs : List (List Factor)) → IsStrictlySortedBy cell_cmp (union_of cell_cmp xs [])
sorted_set xs = sorted-union cell_cmp cell_cmp_total xs [] nothing_sorted

cells_cover : (x : List (List Factor)) (q : List Factor) → has cell_cmp (cells_of x) q ≡ is_cell_of x q
cells_cover x q = both_ways (has cell_cmp (cells_of x) q) (is_cell_of x q)
    (λ h. ⊎_elim
    (λ k. let w = In-flat closure_of x q k in cell_from x w.0 q w.1 ((closures_are_faces.faces w.0 q).0 (from-In (closure_of w.0) q w.2)))
    (λ k. absurd k)
    (union_In (flat_map closure_of x) [] q (has_In (cells_of x) q h)))
    (λ h.
    let w = cell_to x q h in
    In_has (cells_of x) q (In_union (flat_map closure_of x) [] q (inl (flat-In closure_of x w.0 q w.1 (In-from (closure_of w.0) q ((closures_are_faces.faces w.0 q).1 w.2))))))

pub member_parts : (n : ℕ) (q : List Factor) → is_member n q ≡ true → (length q ≡ n) × (list_all is_file_factor q ≡ true)
member_parts n q h = let both = and_true (length q == n) (list_all is_file_factor q) h in (eqb-true (length q) n both.0, both.1)

pub member_of : (n : ℕ) (q : List Factor) → length q ≡ n → list_all is_file_factor q ≡ true → is_member n q ≡ true
member_of n q e h = rw (eq-eqb (length q) n e, h) refl

face_member : (n : ℕ) (s q : List Factor) → is_member n s ≡ true → IsFace s q → is_member n q ≡ true
face_member n s q h f =
    let parts = member_parts n s h in
    member_of n q (face_length s q f ∙ parts.0) (faces_stay_in_range.files s q f parts.1)

pub cells_alike : (n : ℕ) (x : List (List Factor)) → list_all (is_member n) x ≡ true → list_all (is_member n) (cells_of x) ≡ true
cells_alike n x h = all_from_In (is_member n) (cells_of x)
    (λ q m. let w = cell_to x q (sym (cells_cover x q) ∙ In_has (cells_of x) q m) in face_member n w.0 q (In_passes (is_member n) x w.0 h w.1) w.2)

pub cells_are_faces : CellsAreFaces
cells_are_faces = record { sorted = λ x. sorted_set (flat_map closure_of x); faces = cells_cover; alike = cells_alike }

pub in_range : (n : ℕ) (xs : List (List Factor)) → list_all (is_member n) xs ≡ true → list_all (list_all is_file_factor) xs ≡ true
in_range n xs h = all_from_In (list_all is_file_factor) xs (λ q m. (member_parts n q (In_passes (is_member n) xs q h m)).1)

-- ---- spread to the ends along all axes

spread_covers : (n : ℕ) (x : List (List Factor)) (q : List Factor) → list_all (is_member n) x ≡ true → has cell_cmp (spread LowerEnd UpperEnd n x) q ≡ is_cell_of x q
spread_covers n x q alike = both_ways (has cell_cmp (spread LowerEnd UpperEnd n x) q) (is_cell_of x q)
    (λ h. let w = spread_In LowerEnd UpperEnd n x q (has_In (spread LowerEnd UpperEnd n x) q h) in cell_from x w.0 q w.1 (spread_face n w.0 q w.2))
    (λ h.
    let w = cell_to x q h in
    let l : length w.0 ≡ n = (member_parts n w.0 (In_passes (is_member n) x w.0 alike w.1)).0 in
    In_has (spread LowerEnd UpperEnd n x) q (In_spread LowerEnd UpperEnd n x w.0 q w.1 (face_spread n w.0 q (omega arith) w.2)))

pub spread_cells : (n : ℕ) (x : List (List Factor)) → IsStrictlySortedBy cell_cmp x → list_all (is_member n) x ≡ true → spread LowerEnd UpperEnd n x ≡ cells_of x
spread_cells n x h alike = same_sets (spread LowerEnd UpperEnd n x) (cells_of x) (sorted_spread LowerEnd UpperEnd n x h) (sorted_set (flat_map closure_of x))
    (λ q. spread_covers n x q alike ∙ sym (cells_cover x q))

-- a set spread along all axes is a set, if its cells are those of one and not too many
pub spread_is_set : (c d : Change) (set : Members) → IsCubeSet set → list_all (is_member set.dimension) (spread_set c d set).cells ≡ true
    → length (spread_set c d set).cells < 2 ^ 32 → IsCubeSet (spread_set c d set)
spread_is_set c d set is alike few = record {
  axes = is.axes;
  unknown = λ e. ap (λ n. spread c d n set.cells) e ∙ is.unknown e;
  alike = alike;
  sorted = sorted_spread c d set.dimension set.cells is.sorted;
  few = few;
}

-- spread to the ends it is the set of its cells
pub spread_to_ends : (set : Members) → IsCubeSet set → spread_set LowerEnd UpperEnd set ≡ closure set
spread_to_ends set is = same_members (spread_set LowerEnd UpperEnd set) (closure set) refl (spread_cells set.dimension set.cells is.sorted is.alike)

pub ends_alike : (set : Members) → IsCubeSet set → list_all (is_member set.dimension) (spread_set LowerEnd UpperEnd set).cells ≡ true
ends_alike set is = ap (list_all (is_member set.dimension)) (spread_cells set.dimension set.cells is.sorted is.alike) ∙ cells_alike set.dimension set.cells is.alike
