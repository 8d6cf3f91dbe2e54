-- The cells of two sets together: how many there are, and which of them are relative.
use Rattle.std.proofs.Common.{◌≡◌, ◌⊎◌, inl, inr, ◌+◌, ◌<◌, ◌≤◌, ◌^◌, refl, sym, ap, ◌∙◌, arith, List, [], ◌∷◌, length, filter, Bool, true, false, ◌||◌, subst}
use Rattle.std.specs.List.{Contains}
use Rattle.std.specs.List.Sorted.{IsStrictlySortedBy}
use Rattle.std.proofs.lemmas.List.Kept.{IsStrictlySortedBy-filter}
use Rattle.elem_cubes.specs.Cells.{Factor, point, interval}
use Rattle.elem_cubes.specs.Faces.{IsPart, IsFace}
use Rattle.elem_cubes.specs.Order.{cell_cmp}
use Rattle.elem_cubes.specs.OrderLemmas.{cell_cmp_total}
use Rattle.elem_cubes.proofs.Members.{In, In-from, from-In}
use Rattle.cube_sets.specs.Sets.{Members, IsCubeSet}
use Rattle.cube_sets.specs.Sorted.{has, union_of}
use Rattle.cube_sets.proofs.Covering.{cells_are_faces}
use Rattle.cube_sets.proofs.Merging.{has-union, sorted-union}
use Rattle.cube_sets.proofs.SameSets.{same_sets}
use Rattle.cube_sets.proofs.Spreads.{has_In, In_has, In_union}
use Rattle.cube_sets.proofs.Steps.{length-union}
use Rattle.cell_complex.specs.RelativeComplex.{is_relative}
use Rattle.cell_complex.specs.Numbering.{IsListing}
use Rattle.cell_complex.specs.Sorted.{IsSortedCells}
use Rattle.acyclic_values.proofs.Cells.{cells_listing, cell_from, filter_In}
use Rattle.map_checks.specs.Faults.{together}
use Rattle.witness_laws.specs.Inputs.{all_cells, relative_cells}
use Rattle.witness_laws.proofs.Naming.{relative_listing}

absorbed : (a b : Bool) → (b ≡ true → a ≡ true) → (a || b) ≡ a
absorbed true b h = refl
absorbed false true h = sym (h refl)
absorbed false false h = refl

same_tests : (a b : Bool) → (a ≡ true → b ≡ true) → (b ≡ true → a ≡ true) → a ≡ b
same_tests true b f g = sym (f refl)
same_tests false true f g = g refl
same_tests false false f g = refl

-- a list whose members a sorted one has is not longer, where it is sorted too
pub fewer : (xs ys : List (List Factor)) → IsStrictlySortedBy cell_cmp xs → IsStrictlySortedBy cell_cmp ys → ((c : List Factor) → In xs c → In ys c) → length xs ≤ length ys
fewer xs ys s k h =
    let e : union_of cell_cmp ys xs ≡ ys = same_sets (union_of cell_cmp ys xs) ys (sorted-union cell_cmp cell_cmp_total ys xs s) k
    (λ c. has-union cell_cmp cell_cmp_total ys xs c ∙ absorbed (has cell_cmp ys c) (has cell_cmp xs c) (λ t. In_has ys c (h c (has_In xs c t)))) in
    let l = length-union cell_cmp ys xs in
    omega (arith, ap length e)

part_itself : (f : Factor) → IsPart f f
part_itself (point l) = refl
part_itself (interval l) = refl

face_itself : (q : List Factor) → IsFace q q
face_itself [] = tt
face_itself (f ∷ fs) = (part_itself f, face_itself fs)

-- the members of both sets are cells
in_all : (x a : List (List Factor)) (q : List Factor) → In x q ⊎ In a q → In (all_cells x a) q
in_all x a q w =
    In-from (all_cells x a) q (((cells_listing (together x a)).members q).0 (cell_from (together x a) q q (In_union x a q w) (face_itself q)))

-- so both have few members, where there are few cells
pub few_together : (x a : Members) → IsCubeSet x → IsCubeSet a → length (all_cells x.cells a.cells) ≤ 4096 → length x.cells + length a.cells < 2 ^ 32
few_together x a h k few =
    let s = cells_are_faces.sorted (together x.cells a.cells) in
    let l = fewer x.cells (all_cells x.cells a.cells) h.sorted s (λ c w. in_all x.cells a.cells c (inl w)) in
    let m = fewer a.cells (all_cells x.cells a.cells) k.sorted s (λ c w. in_all x.cells a.cells c (inr w)) in
    omega (arith, l, m, few)

-- two sorted lists of what a test tells are one
same_listings : (test : List Factor → Bool) (xs ys : List (List Factor)) → IsStrictlySortedBy cell_cmp xs → IsStrictlySortedBy cell_cmp ys → IsListing test xs → IsListing test ys → xs ≡ ys
same_listings test xs ys s t a b = same_sets xs ys s t (λ c. same_tests (has cell_cmp xs c) (has cell_cmp ys c)
    (λ e. In_has ys c (In-from ys c ((b.members c).0 ((a.members c).1 (from-In xs c (has_In xs c e))))))
    (λ e. In_has xs c (In-from xs c ((a.members c).0 ((b.members c).1 (from-In ys c (has_In ys c e)))))))

-- what lists the relative cells in order is their list
pub kept_are : (x a cells : List (List Factor)) → IsListing (is_relative x a) cells → IsSortedCells cells → cells ≡ relative_cells x a
kept_are x a cells l s = same_listings (is_relative x a) cells (relative_cells x a) s.sorted
    (IsStrictlySortedBy-filter cell_cmp (is_relative x a) (all_cells x a) (cells_are_faces.sorted (together x a))) l (relative_listing x a)

-- a list has what is left of it
pub in_filtered : (test : List Factor → Bool) (cells : List (List Factor)) (q : List Factor) → Contains (filter test cells) q → Contains cells q
in_filtered test cells q w = from-In cells q (filter_In test cells q (In-from (filter test cells) q w)).0

-- the relative cells are among all cells
pub relative_inside : (x a all cells : List (List Factor)) → all ≡ all_cells x a → cells ≡ relative_cells x a → (q : List Factor) → Contains cells q → Contains all q
relative_inside x a all cells e f q w =
    subst (λ (l : List (List Factor)). Contains l q) (sym e) (in_filtered (is_relative x a) (all_cells x a) q (subst (λ (l : List (List Factor)). Contains l q) f w))
