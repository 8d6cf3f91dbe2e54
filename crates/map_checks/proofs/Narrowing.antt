-- The value at a cell, while it is cut down by one cube round the cell after the other.
use Rattle.std.proofs.Common.{◌≡◌, ◌↔◌, ◌⊎◌, inl, inr, ⊎_elim, ℕ, suc, ◌<◌, ◌≤◌, ◌^◌, refl, sym, ap, ◌∙◌, subst, arith, List, [], ◌∷◌, length, filter, Bool, true, false, ◌&&◌, if◌then◌else◌, Option, Some, None, IsTrue, length-append}
use Rattle.std.specs.Prelude.{IfSome}
use Rattle.std.specs.List.{Contains, list_all}
use Rattle.std.specs.List.Sorted.{IsStrictlySortedBy}
use Rattle.std.proofs.lemmas.Bool.{true≢false, and_parts, or_cases, cond_both}
use Rattle.elem_cubes.specs.Cells.{Factor, is_wide, is_file_factor, same_cell}
use Rattle.elem_cubes.specs.Order.{cell_cmp}
use Rattle.elem_cubes.specs.OrderLemmas.{cell_cmp_total}
use Rattle.elem_cubes.specs.Covers.{covers_of}
use Rattle.elem_cubes.proofs.Covering.{to_cover}
use Rattle.elem_cubes.proofs.Covering as covers
use Rattle.elem_cubes.proofs.Members.{In, from-In}
use Rattle.elem_cubes.proofs.Ranges.{face_range}
use Rattle.elem_cubes.specs.Corners.{is_file_end}
use Rattle.cube_sets.specs.Sorted.{has, intersection_of}
use Rattle.cube_sets.specs.Sets.{Members, IsCubeSet, is_member}
use Rattle.cube_sets.specs.Closures.{is_cell_of, cells_of}
use Rattle.cube_sets.proofs.SetLemmas.{has-intersection}
use Rattle.cube_sets.proofs.SameSets.{same_sets}
use Rattle.cube_sets.proofs.Covering.{cells_are_faces}
use Rattle.cell_complex.proofs.Deciding.{has_is, has_from, from_has, cell_true}
use Rattle.cube_maps.specs.CubeMaps.{Naming, Mapping, IsCubeMap, names, value_of, is_naming, is_full_member, pairs_of}
use Rattle.acyclic_values.specs.Values.{InValue, IsValueAt}
use Rattle.acyclic_values.proofs.Cells.{all_In, cell_in}
use Rattle.map_checks.specs.Faults.{AreNamed}
use Rattle.map_checks.specs.Narrowed.{narrowed_by}

-- ---- what a map gives

-- a value of a cube is full, of the map's dimension and in range; and so is a named cube
full_in : (d : ℕ) (es : List Naming) → list_all (is_naming d) es ≡ true → (q : List Factor) → list_all (is_full_member d) (value_of es q) ≡ true
full_in d [] h q = refl
full_in d (e ∷ es) h q =
    let both = and_parts (is_naming d e) (list_all (is_naming d) es) h in
    let here = and_parts (is_full_member d e.cube) (list_all (is_full_member d) e.value) both.0 in
    by_test (same_cell e.cube q) here.1 (full_in d es both.1 q)
  where
    by_test : (b : Bool) → list_all (is_full_member d) e.value ≡ true → list_all (is_full_member d) (value_of es q) ≡ true → list_all (is_full_member d) (if b then e.value else value_of es q) ≡ true
    by_test true f g = f
    by_test false f g = g

named_in : (d : ℕ) (es : List Naming) → list_all (is_naming d) es ≡ true → (q : List Factor) → names es q ≡ true → is_full_member d q ≡ true
named_in d [] h q n = absurd (true≢false (sym n))
named_in d (e ∷ es) h q n =
    let both = and_parts (is_naming d e) (list_all (is_naming d) es) h in
    let here = and_parts (is_full_member d e.cube) (list_all (is_full_member d) e.value) both.0 in
    ⊎_elim
    (λ t. subst (λ (r : List Factor). is_full_member d r ≡ true) (cell_true e.cube q t) here.0)
    (λ t. named_in d es both.1 q t)
    (or_cases (same_cell e.cube q) (names es q) n)

pub named_is_wide : (m : Mapping) → IsCubeMap m → (q : List Factor) → names m.named q ≡ true → list_all is_wide q ≡ true
named_is_wide m is q n = (and_parts (is_member m.dimension q) (list_all is_wide q) (named_in m.dimension m.named is.alike q n)).1

members_of : (d : ℕ) (qs : List (List Factor)) → list_all (is_full_member d) qs ≡ true → list_all (is_member d) qs ≡ true
members_of d [] h = refl
members_of d (q ∷ qs) h =
    let both = and_parts (is_full_member d q) (list_all (is_full_member d) qs) h in
    let here = and_parts (is_member d q) (list_all is_wide q) both.0 in
    ap (λ b. b && list_all (is_member d) qs) here.0 ∙ members_of d qs both.1

pub value_members : (m : Mapping) → IsCubeMap m → (q : List Factor) → list_all (is_member m.dimension) (value_of m.named q) ≡ true
value_members m is q = members_of m.dimension (value_of m.named q) (full_in m.dimension m.named is.alike q)

few_in : (es : List Naming) (q : List Factor) → length (value_of es q) ≤ length (pairs_of es)
few_in [] q = omega arith
few_in (e ∷ es) q =
    let more = few_in es q in
    let l = length-append e.value (pairs_of es) in
    cond_both (same_cell e.cube q) e.value (value_of es q) (λ (vs : List (List Factor)). length vs ≤ length (pairs_of (e ∷ es))) (λ _. omega arith) (λ _. omega arith)

pub value_few : (m : Mapping) → IsCubeMap m → (q : List Factor) → length (value_of m.named q) < 2 ^ 32
value_few m is q = let f = is.few_pairs in omega (arith, few_in m.named q)

pub value_none : (m : Mapping) → IsCubeMap m → (q : List Factor) → m.dimension ≡ 0 → value_of m.named q ≡ []
value_none m is q e = ap (λ (es : List Naming). value_of es q) (is.unknown e)

-- the set of a sorted list has that list
pub same_cells : (set : Members) (value : List (List Factor)) → IsCubeSet set → IsStrictlySortedBy cell_cmp value → ((c : List Factor) → has cell_cmp set.cells c ≡ has cell_cmp value c) → set.cells ≡ value
same_cells set value is sorted h = same_sets set.cells value is.sorted sorted h

-- ---- one cube after the other

-- the cell is in the values of all these cubes that the domain has
abbrev pub InAll : List Naming → List (List Factor) → List (List Factor) → List Factor → Type 0
InAll map domain cubes g = (q : List Factor) → In cubes q → Contains domain q → is_cell_of (value_of map q) g ≡ true

-- before the first cube of the domain all of them are left; then the set and the cubes that are left tell what is in the value
abbrev pub IsSoFar : List Naming → List (List Factor) → List (List Factor) → List (List Factor) → Option Members → Type 0
IsSoFar map domain all left None = (q : List Factor) → In all q → Contains domain q → In left q
IsSoFar map domain all left (Some set) = (g : List Factor) → InAll map domain all g ↔ (Contains set.cells g × InAll map domain left g)

pub record IsNarrowed (map : Mapping) (domain all left : List (List Factor)) (most : ℕ) (set : Option Members) : Type 0 where
  pub inside : (q : List Factor) → In left q → In all q
  pub so_far : IsSoFar map.named domain all left set
  pub dimension : IfSome set (λ s. s.dimension ≡ map.dimension)
  pub few : IfSome set (λ s. length s.cells ≤ most)

pub cells_have : (x : List (List Factor)) (g : List Factor) → Contains (cells_of x) g ↔ (is_cell_of x g ≡ true)
cells_have x g = (
  λ w. sym (cells_are_faces.faces x g) ∙ has_is (cells_of x) g ∙ has_from (cells_of x) g w,
  λ e. from_has (cells_of x) g (sym (has_is (cells_of x) g) ∙ cells_are_faces.faces x g ∙ e),
)

both_have : (xs ys : List (List Factor)) (g : List Factor) → Contains (intersection_of cell_cmp xs ys) g ↔ (Contains xs g × Contains ys g)
both_have xs ys g = (
  λ w.
      let h = and_parts (has cell_cmp xs g) (has cell_cmp ys g) (sym (has-intersection cell_cmp cell_cmp_total xs ys g) ∙ has_is (intersection_of cell_cmp xs ys) g ∙ has_from (intersection_of cell_cmp xs ys) g w) in
      (from_has xs g (sym (has_is xs g) ∙ h.0), from_has ys g (sym (has_is ys g) ∙ h.1)),
  λ h. from_has (intersection_of cell_cmp xs ys) g (sym (has_is (intersection_of cell_cmp xs ys) g) ∙ has-intersection cell_cmp cell_cmp_total xs ys g
      ∙ (λ i. (has_is xs g ∙ has_from xs g h.0) i && (has_is ys g ∙ has_from ys g h.1) i)),
)

module _ (map : Mapping) (domain all : List (List Factor)) (most : ℕ) where
  pub none_yet : (left : List (List Factor)) → left ≡ all → IsNarrowed map domain all left most None
  none_yet left e = record {
    inside = λ q w. subst (λ (l : List (List Factor)). In l q) e w;
    so_far = λ q w _. subst (λ (l : List (List Factor)). In l q) (sym e) w;
    dimension = tt;
    few = tt;
  }

  module _ (left rest : List (List Factor)) (x : List Factor) (step : left ≡ x ∷ rest) where
    was_left : (q : List Factor) → In rest q → In left q
    was_left q w = subst (λ (l : List (List Factor)). In l q) (sym step) (inr w)

    now_left : (q : List Factor) → In left q → (x ≡ q) ⊎ In rest q
    now_left q w = subst (λ (l : List (List Factor)). In l q) step w

    -- a cube that the domain has not
    passed : (set : Option Members) → (Contains domain x → ⊥) → IsSoFar map.named domain all left set → IsSoFar map.named domain all rest set
    passed None out h = λ q w d. ⊎_elim (λ e. absurd (out (subst (Contains domain) (sym e) d))) (λ v. v) (now_left q (h q w d))
    passed (Some set) out h = λ g. (
      λ k. let v = (h g).0 k in (v.0, λ q w d. v.1 q (was_left q w) d),
      λ k. (h g).1 (k.0, λ q w d. ⊎_elim (λ e. absurd (out (subst (Contains domain) (sym e) d))) (λ v. k.1 q v d) (now_left q w)),
    )

    pub one_passed : (set : Option Members) → (Contains domain x → ⊥) → IsNarrowed map domain all left most set → IsNarrowed map domain all rest most set
    one_passed set out h = record {
      inside = λ q w. h.inside q (was_left q w);
      so_far = passed set out h.so_far;
      dimension = h.dimension;
      few = h.few;
    }

    -- a cube of the domain
    cells_x : List (List Factor)
    cells_x = cells_of (value_of map.named x)

    taken : (old : Option Members) → Contains domain x → ((q : List Factor) → In left q → In all q) → IsSoFar map.named domain all left old → (g : List Factor)
        → InAll map.named domain all g ↔ (Contains (narrowed_by old (cells_of (value_of map.named x))) g × InAll map.named domain rest g)
    taken None at sub h g = (
      λ k. ((cells_have (value_of map.named x) g).1 (k x (sub x (subst (λ (l : List (List Factor)). In l x) (sym step) (inl refl))) at), λ q w d. k q (sub q (was_left q w)) d),
      λ k q w d. ⊎_elim (λ e. subst (λ (r : List Factor). is_cell_of (value_of map.named r) g ≡ true) e ((cells_have (value_of map.named x) g).0 k.0)) (λ v. k.1 q v d) (now_left q (h q w d)),
    )
    taken (Some set) at sub h g = (
      λ k. let v = (h g).0 k in
          ((both_have set.cells (cells_of (value_of map.named x)) g).1 (v.0, (cells_have (value_of map.named x) g).1 (v.1 x (subst (λ (l : List (List Factor)). In l x) (sym step) (inl refl)) at)), λ q w d. v.1 q (was_left q w) d),
      λ k. let v = (both_have set.cells (cells_of (value_of map.named x)) g).0 k.0 in
          (h g).1 (v.0, λ q w d. ⊎_elim (λ e. subst (λ (r : List Factor). is_cell_of (value_of map.named r) g ≡ true) e ((cells_have (value_of map.named x) g).0 v.1)) (λ u. k.1 q u d) (now_left q w)),
    )

    fewer : (old : Option Members) → IfSome old (λ s. length s.cells ≤ most) → length (cells_of (value_of map.named x)) ≤ most → length (narrowed_by old (cells_of (value_of map.named x))) ≤ most
    fewer None h l = l
    fewer (Some set) h l = omega (arith, filtered_most (λ c. has cell_cmp (cells_of (value_of map.named x)) c) set.cells)
      where
        filtered_most : (p : List Factor → Bool) (qs : List (List Factor)) → length (filter p qs) ≤ length qs
        filtered_most p [] = omega arith
        filtered_most p (q ∷ qs) =
            let more = filtered_most p qs in
            cond_both (p q) (q ∷ filter p qs) (filter p qs) (λ (l : List (List Factor)). length l ≤ suc (length qs)) (λ _. omega arith) (λ _. omega arith)

    pub one_taken : (old : Option Members) (cells : List (List Factor)) (new : Members) → Contains domain x → cells ≡ cells_of (value_of map.named x) → length cells ≤ most → new.cells ≡ narrowed_by old cells → new.dimension ≡ map.dimension
        → IsNarrowed map domain all left most old → IsNarrowed map domain all rest most (Some new)
    one_taken old cells new at is l e d h =
        let f : new.cells ≡ narrowed_by old (cells_of (value_of map.named x)) = e ∙ ap (narrowed_by old) is in
        record {
          inside = λ q w. h.inside q (was_left q w);
          so_far = λ g. subst (λ (cs : List (List Factor)). InAll map.named domain all g ↔ (Contains cs g × InAll map.named domain rest g)) (sym f) (taken old at h.inside h.so_far g);
          dimension = d;
          few = let n = fewer old h.few (subst (λ (cs : List (List Factor)). length cs ≤ most) is l) in omega (arith, ap length f, n);
        }

-- ---- at the end

module _ (map : Mapping) (is : IsCubeMap map) (domain : List (List Factor)) (named : AreNamed map.named domain) (s : List Factor) where
  pub in_value : (g : List Factor) → InAll map.named domain (covers_of s) g ↔ InValue map.named domain s g
  in_value g = (
    λ h q w f. h q (to_cover s q (named_is_wide map is q (named q w)) f) w,
    λ h q w d. h q d (covers.cover_to s q w).1,
  )

  pub value_is : (most : ℕ) (set : Members) (left : List (List Factor)) → left ≡ [] → IsCubeSet set → IsNarrowed map domain (covers_of s) left most (Some set) → IsValueAt map.named domain s set.cells
  value_is most set left e cs h = record {
    sorted = cs.sorted;
    cells = λ g. (
      λ w. (in_value g).0 ((h.so_far g).1 (w, λ q v d. absurd (subst (λ (l : List (List Factor)). In l q) e v))),
      λ v. ((h.so_far g).0 ((in_value g).1 v)).0,
    );
  }

  -- some cube of the domain is round a cell of it
  pub never_none : (most : ℕ) (left : List (List Factor)) → left ≡ [] → is_cell_of domain s ≡ true → IsNarrowed map domain (covers_of s) left most None → ⊥
  never_none most left e c h =
      let w = cell_in domain s c in
      let at = from-In domain w.0 w.1 in
      subst (λ (l : List (List Factor)). In l w.0) e (h.so_far w.0 (to_cover s w.0 (named_is_wide map is w.0 (named w.0 at)) w.2) at)

-- a cell of a set is in the range of files
pub cell_in_range : (set : Members) (s : List Factor) → IsCubeSet set → is_cell_of set.cells s ≡ true → IsTrue (list_all is_file_factor s)
cell_in_range set s is c =
    let w = cell_in set.cells s c in
    let m = all_In (is_member set.dimension) set.cells is.alike w.0 w.1 in
    face_range is_file_end w.0 s w.2 (and_parts _ (list_all is_file_factor w.0) m).1
