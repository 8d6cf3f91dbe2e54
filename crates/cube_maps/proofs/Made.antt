-- A map that is made of sorted cubes and pairs: what it names, its values, and that it is a map.
use Rattle.std.proofs.Common.{◌≡◌, ℕ, suc, ◌≤◌, List, [], ◌∷◌, length, Bool, true, false, ◌||◌, ◌&&◌, if◌then◌else◌, refl, sym, ap, ◌∙◌, subst, arith}
use Rattle.std.specs.List.{list_all, AllByRecursion}
use Rattle.std.specs.List.Sorted.{IsStrictlySortedBy}
use Rattle.std.specs.Ordering.{is_eq, ordering_then}
use Rattle.std.specs.declared.cmp.Ordering.{Ordering}
use Rattle.std.specs.declared.cmp.Ordering.TheVariants.{Less, Equal, Greater}
use Rattle.elem_cubes.specs.declared.range.TheConstants.{MAX_EMBEDDING}
use Rattle.elem_cubes.specs.Cells.{Factor, same_cell}
use Rattle.elem_cubes.specs.Order.{cell_cmp}
use Rattle.elem_cubes.specs.OrderLemmas.{cell_cmp_ties, cell_cmp_itself, same_cell-Decides}
use Rattle.cube_sets.specs.Sorted.{has}
use Rattle.cube_sets.proofs.Sorting.{and_true}
use Rattle.cube_maps.specs.CubeMaps.{Naming, names, value_of, cubes_of, pairs_of, is_full_member, is_naming, IsCubeMap}
use Rattle.cube_maps.specs.Parts.{is_pair, values_in, namings_in, pair_cmp}
use Rattle.cube_maps.specs.declared.pair.Pair.{Pair}
use Rattle.cube_maps.specs.declared.parts.TheConstants.{MAP_PAIRS}

both_true : (a b : Bool) → a ≡ true → b ≡ true → (a && b) ≡ true
both_true a b h k = rw (h, k) refl

pub names_in : (qs : List (List Factor)) (ps : List Pair) (c : List Factor) → names (namings_in qs ps) c ≡ has cell_cmp qs c
names_in [] ps c = refl
names_in (q ∷ qs) ps c = ap (λ b. b || names (namings_in qs ps) c) (cell_cmp_ties q c) ∙ ap (λ b. is_eq (cell_cmp q c) || b) (names_in qs ps c)

pub cubes_in : (qs : List (List Factor)) (ps : List Pair) → cubes_of (namings_in qs ps) ≡ qs
cubes_in [] ps = refl
cubes_in (q ∷ qs) ps = ap (λ l. q ∷ l) (cubes_in qs ps)

has_more : (p : Pair) (ps : List Pair) (q v : List Factor) (b : Bool) → same_cell p.cube q ≡ b → has cell_cmp (values_in ps q) v ≡ is_pair ps q v
    → has cell_cmp (if b then p.value ∷ values_in ps q else values_in ps q) v ≡ ((b && same_cell p.value v) || is_pair ps q v)
has_more p ps q v true e more = ap (λ b. b || has cell_cmp (values_in ps q) v) (sym (cell_cmp_ties p.value v)) ∙ ap (λ b. same_cell p.value v || b) more
has_more p ps q v false e more = more

pub has_values : (ps : List Pair) (q v : List Factor) → has cell_cmp (values_in ps q) v ≡ is_pair ps q v
has_values [] q v = refl
has_values (p ∷ ps) q v = has_more p ps q v (same_cell p.cube q) refl (has_values ps q v)

-- the value of a cube that is named, and of one that is not
named_value : (q c : List Factor) (es : List Naming) (ps : List Pair) (b : Bool) → same_cell q c ≡ b → (b || names es c) ≡ true → (names es c ≡ true → value_of es c ≡ values_in ps c)
    → (if b then values_in ps q else value_of es c) ≡ values_in ps c
named_value q c es ps true e h more = ap (values_in ps) ((same_cell-Decides q c).0 e)
named_value q c es ps false e h more = more h

value_there : (qs : List (List Factor)) (ps : List Pair) (c : List Factor) → names (namings_in qs ps) c ≡ true → value_of (namings_in qs ps) c ≡ values_in ps c
value_there [] ps c h = cc
value_there (q ∷ qs) ps c h = named_value q c (namings_in qs ps) ps (same_cell q c) refl h (value_there qs ps c)

pub no_value : (es : List Naming) (c : List Factor) → names es c ≡ false → value_of es c ≡ []
no_value [] c h = refl
no_value (e ∷ es) c h = by_test (same_cell e.cube c) h (no_value es c)
  where
    by_test : (b : Bool) → (b || names es c) ≡ false → (names es c ≡ false → value_of es c ≡ []) → (if b then e.value else value_of es c) ≡ []
    by_test true k more = cc
    by_test false k more = more k

no_pair : (qs : List (List Factor)) (ps : List Pair) (c v : List Factor) → list_all (λ p. has cell_cmp qs p.cube) ps ≡ true → has cell_cmp qs c ≡ false → is_pair ps c v ≡ false
no_pair qs [] c v h k = refl
no_pair qs (p ∷ ps) c v h k =
    let both = and_true (has cell_cmp qs p.cube) (list_all (λ p. has cell_cmp qs p.cube) ps) h in
    let other : same_cell p.cube c ≡ false = apart (same_cell p.cube c) refl both.0 in
    rw (other, no_pair qs ps c v both.1 k) refl
  where
    apart : (b : Bool) → same_cell p.cube c ≡ b → has cell_cmp qs p.cube ≡ true → b ≡ false
    apart true e h = sym h ∙ ap (has cell_cmp qs) ((same_cell-Decides p.cube c).0 e) ∙ k
    apart false e h = refl

pub pairs_in : (qs : List (List Factor)) (ps : List Pair) (c v : List Factor) → list_all (λ p. has cell_cmp qs p.cube) ps ≡ true
    → has cell_cmp (value_of (namings_in qs ps) c) v ≡ is_pair ps c v
pairs_in qs ps c v h = by_names (names (namings_in qs ps) c) refl
  where
    by_names : (b : Bool) → names (namings_in qs ps) c ≡ b → has cell_cmp (value_of (namings_in qs ps) c) v ≡ is_pair ps c v
    by_names true e = ap (λ l. has cell_cmp l v) (value_there qs ps c e) ∙ has_values ps c v
    by_names false e = ap (λ l. has cell_cmp l v) (no_value (namings_in qs ps) c e) ∙ sym (no_pair qs ps c v h (sym (names_in qs ps c) ∙ e))

-- ---- the values of a cube stand in order

second_less : (o r : Ordering) → o ≡ Equal → ordering_then o r ≡ Less → r ≡ Less
second_less Less r e f = cc
second_less Equal r e f = f
second_less Greater r e f = cc

values_above : (q : List Factor) (p : Pair) (ps : List Pair) → same_cell p.cube q ≡ true → AllByRecursion (λ x. pair_cmp p x ≡ Less) ps
    → AllByRecursion (λ y. cell_cmp p.value y ≡ Less) (values_in ps q)
values_above q p [] e h = tt
values_above q p (x ∷ xs) e h = by_test (same_cell x.cube q) refl (values_above q p xs e h.1)
  where
    by_test : (b : Bool) → same_cell x.cube q ≡ b → AllByRecursion (λ y. cell_cmp p.value y ≡ Less) (values_in xs q) → AllByRecursion (λ y. cell_cmp p.value y ≡ Less) (if b then x.value ∷ values_in xs q else values_in xs q)
    by_test true f more =
        let same : p.cube ≡ x.cube = (same_cell-Decides p.cube q).0 e ∙ sym ((same_cell-Decides x.cube q).0 f) in
        let tied : cell_cmp p.cube x.cube ≡ Equal = ap (λ z. cell_cmp z x.cube) same ∙ cell_cmp_itself x.cube in
        (second_less (cell_cmp p.cube x.cube) (cell_cmp p.value x.value) tied h.0, more)
    by_test false f more = more

pub values_sorted : (q : List Factor) (ps : List Pair) → IsStrictlySortedBy pair_cmp ps → IsStrictlySortedBy cell_cmp (values_in ps q)
unfolding IsStrictlySortedBy
values_sorted q [] h = tt
values_sorted q (p ∷ ps) h = by_test (same_cell p.cube q) refl (values_sorted q ps h.1)
  where
    by_test : (b : Bool) → same_cell p.cube q ≡ b → IsStrictlySortedBy cell_cmp (values_in ps q) → IsStrictlySortedBy cell_cmp (if b then p.value ∷ values_in ps q else values_in ps q)
    by_test true f more = (values_above q p ps f h.0, more)
    by_test false f more = more

values_alike : (d : ℕ) (q : List Factor) (ps : List Pair) → list_all (λ p. is_full_member d p.value) ps ≡ true → list_all (is_full_member d) (values_in ps q) ≡ true
values_alike d q [] h = refl
values_alike d q (p ∷ ps) h =
    let both = and_true (is_full_member d p.value) (list_all (λ p. is_full_member d p.value) ps) h in
    by_test (same_cell p.cube q) both.0 (values_alike d q ps both.1)
  where
    by_test : (b : Bool) → is_full_member d p.value ≡ true → list_all (is_full_member d) (values_in ps q) ≡ true
        → list_all (is_full_member d) (if b then p.value ∷ values_in ps q else values_in ps q) ≡ true
    by_test true h k = both_true (is_full_member d p.value) (list_all (is_full_member d) (values_in ps q)) h k
    by_test false h k = k

namings_alike : (d : ℕ) (qs : List (List Factor)) (ps : List Pair) → list_all (is_full_member d) qs ≡ true → list_all (λ p. is_full_member d p.value) ps ≡ true
    → list_all (is_naming d) (namings_in qs ps) ≡ true
namings_alike d [] ps h k = refl
namings_alike d (q ∷ qs) ps h k =
    let both = and_true (is_full_member d q) (list_all (is_full_member d) qs) h in
    both_true (is_full_member d q && list_all (is_full_member d) (values_in ps q)) (list_all (is_naming d) (namings_in qs ps))
    (both_true (is_full_member d q) (list_all (is_full_member d) (values_in ps q)) both.0 (values_alike d q ps k)) (namings_alike d qs ps both.1 k)

namings_sorted : (qs : List (List Factor)) (ps : List Pair) → IsStrictlySortedBy pair_cmp ps → AllByRecursion (λ (e : Naming). IsStrictlySortedBy cell_cmp e.value) (namings_in qs ps)
namings_sorted [] ps h = tt
namings_sorted (q ∷ qs) ps h = (values_sorted q ps h, namings_sorted qs ps h)

pub parts_make : (d : ℕ) (qs : List (List Factor)) (ps : List Pair) → d ≤ MAX_EMBEDDING → (d ≡ 0 → qs ≡ []) → list_all (is_full_member d) qs ≡ true
    → list_all (λ p. is_full_member d p.value) ps ≡ true → IsStrictlySortedBy cell_cmp qs → IsStrictlySortedBy pair_cmp ps
    → length qs ≤ MAP_PAIRS → length (pairs_of (namings_in qs ps)) ≤ MAP_PAIRS → IsCubeMap (record { dimension = d; named = namings_in qs ps })
parts_make d qs ps axes unknown cubes values sq sp few few_pairs = record {
  axes = axes;
  unknown = λ e. ap (λ l. namings_in l ps) (unknown e);
  alike = namings_alike d qs ps cubes values;
  sorted = subst (IsStrictlySortedBy cell_cmp) (sym (cubes_in qs ps)) sq;
  sorted_values = namings_sorted qs ps sp;
  few = subst (λ n. n ≤ MAP_PAIRS) (ap length (sym (cubes_in qs ps)) ∙ length_cubes (namings_in qs ps)) few;
  few_pairs = few_pairs;
}
  where
    length_cubes : (es : List Naming) → length (cubes_of es) ≡ length es
    length_cubes [] = refl
    length_cubes (e ∷ es) = ap suc (length_cubes es)

-- ---- the lists before they are sorted

eq_then : (o r : Ordering) → is_eq (ordering_then o r) ≡ (is_eq o && is_eq r)
eq_then Less r = refl
eq_then Equal r = refl
eq_then Greater r = refl

pub has_pair : (ps : List Pair) (q v : List Factor) → has pair_cmp ps (record { cube = q; value = v }) ≡ is_pair ps q v
has_pair [] q v = refl
has_pair (p ∷ ps) q v =
    ap (λ b. b || has pair_cmp ps (record { cube = q; value = v })) (eq_then (cell_cmp p.cube q) (cell_cmp p.value v)
    ∙ ap (λ b. b && is_eq (cell_cmp p.value v)) (sym (cell_cmp_ties p.cube q)) ∙ ap (λ b. same_cell p.cube q && b) (sym (cell_cmp_ties p.value v)))
    ∙ ap (λ b. (same_cell p.cube q && same_cell p.value v) || b) (has_pair ps q v)

all_same : {A : Type 0} (p q : A → Bool) (xs : List A) → ((x : A) → p x ≡ q x) → list_all p xs ≡ list_all q xs
all_same p q [] h = refl
all_same p q (x ∷ xs) h = ap (λ b. b && list_all p xs) (h x) ∙ ap (λ b. q x && b) (all_same p q xs h)

none_of : {A : Type 0} (xs ys : List A) → ys ≡ [] → length xs ≤ length ys → xs ≡ []
none_of [] ys e h = refl
none_of (x ∷ xs) ys e h = absurd (omega (arith, ap length e))

-- what is known of cubes and pairs, and of the same in order
pub record AreSorted (d : ℕ) (cubes qs : List (List Factor)) (pairs ps : List Pair) : Type 0 where
  pub axes : d ≤ MAX_EMBEDDING
  pub unknown : d ≡ 0 → cubes ≡ []
  pub full : list_all (is_full_member d) cubes ≡ true
  pub values : list_all (λ p. is_full_member d p.value) pairs ≡ true
  pub named : list_all (λ p. has cell_cmp cubes p.cube) pairs ≡ true
  pub few : length cubes ≤ MAP_PAIRS
  pub few_pairs : length pairs ≤ MAP_PAIRS
  pub sorted : IsStrictlySortedBy cell_cmp qs
  pub sorted_pairs : IsStrictlySortedBy pair_cmp ps
  pub same : (c : List Factor) → has cell_cmp qs c ≡ has cell_cmp cubes c
  pub same_pairs : (p : Pair) → has pair_cmp ps p ≡ has pair_cmp pairs p
  pub kept : (t : List Factor → Bool) → list_all t cubes ≡ true → list_all t qs ≡ true
  pub kept_pairs : (t : Pair → Bool) → list_all t pairs ≡ true → list_all t ps ≡ true
  pub bound : length qs ≤ length cubes
  pub bound_pairs : length ps ≤ length pairs

pub all_named : (d : ℕ) (cubes qs : List (List Factor)) (pairs ps : List Pair) → AreSorted d cubes qs pairs ps → list_all (λ p. has cell_cmp qs p.cube) ps ≡ true
all_named d cubes qs pairs ps a =
    all_same (λ p. has cell_cmp qs p.cube) (λ p. has cell_cmp cubes p.cube) ps (λ p. a.same p.cube) ∙ a.kept_pairs (λ p. has cell_cmp cubes p.cube) a.named

pub made_map : (d : ℕ) (cubes qs : List (List Factor)) (pairs ps : List Pair) (es : List Naming) → AreSorted d cubes qs pairs ps → es ≡ namings_in qs ps
    → length (pairs_of es) ≤ length ps → IsCubeMap (record { dimension = d; named = es })
made_map d cubes qs pairs ps es a e n =
    let b = a.bound in
    let bp = a.bound_pairs in
    let f = a.few in
    let fp = a.few_pairs in
    subst (λ (l : List Naming). IsCubeMap (record { dimension = d; named = l })) (sym e)
    (parts_make d qs ps a.axes (λ z. none_of qs cubes (a.unknown z) b) (a.kept (is_full_member d) a.full) (a.kept_pairs (λ p. is_full_member d p.value) a.values)
    a.sorted a.sorted_pairs (omega arith) (subst (λ (l : List Naming). length (pairs_of l) ≤ MAP_PAIRS) e (omega arith)))

pub made_names : (d : ℕ) (cubes qs : List (List Factor)) (pairs ps : List Pair) (es : List Naming) → AreSorted d cubes qs pairs ps → es ≡ namings_in qs ps
    → (q : List Factor) → names es q ≡ has cell_cmp cubes q
made_names d cubes qs pairs ps es a e q = ap (λ l. names l q) e ∙ names_in qs ps q ∙ a.same q

pub made_pairs : (d : ℕ) (cubes qs : List (List Factor)) (pairs ps : List Pair) (es : List Naming) → AreSorted d cubes qs pairs ps → es ≡ namings_in qs ps
    → (q v : List Factor) → has cell_cmp (value_of es q) v ≡ is_pair pairs q v
made_pairs d cubes qs pairs ps es a e q v =
    ap (λ l. has cell_cmp (value_of l q) v) e ∙ pairs_in qs ps q v (all_named d cubes qs pairs ps a) ∙ sym (has_pair ps q v)
    ∙ a.same_pairs (record { cube = q; value = v }) ∙ has_pair pairs q v
