-- The end of the reading: two maps that name the same cubes, with the same values, are one map.
use Rattle.std.proofs.Common.{◌≡◌, ℕ, List, [], ◌∷◌, length, Bool, true, false, ◌||◌, ◌&&◌, if◌then◌else◌, IsTrue, refl, sym, ap, ◌∙◌, arith}
use Rattle.std.specs.List.{list_all, AllByRecursion}
use Rattle.std.specs.List.Sorted.{IsStrictlySortedBy}
use Rattle.std.proofs.lemmas.Bool.{true≢false}
use Rattle.elem_cubes.specs.Cells.{Factor, same_cell}
use Rattle.elem_cubes.specs.Order.{cell_cmp}
use Rattle.elem_cubes.specs.OrderLemmas.{same_cell-Decides, cell_refl}
use Rattle.cube_sets.specs.Sorted.{has}
use Rattle.cube_sets.proofs.SameSets.{same_sets}
use Rattle.cube_sets.proofs.Sorting.{and_true}
use Rattle.cube_maps.specs.CubeMaps.{Naming, Mapping, names, value_of, cubes_of, is_full_member, is_naming, IsCubeMap}
use Rattle.cube_maps.specs.Parts.{is_pair}
use Rattle.cube_maps.specs.declared.pair.Pair.{Pair}
use Rattle.cube_maps.proofs.Naming.{names_has}
use Rattle.cube_maps.proofs.Made.{no_value}
use Rattle.grid_files.proofs.Finishing.{all_pass, member_passes}
use Rattle.map_files.specs.MapFile.{no_namings}
use Rattle.map_files.specs.Readers.{IsGathered}
use Rattle.map_files.specs.declared.gathered.Gathered.{Gathered}
use Rattle.map_files.proofs.Elements.{first_once, rest_sorted}

-- ---- two maps

own_value : (e : Naming) (es : List Naming) → value_of (e ∷ es) e.cube ≡ e.value
own_value e es = ap (λ b. if b then e.value else value_of es e.cube) (cell_refl e.cube)

rest_values : (e f : Naming) (es fs : List Naming) → e.cube ≡ f.cube → IsStrictlySortedBy cell_cmp (cubes_of (e ∷ es)) → IsStrictlySortedBy cell_cmp (cubes_of (f ∷ fs))
    → (c v : List Factor) (b : Bool) → same_cell e.cube c ≡ b → has cell_cmp (value_of (e ∷ es) c) v ≡ has cell_cmp (value_of (f ∷ fs) c) v
    → has cell_cmp (value_of es c) v ≡ has cell_cmp (value_of fs c) v
rest_values e f es fs same s t c v true k h =
    let here : e.cube ≡ c = (same_cell-Decides e.cube c).0 k in
    ap (λ l. has cell_cmp l v) (ap (value_of es) (sym here) ∙ first_once e es s) ∙ sym (ap (λ l. has cell_cmp l v) (ap (value_of fs) (sym here ∙ same) ∙ first_once f fs t))
rest_values e f es fs same s t c v false k h =
    let other : same_cell f.cube c ≡ false = ap (λ x. same_cell x c) (sym same) ∙ k in
    sym (ap (λ b. has cell_cmp (if b then e.value else value_of es c) v) k) ∙ h ∙ ap (λ b. has cell_cmp (if b then f.value else value_of fs c) v) other

same_namings : (es fs : List Naming) → cubes_of es ≡ cubes_of fs → IsStrictlySortedBy cell_cmp (cubes_of es) → IsStrictlySortedBy cell_cmp (cubes_of fs)
    → AllByRecursion (λ (e : Naming). IsStrictlySortedBy cell_cmp e.value) es → AllByRecursion (λ (e : Naming). IsStrictlySortedBy cell_cmp e.value) fs
    → ((c v : List Factor) → has cell_cmp (value_of es c) v ≡ has cell_cmp (value_of fs c) v) → es ≡ fs
same_namings [] [] same s t vs vt h = refl
same_namings [] (f ∷ fs) same s t vs vt h = cc
same_namings (e ∷ es) [] same s t vs vt h = cc
same_namings (e ∷ es) (f ∷ fs) same s t vs vt h =
    let head : e.cube ≡ f.cube = cc in
    let tail : cubes_of es ≡ cubes_of fs = cc in
    let value : e.value ≡ f.value = same_sets e.value f.value vs.0 vt.0 (λ v. ap (λ l. has cell_cmp l v) (sym (own_value e es)) ∙ h e.cube v
    ∙ ap (λ l. has cell_cmp l v) (ap (value_of (f ∷ fs)) head ∙ own_value f fs)) in
    let one : e ≡ f = λ i. record { cube = head i; value = value i } in
    ap (λ l. e ∷ l) (same_namings es fs tail (rest_sorted e es s) (rest_sorted f fs t) vs.1 vt.1 (λ c v. rest_values e f es fs head s t c v (same_cell e.cube c) refl (h c v)))
    ∙ ap (λ x. x ∷ fs) one

pub same_maps : (a b : Mapping) → IsCubeMap a → IsCubeMap b → a.dimension ≡ b.dimension → ((q : List Factor) → names a.named q ≡ names b.named q)
    → ((q v : List Factor) → has cell_cmp (value_of a.named q) v ≡ has cell_cmp (value_of b.named q) v) → a ≡ b
same_maps a b s t d n v =
    let cubes : cubes_of a.named ≡ cubes_of b.named = same_sets (cubes_of a.named) (cubes_of b.named) s.sorted t.sorted (λ c. sym (names_has a.named c) ∙ n c ∙ names_has b.named c) in
    let named = same_namings a.named b.named cubes s.sorted t.sorted s.sorted_values t.sorted_values v in
    λ i. record { dimension = d i; named = named i }

-- ---- the parts of a map

cubes_full : (n : ℕ) (es : List Naming) → list_all (is_naming n) es ≡ true → list_all (is_full_member n) (cubes_of es) ≡ true
cubes_full n [] h = refl
cubes_full n (e ∷ es) h =
    let both = and_true (is_naming n e) (list_all (is_naming n) es) h in
    let parts = and_true (is_full_member n e.cube) (list_all (is_full_member n) e.value) both.0 in
    rw (parts.0, cubes_full n es both.1) refl

value_full : (n : ℕ) (es : List Naming) (c : List Factor) → list_all (is_naming n) es ≡ true → list_all (is_full_member n) (value_of es c) ≡ true
value_full n [] c h = refl
value_full n (e ∷ es) c h =
    let both = and_true (is_naming n e) (list_all (is_naming n) es) h in
    let parts = and_true (is_full_member n e.cube) (list_all (is_full_member n) e.value) both.0 in
    by_test (same_cell e.cube c) parts.1 (value_full n es c both.1)
  where
    by_test : (b : Bool) → list_all (is_full_member n) e.value ≡ true → list_all (is_full_member n) (value_of es c) ≡ true → list_all (is_full_member n) (if b then e.value else value_of es c) ≡ true
    by_test true h k = h
    by_test false h k = k

pub parts_full : (g : Gathered) (m : Mapping) → IsGathered g m → IsTrue (list_all (is_full_member g.dimension) g.parts.cubes)
parts_full g m is =
    let alike : list_all (is_full_member g.dimension) (cubes_of m.named) ≡ true = ap (λ n. list_all (is_full_member n) (cubes_of m.named)) is.dimension ∙ cubes_full m.dimension m.named is.is_map.alike in
    all_pass (is_full_member g.dimension) g.parts.cubes (λ c k. member_passes (is_full_member g.dimension) (cubes_of m.named) c alike (sym (is.kept.cubes c) ∙ k))

pairs_pass : (t : Pair → Bool) (ps : List Pair) → ((p : Pair) → is_pair ps p.cube p.value ≡ true → t p ≡ true) → list_all t ps ≡ true
pairs_pass t [] h = refl
pairs_pass t (p ∷ ps) h =
    let here : t p ≡ true = h p (ap (λ b. (b && same_cell p.value p.value) || is_pair ps p.cube p.value) (cell_refl p.cube) ∙ ap (λ b. b || is_pair ps p.cube p.value) (cell_refl p.value)) in
    let more : list_all t ps ≡ true = pairs_pass t ps (λ x k. h x (or_right (same_cell p.cube x.cube && same_cell p.value x.value) (is_pair ps x.cube x.value) k)) in
    rw (here, more) refl
  where
    or_right : (a b : Bool) → b ≡ true → (a || b) ≡ true
    or_right true b k = refl
    or_right false b k = k

pub pairs_full : (g : Gathered) (m : Mapping) → IsGathered g m → IsTrue (list_all (λ p. is_full_member g.dimension p.value) g.parts.pairs)
pairs_full g m is = pairs_pass (λ p. is_full_member g.dimension p.value) g.parts.pairs (λ p k.
    let alike : list_all (is_full_member g.dimension) (value_of m.named p.cube) ≡ true = ap (λ n. list_all (is_full_member n) (value_of m.named p.cube)) is.dimension ∙ value_full m.dimension m.named p.cube is.is_map.alike in
    member_passes (is_full_member g.dimension) (value_of m.named p.cube) p.value alike (sym (is.kept.pairs p.cube p.value) ∙ k))

named_by : (es : List Naming) (c v : List Factor) (b : Bool) → names es c ≡ b → has cell_cmp (value_of es c) v ≡ true → b ≡ true
named_by es c v true e h = refl
named_by es c v false e h = absurd (true≢false (sym h ∙ ap (λ l. has cell_cmp l v) (no_value es c e)))

pub pairs_named : (g : Gathered) (m : Mapping) → IsGathered g m → IsTrue (list_all (λ p. has cell_cmp g.parts.cubes p.cube) g.parts.pairs)
pairs_named g m is = pairs_pass (λ p. has cell_cmp g.parts.cubes p.cube) g.parts.pairs (λ p k.
    is.kept.cubes p.cube ∙ sym (names_has m.named p.cube) ∙ named_by m.named p.cube p.value (names m.named p.cube) refl (sym (is.kept.pairs p.cube p.value) ∙ k))

pub whole_map : (g : Gathered) (m found : Mapping) → IsGathered g m → IsCubeMap found → found.dimension ≡ g.dimension → ((q : List Factor) → names found.named q ≡ has cell_cmp g.parts.cubes q)
    → ((q v : List Factor) → has cell_cmp (value_of found.named q) v ≡ is_pair g.parts.pairs q v) → found ≡ m
whole_map g m found is map d n v =
    same_maps found m map is.is_map (d ∙ is.dimension) (λ q. n q ∙ is.kept.cubes q ∙ sym (names_has m.named q)) (λ q w. v q w ∙ is.kept.pairs q w)

empty_map : IsCubeMap no_namings
unfolding IsStrictlySortedBy
empty_map = record { axes = omega arith; unknown = λ e. refl; alike = refl; sorted = tt; sorted_values = tt; few = omega arith; few_pairs = omega arith }

pub empty_gathered : (g : Gathered) → g.dimension ≡ 0 → g.parts.cubes ≡ [] → g.parts.pairs ≡ [] → IsGathered g no_namings
unfolding IsStrictlySortedBy
empty_gathered g e f h = record {
  dimension = e;
  kept = record {
    cubes = λ c. ap (λ l. has cell_cmp l c) f;
    pairs = λ c w. ap (λ l. is_pair l c w) h;
    count = ap length f;
    pair_count = ap length h;
    sorted = tt;
    sorted_values = tt;
  };
  is_map = empty_map;
}
