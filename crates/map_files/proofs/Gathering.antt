-- What one more element makes of the map that is read.
use Rattle.std.proofs.Common.{◌≡◌, ◌⊎◌, inl, inr, ⊎_elim, ℕ, ◌<◌, ◌≤◌, ℤ, List, [], ◌∷◌, length, map, Bool, true, false, ◌&&◌, ◌||◌, ◌==◌, nat_lt, if◌then◌else◌, None, Some, Ok, Err, refl, sym, ap, ◌∙◌, subst, arith}
use Rattle.std.specs.List.{list_any, list_all}
use Rattle.std.proofs.lemmas.List.{length-map}
use Rattle.std.proofs.lemmas.Bool.Decides.{nat_tests}
use Rattle.elem_cubes.specs.declared.range.TheConstants.{MAX_EMBEDDING}
use Rattle.elem_cubes.specs.Cells.{Factor, interval, full_cell, is_file_factor, is_wide}
use Rattle.elem_cubes.specs.Order.{cell_cmp}
use Rattle.cube_sets.specs.Sorted.{inserted}
use Rattle.cube_sets.specs.Sets.{is_member, dimensions_agree}
use Rattle.cube_sets.proofs.SetLemmas.{all-inserted}
use Rattle.cube_sets.proofs.Sorting.{and_true}
use Rattle.cube_maps.specs.CubeMaps.{Mapping, pairs_of, is_full_member, is_naming, IsCubeMap}
use Rattle.cube_maps.specs.declared.parts.TheConstants.{MAP_PAIRS}
use Rattle.grid_files.specs.Items.{cube_cause}
use Rattle.grid_files.specs.SetFile.{no_members}
use Rattle.grid_files.specs.Corners.{IsCorner, IsCellOf}
use Rattle.grid_files.specs.declared.corner.OpenCorner.{OpenCorner}
use Rattle.grid_files.specs.declared.fault.Kind.TheVariants.{Any}
use Rattle.grid_files.specs.declared.fault.TextCause.{TextCause}
use Rattle.grid_files.specs.declared.fault.TextCause.TheVariants.{DimensionTooLarge, MixedDimension, TooMany}
use Rattle.grid_files.proofs.WholeCubes.{full_in_range}
use Rattle.map_files.specs.Elements.{joined, changed, with_element}
use Rattle.map_files.specs.Items.{Item, single, listed, dimension_line, skipped_line, fits, fits_cube, is_long, are_alike, count_cause, element_cause, with_item}
use Rattle.map_files.specs.Openings.{IsClosing, AreCubes}
use Rattle.map_files.specs.Kept.{IsKept}
use Rattle.map_files.specs.Readers.{IsGathered}
use Rattle.map_files.specs.declared.gathered.Gathered.{Gathered}
use Rattle.map_files.specs.declared.opening.Closing.{Closing}
use Rattle.map_files.specs.declared.opening.Closing.TheVariants as closing
use Rattle.map_files.proofs.Elements.{all_changed}

both_true : (a b : Bool) → a ≡ true → b ≡ true → (a && b) ≡ true
both_true a b h k = rw (h, k) refl

cause_by : (m : Mapping) (q : List ℤ) (vs : List (List ℤ)) (b : Bool) → list_any is_long (q ∷ vs) ≡ false → are_alike m q vs ≡ b
    → element_cause m q vs ≡ (if b then count_cause (with_element m (full_cell q) (map full_cell vs)) else Some MixedDimension)
cause_by m q vs b short alike =
    ap (λ a. if a then Some DimensionTooLarge else if are_alike m q vs then count_cause (with_element m (full_cell q) (map full_cell vs)) else Some MixedDimension) short
    ∙ ap (λ a. if a then count_cause (with_element m (full_cell q) (map full_cell vs)) else Some MixedDimension) alike

size_of : (q : List ℤ) (vs : List (List ℤ)) (cube : List Factor) (values : List (List Factor)) → AreCubes q vs cube values → length cube ≡ length q
size_of q vs cube values a = ap length a.left ∙ length-map q interval

lengths_same : (n k : ℕ) (vs : List (List ℤ)) → n ≡ k → list_all (λ v. length v == k) vs ≡ list_all (λ c. length c == n) (map full_cell vs)
lengths_same n k [] e = refl
lengths_same n k (v ∷ vs) e =
    ap (λ l. (l == k) && list_all (λ v. length v == k) vs) (sym (length-map v interval))
    ∙ ap (λ l. (length (full_cell v) == l) && list_all (λ v. length v == k) vs) (sym e)
    ∙ ap (λ b. (length (full_cell v) == n) && b) (lengths_same n k vs e)

values_same : (q : List ℤ) (vs : List (List ℤ)) (cube : List Factor) (values : List (List Factor)) → AreCubes q vs cube values
    → list_all (λ v. length v == length q) vs ≡ list_all (λ c. length c == length cube) values
values_same q vs cube values a = lengths_same (length cube) (length q) vs (size_of q vs cube values a) ∙ ap (list_all (λ c. length c == length cube)) (sym a.listed)

-- ---- why it is refused

pub mixed_known : (m : Mapping) (g : Gathered) (q : List ℤ) (vs : List (List ℤ)) (cube : List Factor) (values : List (List Factor)) → IsGathered g m → AreCubes q vs cube values
    → (g.dimension ≡ 0 → ⊥) → (g.dimension ≡ length cube → ⊥) → element_cause m q vs ≡ Some MixedDimension
mixed_known m g q vs cube values is a some other =
    let n = size_of q vs cube values a in
    let e = is.dimension in
    let ne : m.dimension ≡ length q → ⊥ = λ h. other (omega arith) in
    let nz : m.dimension ≡ 0 → ⊥ = λ h. some (omega arith) in
    let p = a.fitting in
    cause_by m q vs false a.short (ap (λ b. b && list_all (λ v. length v == length q) vs) (apart m.dimension (length q) ne nz (some_numbers q (and_true (fits_cube q) (list_all fits_cube vs) p).0)))
  where
    apart : (d n : ℕ) → (d ≡ n → ⊥) → (d ≡ 0 → ⊥) → (n ≡ 0 → ⊥) → dimensions_agree d n ≡ false
    apart d n f g h = grind (arith, nat_tests)

    some_numbers : (xs : List ℤ) → fits_cube xs ≡ true → length xs ≡ 0 → ⊥
    some_numbers [] h e = cc
    some_numbers (x ∷ xs) h e = absurd (omega arith)

pub mixed_values : (m : Mapping) (q : List ℤ) (vs : List (List ℤ)) (cube : List Factor) (values : List (List Factor)) → AreCubes q vs cube values
    → list_all (λ c. length c == length cube) values ≡ false → element_cause m q vs ≡ Some MixedDimension
mixed_values m q vs cube values a h =
    cause_by m q vs false a.short (ap (λ b. dimensions_agree m.dimension (length q) && b) (values_same q vs cube values a ∙ h) ∙ no_and (dimensions_agree m.dimension (length q)))
  where
    no_and : (a : Bool) → (a && false) ≡ false
    no_and true = refl
    no_and false = refl

alike_by : (m : Mapping) (g : Gathered) (q : List ℤ) (vs : List (List ℤ)) (cube : List Factor) (values : List (List Factor)) → IsGathered g m → AreCubes q vs cube values
    → (g.dimension ≡ 0) ⊎ (g.dimension ≡ length cube) → list_all (λ c. length c == length cube) values ≡ true → are_alike m q vs ≡ true
alike_by m g q vs cube values is a agree h =
    both_true (dimensions_agree m.dimension (length q)) (list_all (λ v. length v == length q) vs)
    (agreeing m.dimension (length q) (⊎_elim (λ e. inl (sym is.dimension ∙ e)) (λ e. inr (sym is.dimension ∙ e ∙ size_of q vs cube values a)) agree))
    (values_same q vs cube values a ∙ h)
  where
    agreeing : (d n : ℕ) → (d ≡ 0) ⊎ (d ≡ n) → dimensions_agree d n ≡ true
    agreeing d n h = grind (arith, nat_tests)

-- the element as it was kept
element_kept : (m : Mapping) (now : Gathered) (q : List ℤ) (vs : List (List ℤ)) (cube : List Factor) (values : List (List Factor)) → AreCubes q vs cube values
    → IsKept now.parts (changed cube (joined values) m.named) → IsKept now.parts (changed (full_cell q) (joined (map full_cell vs)) m.named)
element_kept m now q vs cube values a k =
    subst (λ (l : List (List Factor)). IsKept now.parts (changed (full_cell q) (joined l) m.named)) a.listed
    (subst (λ (c : List Factor). IsKept now.parts (changed c (joined values) m.named)) a.left k)

too_many_by : (m : Mapping) → (MAP_PAIRS < length m.named) ⊎ (MAP_PAIRS < length (pairs_of m.named)) → count_cause m ≡ Some TooMany
too_many_by m h = ap (λ b. if b then Some TooMany else None) (⊎_elim
    (λ lt. let t : nat_lt MAP_PAIRS (length m.named) ≡ true = grind (arith, nat_tests) in ap (λ b. b || nat_lt MAP_PAIRS (length (pairs_of m.named))) t)
    (λ lt. let t : nat_lt MAP_PAIRS (length (pairs_of m.named)) ≡ true = grind (arith, nat_tests) in ap (λ b. nat_lt MAP_PAIRS (length m.named) || b) t ∙ any_or (nat_lt MAP_PAIRS (length m.named))) h)
  where
    any_or : (a : Bool) → (a || true) ≡ true
    any_or true = refl
    any_or false = refl

not_too_many : (m : Mapping) → length m.named ≤ MAP_PAIRS → length (pairs_of m.named) ≤ MAP_PAIRS → count_cause m ≡ None
not_too_many m h k =
    let t : nat_lt MAP_PAIRS (length m.named) ≡ false = grind (arith, nat_tests) in
    let u : nat_lt MAP_PAIRS (length (pairs_of m.named)) ≡ false = grind (arith, nat_tests) in
    ap (λ b. if b then Some TooMany else None) (ap (λ b. b || nat_lt MAP_PAIRS (length (pairs_of m.named))) t ∙ u)

pub too_many : (m : Mapping) (old now : Gathered) (q : List ℤ) (vs : List (List ℤ)) (cube : List Factor) (values : List (List Factor)) → IsGathered old m → AreCubes q vs cube values
    → (old.dimension ≡ 0) ⊎ (old.dimension ≡ length cube) → list_all (λ c. length c == length cube) values ≡ true → IsKept now.parts (changed cube (joined values) m.named)
    → (MAP_PAIRS < length now.parts.cubes) ⊎ (MAP_PAIRS < length now.parts.pairs) → element_cause m q vs ≡ Some TooMany
too_many m old now q vs cube values is a agree alike k many =
    let kept = element_kept m now q vs cube values a k in
    cause_by m q vs true a.short (alike_by m old q vs cube values is a agree alike)
    ∙ too_many_by (with_element m (full_cell q) (map full_cell vs)) (⊎_elim (λ h. inl (subst (λ (n : ℕ). MAP_PAIRS < n) kept.count h)) (λ h. inr (subst (λ (n : ℕ). MAP_PAIRS < n) kept.pair_count h)) many)

-- ---- what the map becomes

full_wide : (xs : List ℤ) → list_all is_wide (full_cell xs) ≡ true
full_wide [] = refl
full_wide (x ∷ xs) = full_wide xs

full_member : (n : ℕ) (xs : List ℤ) → fits_cube xs ≡ true → length (full_cell xs) ≡ n → is_full_member n (full_cell xs) ≡ true
full_member n xs h e =
    let t : (length (full_cell xs) == n) ≡ true = grind (arith, nat_tests) in
    both_true (is_member n (full_cell xs)) (list_all is_wide (full_cell xs)) (both_true (length (full_cell xs) == n) (list_all is_file_factor (full_cell xs)) t (full_in_range xs h)) (full_wide xs)

full_members : (n : ℕ) (vs : List (List ℤ)) → list_all fits_cube vs ≡ true → list_all (λ c. length c == n) (map full_cell vs) ≡ true → list_all (is_full_member n) (map full_cell vs) ≡ true
full_members n [] h k = refl
full_members n (v ∷ vs) h k =
    let fit = and_true (fits_cube v) (list_all fits_cube vs) h in
    let len = and_true (length (full_cell v) == n) (list_all (λ c. length c == n) (map full_cell vs)) k in
    let e : length (full_cell v) ≡ n = same_number (length (full_cell v)) n len.0 in
    both_true (is_full_member n (full_cell v)) (list_all (is_full_member n) (map full_cell vs)) (full_member n v fit.0 e) (full_members n vs fit.1 len.1)
  where
    same_number : (a b : ℕ) → (a == b) ≡ true → a ≡ b
    same_number a b h = grind (arith, nat_tests)

all_joined : (p : List Factor → Bool) (vs l : List (List Factor)) → list_all p vs ≡ true → list_all p l ≡ true → list_all p (joined vs l) ≡ true
all_joined p [] l h k = k
all_joined p (v ∷ vs) l h k = let both = and_true (p v) (list_all p vs) h in all_joined p vs (inserted cell_cmp v l) both.1 (all-inserted cell_cmp p v l both.0 k)

known_alike : (m : Mapping) (n : ℕ) → IsCubeMap m → (m.dimension ≡ 0) ⊎ (m.dimension ≡ n) → list_all (is_naming n) m.named ≡ true
known_alike m n is agree = ⊎_elim (λ e. ap (list_all (is_naming n)) (is.unknown e)) (λ e. ap (λ d. list_all (is_naming d) m.named) (sym e) ∙ is.alike) agree

element_map : (m : Mapping) (now : Gathered) (q : List ℤ) (vs : List (List ℤ)) → IsCubeMap m → IsKept now.parts (changed (full_cell q) (joined (map full_cell vs)) m.named)
    → (m.dimension ≡ 0) ⊎ (m.dimension ≡ length (full_cell q)) → 1 ≤ length (full_cell q) → length (full_cell q) ≤ MAX_EMBEDDING
    → is_full_member (length (full_cell q)) (full_cell q) ≡ true → list_all (is_full_member (length (full_cell q))) (map full_cell vs) ≡ true
    → length now.parts.cubes ≤ MAP_PAIRS → length now.parts.pairs ≤ MAP_PAIRS → IsCubeMap (with_element m (full_cell q) (map full_cell vs))
element_map m now q vs is kept agree some axes cube values few few_pairs =
    let n = length (full_cell q) in
    record {
      axes = axes;
      unknown = λ e. absurd (omega arith);
      alike = all_changed (is_naming n) (full_cell q) (joined (map full_cell vs)) m.named (known_alike m n is agree)
          (both_true (is_full_member n (full_cell q)) (list_all (is_full_member n) (joined (map full_cell vs) [])) cube (all_joined (is_full_member n) (map full_cell vs) [] values refl))
          (λ e h. let parts = and_true (is_full_member n e.cube) (list_all (is_full_member n) e.value) h in
          both_true (is_full_member n e.cube) (list_all (is_full_member n) (joined (map full_cell vs) e.value)) parts.0 (all_joined (is_full_member n) (map full_cell vs) e.value values parts.1));
      sorted = kept.sorted;
      sorted_values = kept.sorted_values;
      few = subst (λ (k : ℕ). k ≤ MAP_PAIRS) kept.count few;
      few_pairs = subst (λ (k : ℕ). k ≤ MAP_PAIRS) kept.pair_count few_pairs;
    }

pub element_joins : (m : Mapping) (old now : Gathered) (q : List ℤ) (vs : List (List ℤ)) (cube : List Factor) (values : List (List Factor)) → IsGathered old m → AreCubes q vs cube values
    → (old.dimension ≡ 0) ⊎ (old.dimension ≡ length cube) → list_all (λ c. length c == length cube) values ≡ true → IsKept now.parts (changed cube (joined values) m.named)
    → now.dimension ≡ length cube → 1 ≤ length cube → length cube ≤ MAX_EMBEDDING → length now.parts.cubes ≤ MAP_PAIRS → length now.parts.pairs ≤ MAP_PAIRS
    → (element_cause m q vs ≡ None) × IsGathered now (with_item m (listed q vs))
element_joins m old now q vs cube values is a agree alike k dimension some axes few few_pairs =
    let kept = element_kept m now q vs cube values a k in
    let size : length cube ≡ length (full_cell q) = ap length a.left in
    let fit = and_true (fits_cube q) (list_all fits_cube vs) a.fitting in
    let lens : list_all (λ c. length c == length (full_cell q)) (map full_cell vs) ≡ true =
    ap (λ n. list_all (λ c. length c == n) (map full_cell vs)) (sym size) ∙ ap (list_all (λ c. length c == length cube)) (sym a.listed) ∙ alike in (
      cause_by m q vs true a.short (alike_by m old q vs cube values is a agree alike)
          ∙ not_too_many (with_element m (full_cell q) (map full_cell vs)) (subst (λ (n : ℕ). n ≤ MAP_PAIRS) kept.count few) (subst (λ (n : ℕ). n ≤ MAP_PAIRS) kept.pair_count few_pairs),
      record {
        dimension = dimension ∙ size;
        kept = kept;
        is_map = element_map m now q vs is.is_map kept (⊎_elim (λ e. inl (sym is.dimension ∙ e)) (λ e. inr (sym is.dimension ∙ e ∙ size)) agree)
            (subst (λ (n : ℕ). 1 ≤ n) size some) (subst (λ (n : ℕ). n ≤ MAX_EMBEDDING) size axes)
            (full_member (length (full_cell q)) q fit.0 refl) (full_members (length (full_cell q)) vs fit.1 lens) few few_pairs;
      },
    )

-- ---- corners that are too long

pub long_left : (m : Mapping) (q : List ℤ) (vs : List (List ℤ)) → is_long q ≡ true → element_cause m q vs ≡ Some DimensionTooLarge
long_left m q vs h =
    ap (λ b. if b || list_any is_long vs then Some DimensionTooLarge else if are_alike m q vs then count_cause (with_element m (full_cell q) (map full_cell vs)) else Some MixedDimension) h

pub long_value : (m : Mapping) (q : List ℤ) (vs : List (List ℤ)) → list_any is_long vs ≡ true → element_cause m q vs ≡ Some DimensionTooLarge
long_value m q vs h =
    ap (λ b. if b then Some DimensionTooLarge else if are_alike m q vs then count_cause (with_element m (full_cell q) (map full_cell vs)) else Some MixedDimension)
    (ap (λ b. is_long q || b) h ∙ any_or (is_long q))
  where
    any_or : (a : Bool) → (a || true) ≡ true
    any_or true = refl
    any_or false = refl

pub long_from : (q : List ℤ) (cause : TextCause) → IsCellOf (length q) (Some (full_cell q)) (Err cause) → is_long q ≡ true
long_from q cause h = by_test (is_long q) refl
  where
    by_test : (b : Bool) → is_long q ≡ b → b ≡ true
    by_test true e = refl
    by_test false e =
        let agree : dimensions_agree 0 (length (full_cell q)) ≡ true = grind (arith, nat_tests) in
        let none : cube_cause Any no_members (length q) (Some (full_cell q)) ≡ None = rw (e, agree) refl in
        let wrong : None ≡ Some cause = sym none ∙ h Any no_members in cc

pub short_from : (q : List ℤ) (cell : List Factor) → IsCellOf (length q) (Some (full_cell q)) (Ok cell) → (is_long q ≡ false) × (cell ≡ full_cell q) × (list_all is_file_factor cell ≡ true)
short_from q cell h = let t : is_long q ≡ false = not_long (length q) h.1 in (t, some_same (full_cell q) cell h.0, h.2)
  where
    not_long : (n : ℕ) → n ≤ MAX_EMBEDDING → nat_lt MAX_EMBEDDING n ≡ false
    not_long n h = grind (arith, nat_tests)

    some_same : (a b : List Factor) → Some a ≡ Some b → b ≡ a
    some_same a b e = cc

-- ---- what is known of a closing is known of its item

pub single_item : (P : Item → Type 0) (vs : List (List ℤ)) (c : Closing) (left value : OpenCorner) (item : Item) → c ≡ closing.Single left value → IsClosing vs c item → fits item ≡ true
    → ((q v : List ℤ) → IsCorner left q → IsCorner value v → vs ≡ [] → fits_cube q ≡ true → fits_cube v ≡ true → P (single q v)) → P item
single_item P vs c left value item e h = by_item item (subst (λ (c : Closing). IsClosing vs c item) e h)
  where
    by_item : (item : Item) → IsClosing vs (closing.Single left value) item → fits item ≡ true
        → ((q v : List ℤ) → IsCorner left q → IsCorner value v → vs ≡ [] → fits_cube q ≡ true → fits_cube v ≡ true → P (single q v)) → P item
    by_item (single q v) h fit f = let both = and_true (fits_cube q) (fits_cube v) fit in f q v h.0 h.1 h.2 both.0 both.1
    by_item (listed q us) h fit f = absurd h
    by_item (dimension_line z) h fit f = absurd h
    by_item skipped_line h fit f = absurd h

pub listed_item : (P : Item → Type 0) (vs : List (List ℤ)) (c : Closing) (left : OpenCorner) (item : Item) → c ≡ closing.Listed left → IsClosing vs c item → fits item ≡ true
    → ((q : List ℤ) → IsCorner left q → fits (listed q vs) ≡ true → P (listed q vs)) → P item
listed_item P vs c left item e h = by_item item (subst (λ (c : Closing). IsClosing vs c item) e h)
  where
    by_item : (item : Item) → IsClosing vs (closing.Listed left) item → fits item ≡ true → ((q : List ℤ) → IsCorner left q → fits (listed q vs) ≡ true → P (listed q vs)) → P item
    by_item (single q v) h fit f = absurd h
    by_item (listed q us) h fit f = subst (λ (l : List (List ℤ)). P (listed q l)) (sym h.1) (f q h.0 (ap (λ l. fits (listed q l)) (sym h.1) ∙ fit))
    by_item (dimension_line z) h fit f = absurd h
    by_item skipped_line h fit f = absurd h

pub fits_one : (q v : List ℤ) → fits_cube q ≡ true → fits_cube v ≡ true → fits (listed q (v ∷ [])) ≡ true
fits_one q v h k = rw (h, k) refl

-- the cubes of a left corner and of corners that are not too long
pub are_cubes : (q : List ℤ) (vs : List (List ℤ)) (cube : List Factor) (values : List (List Factor)) → IsCellOf (length q) (Some (full_cell q)) (Ok cube) → fits (listed q vs) ≡ true
    → list_any is_long vs ≡ false → values ≡ map full_cell vs → AreCubes q vs cube values
are_cubes q vs cube values h fit short e =
    let s = short_from q cube h in
    record { left = s.1; listed = e; short = ap (λ b. b || list_any is_long vs) s.0 ∙ short; in_range = s.2; fitting = fit }
