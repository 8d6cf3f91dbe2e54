-- The cubes and pairs that are kept of a map, as one more comes.
use Rattle.std.proofs.Common.{◌≡◌, ℕ, ◌+◌, List, [], ◌∷◌, ◌++◌, length, take, Bool, true, false, ◌||◌, ◌&&◌, if◌then◌else◌, refl, sym, ap, ◌∙◌, subst, arith, length-append}
use Rattle.std.specs.List.{list_any, AllByRecursion}
use Rattle.std.specs.List.Sorted.{IsStrictlySortedBy}
use Rattle.std.specs.Ordering.{is_eq}
use Rattle.std.proofs.lemmas.Bool.{true≢false}
use Rattle.std.proofs.lemmas.List.Folds.{list_any-append}
use Rattle.std.proofs.lemmas.List.{length-map}
use Rattle.elem_cubes.specs.Cells.{Factor, same_cell}
use Rattle.elem_cubes.specs.Order.{cell_cmp}
use Rattle.elem_cubes.specs.OrderLemmas.{cell_cmp_total, cell_cmp_ties, cell_cmp_itself, same_cell-Decides}
use Rattle.cube_sets.specs.Sorted.{has, inserted}
use Rattle.cube_sets.proofs.Merging.{has-inserted, sorted-inserted}
use Rattle.cube_maps.specs.CubeMaps.{Naming, names, value_of, cubes_of, pairs_of}
use Rattle.cube_maps.specs.Parts.{is_pair}
use Rattle.cube_maps.specs.declared.pair.Pair.{Pair}
use Rattle.cube_maps.proofs.Naming.{names_has}
use Rattle.grid_files.proofs.Gathering.{joined_members, joined_count, length_there, length_new}
use Rattle.map_files.specs.Elements.{joined, changed}
use Rattle.map_files.specs.Kept.{MapParts, same_pair, with_cube, with_pair, IsKept}
use Rattle.map_files.proofs.Elements.{cubes_changed, sorted_changed, value_changed, pairs_changed, values_changed, one_more}

false_from : (b : Bool) → (b ≡ true → ⊥) → b ≡ false
false_from true f = absurd (f refl)
false_from false f = refl

same_turned : (x y : List Factor) → same_cell x y ≡ same_cell y x
same_turned x y = by_test (same_cell y x) refl
  where
    by_test : (b : Bool) → same_cell y x ≡ b → same_cell x y ≡ b
    by_test true e = (same_cell-Decides x y).1 (sym ((same_cell-Decides y x).0 e))
    by_test false e = false_from (same_cell x y) (λ t. true≢false (sym ((same_cell-Decides y x).1 (sym ((same_cell-Decides x y).0 t))) ∙ e))

-- the test of the set of pairs
there_is : (p : Pair) (pairs : List Pair) → list_any (same_pair p) pairs ≡ is_pair pairs p.cube p.value
there_is p [] = refl
there_is p (x ∷ xs) =
    ap (λ b. (b && same_cell p.value x.value) || list_any (same_pair p) xs) (same_turned p.cube x.cube)
    ∙ ap (λ b. (same_cell x.cube p.cube && b) || list_any (same_pair p) xs) (same_turned p.value x.value)
    ∙ ap (λ b. (same_cell x.cube p.cube && same_cell x.value p.value) || b) (there_is p xs)

count_cubes : (es : List Naming) → length (cubes_of es) ≡ length es
count_cubes es = length-map es (λ (e : Naming). e.cube)

same_value : (q c : List Factor) (es : List Naming) (b : Bool) → same_cell q c ≡ b → (if b then value_of es q else value_of es c) ≡ value_of es c
same_value q c es true e = ap (value_of es) ((same_cell-Decides q c).0 e)
same_value q c es false e = refl

pub cube_kept : (q : List Factor) (old now : MapParts) (es : List Naming) → now.cubes ≡ with_cube q old.cubes → now.pairs ≡ old.pairs → IsKept old es → IsKept now (changed q (joined []) es)
cube_kept q old now es c p k =
    let cubes = cubes_changed q (joined []) es in
    let n = k.pair_count in
    record {
      cubes = λ x. ap (λ l. has cell_cmp l x) c ∙ joined_members q old.cubes (cubes_of es) (list_any (same_cell q) old.cubes) x refl k.cubes ∙ ap (λ l. has cell_cmp l x) (sym cubes);
      pairs = λ x w. ap (λ l. is_pair l x w) p ∙ k.pairs x w ∙ ap (λ l. has cell_cmp l w) (sym (value_changed q (joined []) es x k.sorted ∙ same_value q x es (same_cell q x) refl));
      count = ap length c ∙ joined_count q old.cubes (cubes_of es) (list_any (same_cell q) old.cubes) refl k.cubes (k.count ∙ sym (count_cubes es)) k.sorted
          ∙ ap length (sym cubes) ∙ count_cubes (changed q (joined []) es);
      pair_count = omega (arith, ap length p, pairs_changed q (joined []) es k.sorted);
      sorted = sorted_changed q (joined []) es k.sorted;
      sorted_values = values_changed q (joined []) es k.sorted_values (λ l s. s);
    }

named_there : (es : List Naming) (q : List Factor) → names es q ≡ true → has cell_cmp (cubes_of es) q ≡ true
named_there es q h = sym (names_has es q) ∙ h

or_there : (q c : List Factor) (es : List Naming) (b : Bool) → is_eq (cell_cmp q c) ≡ b → has cell_cmp (cubes_of es) q ≡ true → (b || has cell_cmp (cubes_of es) c) ≡ has cell_cmp (cubes_of es) c
or_there q c es true e h = sym (ap (has cell_cmp (cubes_of es)) (sym ((same_cell-Decides q c).0 (cell_cmp_ties q c ∙ e))) ∙ h)
or_there q c es false e h = refl

-- membership with one more pair
more_pairs : (p : Pair) (pairs : List Pair) (c w : List Factor) (there : Bool) → is_pair pairs p.cube p.value ≡ there
    → is_pair (if there then pairs else pairs ++ p ∷ []) c w ≡ ((same_cell p.cube c && same_cell p.value w) || is_pair pairs c w)
more_pairs p pairs c w true e = both_ways (same_cell p.cube c) (same_cell p.value w) refl refl
  where
    both_ways : (a b : Bool) → same_cell p.cube c ≡ a → same_cell p.value w ≡ b → is_pair pairs c w ≡ ((a && b) || is_pair pairs c w)
    both_ways true true f g = ap (λ x. is_pair pairs x w) (sym ((same_cell-Decides p.cube c).0 f)) ∙ ap (is_pair pairs p.cube) (sym ((same_cell-Decides p.value w).0 g)) ∙ e
    both_ways true false f g = refl
    both_ways false b f g = refl
more_pairs p pairs c w false e = list_any-append (λ x. same_cell x.cube c && same_cell x.value w) pairs (p ∷ []) ∙ or_turned (is_pair pairs c w) (same_cell p.cube c && same_cell p.value w)
  where
    or_turned : (a b : Bool) → (a || (b || false)) ≡ (b || a)
    or_turned true true = refl
    or_turned true false = refl
    or_turned false true = refl
    or_turned false false = refl

-- the value with one more cube, as the pairs tell it
told_value : (q v c w : List Factor) (es : List Naming) (b : Bool) → same_cell q c ≡ b
    → has cell_cmp (if b then inserted cell_cmp v (value_of es q) else value_of es c) w ≡ ((b && same_cell v w) || has cell_cmp (value_of es c) w)
told_value q v c w es true e =
    has-inserted cell_cmp cell_cmp_total v (value_of es q) w ∙ ap (λ b. b || has cell_cmp (value_of es q) w) (sym (cell_cmp_ties v w))
    ∙ ap (λ x. same_cell v w || has cell_cmp (value_of es x) w) ((same_cell-Decides q c).0 e)
told_value q v c w es false e = refl

-- how many pairs, where the pair is there or is new
pair_there : (pairs : List Pair) (p : Pair) (q v : List Factor) (es : List Naming) (there : Bool) → has cell_cmp (value_of es q) v ≡ there → length pairs ≡ length (pairs_of es)
    → IsStrictlySortedBy cell_cmp (value_of es q) → length (pairs_of (changed q (inserted cell_cmp v) es)) + length (value_of es q) ≡ length (pairs_of es) + length (inserted cell_cmp v (value_of es q))
    → length (if there then pairs else pairs ++ p ∷ []) ≡ length (pairs_of (changed q (inserted cell_cmp v) es))
pair_there pairs p q v es true e n s m = omega (arith, length_there v (value_of es q) s e)
pair_there pairs p q v es false e n s m = omega (arith, length_new v (value_of es q) e, length-append pairs (p ∷ []))

pub pair_kept : (q v : List Factor) (old now : MapParts) (es : List Naming) → now.cubes ≡ old.cubes → now.pairs ≡ with_pair (record { cube = q; value = v }) old.pairs
    → IsStrictlySortedBy cell_cmp (value_of es q) → names es q ≡ true → IsKept old es → IsKept now (changed q (inserted cell_cmp v) es)
pair_kept q v old now es c p sv named k =
    let cubes = cubes_changed q (inserted cell_cmp v) es in
    let here = named_there es q named in
    let at : list_any (same_pair (record { cube = q; value = v })) old.pairs ≡ is_pair old.pairs q v = there_is (record { cube = q; value = v }) old.pairs in
    let pairs : now.pairs ≡ (if is_pair old.pairs q v then old.pairs else old.pairs ++ record { cube = q; value = v } ∷ []) = p ∙ ap (λ b. if b then old.pairs else old.pairs ++ record { cube = q; value = v } ∷ []) at in
    record {
      cubes = λ x. ap (λ l. has cell_cmp l x) c ∙ k.cubes x ∙ sym (ap (λ l. has cell_cmp l x) cubes ∙ has-inserted cell_cmp cell_cmp_total q (cubes_of es) x ∙ or_there q x es (is_eq (cell_cmp q x)) refl here);
      pairs = λ x w. ap (λ l. is_pair l x w) pairs ∙ more_pairs (record { cube = q; value = v }) old.pairs x w (is_pair old.pairs q v) refl
          ∙ ap (λ b. (same_cell q x && same_cell v w) || b) (k.pairs x w)
          ∙ sym (ap (λ l. has cell_cmp l w) (value_changed q (inserted cell_cmp v) es x k.sorted) ∙ told_value q v x w es (same_cell q x) refl);
      count = ap length c ∙ k.count ∙ sym (count_cubes es) ∙ sym (length_there q (cubes_of es) k.sorted here) ∙ ap length (sym cubes) ∙ count_cubes (changed q (inserted cell_cmp v) es);
      pair_count = ap length pairs ∙ pair_there old.pairs (record { cube = q; value = v }) q v es (is_pair old.pairs q v) (sym (k.pairs q v)) k.pair_count sv (pairs_changed q (inserted cell_cmp v) es k.sorted);
      sorted = sorted_changed q (inserted cell_cmp v) es k.sorted;
      sorted_values = values_changed q (inserted cell_cmp v) es k.sorted_values (λ l s. sorted-inserted cell_cmp cell_cmp_total v l s);
    }

pub value_sorted : (es : List Naming) (q : List Factor) → AllByRecursion (λ (e : Naming). IsStrictlySortedBy cell_cmp e.value) es → IsStrictlySortedBy cell_cmp (value_of es q)
unfolding IsStrictlySortedBy
value_sorted [] q h = tt
value_sorted (e ∷ es) q h = by_test (same_cell e.cube q) (value_sorted es q h.1)
  where
    by_test : (b : Bool) → IsStrictlySortedBy cell_cmp (value_of es q) → IsStrictlySortedBy cell_cmp (if b then e.value else value_of es q)
    by_test true more = h.0
    by_test false more = more

changed_named : (q : List Factor) (f : List (List Factor) → List (List Factor)) (es : List Naming) → names (changed q f es) q ≡ true
changed_named q f es =
    names_has (changed q f es) q ∙ ap (λ l. has cell_cmp l q) (cubes_changed q f es) ∙ has-inserted cell_cmp cell_cmp_total q (cubes_of es) q
    ∙ ap (λ b. b || has cell_cmp (cubes_of es) q) (ap is_eq (cell_cmp_itself q))

-- one more value of an element
pub step_kept : (q : List Factor) (values : List (List Factor)) (i : ℕ) (v : List Factor) (old now : MapParts) (es : List Naming)
    → take (i + 1) values ≡ take i values ++ v ∷ [] → now.cubes ≡ old.cubes → now.pairs ≡ with_pair (record { cube = q; value = v }) old.pairs
    → IsKept old (changed q (joined (take i values)) es) → IsKept now (changed q (joined (take (i + 1) values)) es)
step_kept q values i v old now es e c p k =
    let more = pair_kept q v old now (changed q (joined (take i values)) es) c p (value_sorted (changed q (joined (take i values)) es) q k.sorted_values)
    (changed_named q (joined (take i values)) es) k in
    subst (IsKept now) (sym (ap (λ l. changed q (joined l) es) e ∙ one_more q (take i values) v es)) more
