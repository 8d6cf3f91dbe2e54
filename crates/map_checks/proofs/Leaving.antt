-- Values of cubes inside a set and outside it.
use Rattle.std.proofs.Common.{◌≡◌, ⊎_elim, refl, sym, ap, ◌∙◌, subst, arith, List, [], ◌∷◌, length, Bool, true, false, ◌||◌, if◌then◌else◌, Option, Some, None}
use Rattle.std.specs.List.{Contains, AllByRecursion}
use Rattle.std.specs.List.Sorted.{IsStrictlySortedBy}
use Rattle.std.proofs.lemmas.Bool.{true≢false, cases_Bool}
use Rattle.elem_cubes.specs.Cells.{Factor, same_cell}
use Rattle.elem_cubes.specs.Order.{cell_cmp}
use Rattle.elem_cubes.specs.OrderLemmas.{cell_cmp_total}
use Rattle.cube_sets.specs.Sorted.{has}
use Rattle.cube_sets.proofs.Merging.{has-union, sorted-union}
use Rattle.cube_sets.proofs.SameSets.{same_sets}
use Rattle.cell_complex.proofs.Deciding.{has_is, has_from, from_has}
use Rattle.cube_maps.specs.CubeMaps.{Naming, Mapping, IsCubeMap, names, value_of}
use Rattle.cube_maps.proofs.Made.{no_value}
use Rattle.acyclic_values.specs.CarriedMaps.{GoesInto}
use Rattle.map_checks.specs.Firsts.{IsFirstOf, IsFirst, lower_one}
use Rattle.map_checks.specs.Faults.{together, AreNamed, Leaves, IsFirstOutside}
use Rattle.map_checks.proofs.Firsts.{first_of_both}

-- ---- values

sorted_in : (es : List Naming) → AllByRecursion (λ (e : Naming). IsStrictlySortedBy cell_cmp e.value) es → (q : List Factor) → IsStrictlySortedBy cell_cmp (value_of es q)
unfolding IsStrictlySortedBy
sorted_in [] h q = tt
sorted_in (e ∷ es) h q = by_test (same_cell e.cube q) (sorted_in es h.1 q)
  where
    by_test : (b : Bool) → IsStrictlySortedBy cell_cmp (value_of es q) → IsStrictlySortedBy cell_cmp (if b then e.value else value_of es q)
    by_test true more = h.0
    by_test false more = more

pub value_sorted : (m : Mapping) → IsCubeMap m → (q : List Factor) → IsStrictlySortedBy cell_cmp (value_of m.named q)
value_sorted m is = sorted_in m.named is.sorted_values

pub none_unnamed : (map : List Naming) (q : List Factor) → names map q ≡ false → (v : List Factor) → Contains (value_of map q) v → ⊥
none_unnamed map q e v w = let l = ap length (no_value map q e) in omega (arith, w.1, l)

-- ---- being in a set

pub in_set : (set : List (List Factor)) (v : List Factor) → has cell_cmp set v ≡ true → Contains set v
in_set set v e = from_has set v (sym (has_is set v) ∙ e)

pub out_of_set : (set : List (List Factor)) (v : List Factor) → has cell_cmp set v ≡ false → Contains set v → ⊥
out_of_set set v e w = true≢false (sym (has_is set v ∙ has_from set v w) ∙ e)

pub in_either : (y b : List (List Factor)) (v : List Factor) (t : Bool) → t ≡ (has cell_cmp y v || has cell_cmp b v) → t ≡ true → Contains (together y b) v
in_either y b v t e h = in_set (together y b) v (has-union cell_cmp cell_cmp_total y b v ∙ sym e ∙ h)

pub in_neither : (y b : List (List Factor)) (v : List Factor) (t : Bool) → t ≡ (has cell_cmp y v || has cell_cmp b v) → t ≡ false → Contains (together y b) v → ⊥
in_neither y b v t e h = out_of_set (together y b) v (has-union cell_cmp cell_cmp_total y b v ∙ sym e ∙ h)

-- a sorted list with itself
pub together_itself : (a : List (List Factor)) → IsStrictlySortedBy cell_cmp a → together a a ≡ a
together_itself a sorted = same_sets (together a a) a (sorted-union cell_cmp cell_cmp_total a a sorted) sorted (λ q. has-union cell_cmp cell_cmp_total a a q ∙ twice (has cell_cmp a q))
  where
    twice : (b : Bool) → (b || b) ≡ b
    twice true = refl
    twice false = refl

-- ---- cubes with values outside

module _ (map : List Naming) (set : List (List Factor)) where
  -- a cube whose first value outside is known leaves the set, and one that has none does not
  pub leaves : (q : List Factor) (v : List Factor) → IsFirstOf (value_of map q) (λ w. Contains set w → ⊥) v → Leaves map set q
  leaves q v f = (v, record { value = f.there; outside = f.here })

  pub stays : (q : List Factor) → ((v : List Factor) → Contains (value_of map q) v → (Contains set v → ⊥) → ⊥) → Leaves map set q → ⊥
  stays q none l = none l.0 l.1.value l.1.outside

  pub goes_into : (cubes : List (List Factor)) → ((q : List Factor) → Contains cubes q → Leaves map set q → ⊥) → GoesInto map cubes set
  goes_into cubes none q v w h = ⊎_elim
      (λ e. in_set set v e)
      (λ e. absurd (none q w (v, record { value = h; outside = out_of_set set v e })))
      (cases_Bool (has cell_cmp set v))

-- the map names the cubes of which none is the first that is not
pub are_named : (map : List Naming) (cubes : List (List Factor)) → ((q : List Factor) → Contains cubes q → names map q ≡ false → ⊥) → AreNamed map cubes
are_named map cubes none q w = ⊎_elim (λ e. e) (λ e. absurd (none q w e)) (cases_Bool (names map q))

-- ---- two lists together

pub first_cube : (x a : List (List Factor)) (P : List Factor → Type 0) (l r : Option (List Factor)) (q : List Factor) → IsFirst x P l → IsFirst a P r → Some q ≡ lower_one l r → IsFirstOf (together x a) P q
first_cube x a P l r q f g e = subst (IsFirst (together x a) P) (sym e) (first_of_both x a P l r f g)

pub all_named : (map : List Naming) (x a : List (List Factor)) (l r : Option (List Factor)) → IsFirst x (λ q. names map q ≡ false) l → IsFirst a (λ q. names map q ≡ false) r → None ≡ lower_one l r → AreNamed map (together x a)
all_named map x a l r f g e =
    let P : List Factor → Type 0 = λ q. names map q ≡ false in
    are_named map (together x a) (subst (IsFirst (together x a) P) (sym e) (first_of_both x a P l r f g))

module _ (map : List Naming) (a b : List (List Factor)) (sa : IsStrictlySortedBy cell_cmp a) (sb : IsStrictlySortedBy cell_cmp b) where
  pub outside_itself : (q v : List Factor) → IsFirstOutside map (together a a) (together b b) q v → IsFirstOutside map a b q v
  outside_itself q v h =
      subst (λ (l : List (List Factor)). IsFirstOutside map a l q v) (together_itself b sb) (subst (λ (l : List (List Factor)). IsFirstOutside map l (together b b) q v) (together_itself a sa) h)

  pub goes_itself : GoesInto map (together a a) (together b b) → GoesInto map a b
  goes_itself h =
      subst (λ (l : List (List Factor)). GoesInto map a l) (together_itself b sb) (subst (λ (l : List (List Factor)). GoesInto map l (together b b)) (together_itself a sa) h)
