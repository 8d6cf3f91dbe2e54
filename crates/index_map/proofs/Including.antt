-- Members of sets that are inside others, and the first that is not.
use Rattle.std.proofs.Common.{◌≡◌, refl, sym, ap, ◌∙◌, subst, ⊎_elim, List, false, cond, Option, Some}
use Rattle.std.specs.List.{Contains}
use Rattle.std.specs.List.Sorted.{IsStrictlySortedBy}
use Rattle.std.specs.Ordering.{ord_min, is_lt}
use Rattle.std.specs.declared.cmp.Ordering.{Ordering}
use Rattle.std.specs.declared.cmp.Ordering.TheVariants.{Less, Equal, Greater}
use Rattle.std.proofs.lemmas.Bool.{cases_Bool}
use Rattle.elem_cubes.specs.Cells.{Factor}
use Rattle.elem_cubes.specs.Order.{cell_cmp}
use Rattle.elem_cubes.specs.OrderLemmas.{cell_cmp_total, cell_cmp_itself, tied_cells}
use Rattle.cube_sets.specs.Sorted.{has, by_order}
use Rattle.cube_sets.proofs.Merging.{above}
use Rattle.map_checks.specs.Firsts.{IsFirst, IsFirstOf, lower_one}
use Rattle.map_checks.specs.Faults.{together}
use Rattle.map_checks.proofs.Firsts.{together_to, left_together, right_together, first_of_both}
use Rattle.map_checks.proofs.Leaving.{in_set, out_of_set, together_itself}
use Rattle.index_map.specs.Inclusion.{IsIncluded}
use Rattle.index_map.proofs.Inclusions.{together_append}

pub outside_both : (y b : List (List Factor)) (q : List Factor) → has cell_cmp y q ≡ false → has cell_cmp b q ≡ false → Contains (together y b) q → ⊥
outside_both y b q e f w = ⊎_elim (λ l. out_of_set y q e l) (λ l. out_of_set b q f l) (together_to y b q w)

-- what is not outside a set is inside
inside : (set : List (List Factor)) (q : List Factor) → ((Contains set q → ⊥) → ⊥) → Contains set q
inside set q none = ⊎_elim (λ e. in_set set q e) (λ e. absurd (none (out_of_set set q e))) (cases_Bool (has cell_cmp set q))

pub all_inside : (cubes set : List (List Factor)) → ((q : List Factor) → Contains cubes q → (Contains set q → ⊥) → ⊥) → (q : List Factor) → Contains cubes q → Contains set q
all_inside cubes set none q w = inside set q (none q w)

pub included_by : (x a y b : List (List Factor)) → ((q : List Factor) → Contains (together x a) q → Contains (together y b) q) → ((q : List Factor) → Contains a q → Contains b q) → IsIncluded x a y b
included_by x a y b whole subset = record {
  whole = λ q w. (together_append y b q).1 (together_to y b q (whole q (⊎_elim (λ l. left_together x a q l) (λ l. right_together x a q l) ((together_append x a q).0 w))));
  subset = subset;
}

-- the lesser of two cells is the lower one
lower_by : (q r : List Factor) (o v : Ordering) → cell_cmp q r ≡ o → cell_cmp r q ≡ v → by_order o (Some q) (Some q) (Some r) ≡ Some (cond (is_lt v) r q)
lower_by q r Less Less e f = let t = cell_cmp_total.trans q r q e f in let i = cell_cmp_itself q in absurd (cc)
lower_by q r Less Equal e f = refl
lower_by q r Less Greater e f = refl
lower_by q r Equal Less e f = let t = ap (cell_cmp r) (tied_cells q r e) in let i = cell_cmp_itself r in absurd (cc)
lower_by q r Equal Equal e f = refl
lower_by q r Equal Greater e f = refl
lower_by q r Greater Less e f = refl
lower_by q r Greater Equal e f = let t = above cell_cmp cell_cmp_total q r e in absurd (cc)
lower_by q r Greater Greater e f = let t = above cell_cmp cell_cmp_total q r e in absurd (cc)

pub lower_is_min : (q r : List Factor) → lower_one (Some q) (Some r) ≡ Some (ord_min cell_cmp q r)
lower_is_min q r = lower_by q r (cell_cmp q r) (cell_cmp r q) refl refl

pub min_is : (left right : Option (List Factor)) (q r s : List Factor) → left ≡ Some q → right ≡ Some r → s ≡ ord_min cell_cmp q r → lower_one left right ≡ Some s
min_is left right q r s e f g = ap (λ o. lower_one o right) e ∙ ap (lower_one (Some q)) f ∙ lower_is_min q r ∙ ap Some (sym g)

-- ---- the first outside

pub first_in_both : (x a : List (List Factor)) (P : List Factor → Type 0) (left right first : Option (List Factor)) → IsFirst x P left → IsFirst a P right → lower_one left right ≡ first → IsFirst (together x a) P first
first_in_both x a P left right first f g e = subst (IsFirst (together x a) P) e (first_of_both x a P left right f g)

-- outside a set with itself is outside it
module _ (a b : List (List Factor)) (sorted : IsStrictlySortedBy cell_cmp b) where
  pub subset_first : (q : List Factor) → IsFirstOf a (λ r. Contains (together b b) r → ⊥) q → IsFirstOf a (λ r. Contains b r → ⊥) q
  subset_first q = subst (λ (set : List (List Factor)). IsFirstOf a (λ r. Contains set r → ⊥) q) (together_itself b sorted)

  pub subset_none : ((q : List Factor) → Contains a q → (Contains (together b b) q → ⊥) → ⊥) → (q : List Factor) → Contains a q → Contains b q
  subset_none none q w = subst (λ (set : List (List Factor)). Contains set q) (together_itself b sorted) (all_inside a (together b b) none q w)
