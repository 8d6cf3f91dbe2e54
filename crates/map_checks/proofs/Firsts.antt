-- The first cell of a sorted list of which something holds, by its place; and of two lists together.
use Rattle.std.proofs.Common.{◌≡◌, ◌⊎◌, inl, inr, ⊎_elim, ℕ, ◌<◌, ◌+◌, refl, sym, ap, ◌∙◌, subst, arith, List, [], length, get_or, Bool, true, false, ◌||◌, Option, Some, None}
use Rattle.std.specs.List.{Contains}
use Rattle.std.specs.List.Sorted.{IsStrictlySortedBy}
use Rattle.std.specs.declared.cmp.Ordering.{Ordering}
use Rattle.std.specs.declared.cmp.Ordering.TheVariants.{Less, Equal, Greater}
use Rattle.std.proofs.lemmas.Bool.{cases_lt, or_cases}
use Rattle.std.proofs.lemmas.List.{get_or_default}
use Rattle.std.proofs.lemmas.Map.Keys.{Less-from_sorted}
use Rattle.elem_cubes.specs.Cells.{Factor}
use Rattle.elem_cubes.specs.Order.{cell_cmp}
use Rattle.elem_cubes.specs.OrderLemmas.{cell_cmp_total, cell_cmp_itself, tied_cells}
use Rattle.elem_cubes.specs.Laws.{cell_at}
use Rattle.cube_sets.specs.Sorted.{has, by_order}
use Rattle.cube_sets.proofs.Merging.{has-union, above}
use Rattle.cell_complex.proofs.Deciding.{has_is, has_from, from_has}
use Rattle.map_checks.specs.Firsts.{IsFirstOf, IsFirst, lower_one}
use Rattle.map_checks.specs.Faults.{together}

-- ---- the order

not_itself : (q : List Factor) → cell_cmp q q ≡ Less → ⊥
not_itself q e = let t = cell_cmp_itself q in cc

not_both : (q r : List Factor) → cell_cmp q r ≡ Less → cell_cmp r q ≡ Less → ⊥
not_both q r e f = not_itself q (cell_cmp_total.trans q r q e f)

-- ---- by places

-- the cell at a place is the first where no earlier one will do
pub first_at : (cells : List (List Factor)) → IsStrictlySortedBy cell_cmp cells → (P : List Factor → Type 0) (i : ℕ) (q : List Factor) → i < length cells → q ≡ get_or cells i q → P q
    → ((k : ℕ) → k < i → P (cell_at cells k) → ⊥) → IsFirstOf cells P q
first_at cells sorted P i q l e here none = record {
  there = (i, l, sym e);
  here = here;
  before = λ r w p less.
      let r_at : r ≡ cell_at cells w.0 = sym w.2 ∙ get_or_default cells w.0 r [] w.1 in
      let q_at : q ≡ cell_at cells i = e ∙ get_or_default cells i q [] l in
      ⊎_elim
      (λ lt. none w.0 lt (subst P r_at p))
      (λ ge. ⊎_elim
      (λ lt. not_both q r (ap (λ s. cell_cmp s r) q_at ∙ ap (cell_cmp (cell_at cells i)) r_at ∙ Less-from_sorted cell_cmp cells i w.0 [] sorted lt w.1) less)
      (λ le. let same : w.0 ≡ i = omega arith in not_itself q (ap (λ s. cell_cmp s q) (q_at ∙ ap (cell_at cells) (sym same) ∙ sym r_at) ∙ less))
      (cases_lt i w.0))
      (cases_lt w.0 i);
}

-- there is none where no place will do
pub none_at : (cells : List (List Factor)) (P : List Factor → Type 0) → ((k : ℕ) → k < length cells → P (cell_at cells k) → ⊥) → (q : List Factor) → Contains cells q → P q → ⊥
none_at cells P none q w p = none w.0 w.1 (subst P (sym w.2 ∙ get_or_default cells w.0 q [] w.1) p)

-- one place more
pub none_more : (cells : List (List Factor)) (P : List Factor → Type 0) (i : ℕ) (q : List Factor) → i < length cells → q ≡ get_or cells i q → (P q → ⊥)
    → ((k : ℕ) → k < i → P (cell_at cells k) → ⊥) → (k : ℕ) → k < i + 1 → P (cell_at cells k) → ⊥
none_more cells P i q l e here none k lt p = ⊎_elim
    (λ less. none k less p)
    (λ ge. let same : k ≡ i = omega arith in here (subst P (ap (cell_at cells) same ∙ sym (e ∙ get_or_default cells i q [] l)) p))
    (cases_lt k i)

-- ---- two lists

pub together_to : (x a : List (List Factor)) (q : List Factor) → Contains (together x a) q → Contains x q ⊎ Contains a q
together_to x a q w = ⊎_elim
    (λ e. inl (from_has x q (sym (has_is x q) ∙ e)))
    (λ e. inr (from_has a q (sym (has_is a q) ∙ e)))
    (or_cases (has cell_cmp x q) (has cell_cmp a q) (sym (has-union cell_cmp cell_cmp_total x a q) ∙ has_is (together x a) q ∙ has_from (together x a) q w))

pub left_together : (x a : List (List Factor)) (q : List Factor) → Contains x q → Contains (together x a) q
left_together x a q w = from_has (together x a) q (sym (has_is (together x a) q) ∙ has-union cell_cmp cell_cmp_total x a q ∙ ap (λ b. b || has cell_cmp a q) (has_is x q ∙ has_from x q w))

or_true : (b : Bool) → (b || true) ≡ true
or_true true = refl
or_true false = refl

pub right_together : (x a : List (List Factor)) (q : List Factor) → Contains a q → Contains (together x a) q
right_together x a q w = from_has (together x a) q (sym (has_is (together x a) q) ∙ has-union cell_cmp cell_cmp_total x a q ∙ ap (λ b. has cell_cmp x q || b) (has_is a q ∙ has_from a q w) ∙ or_true (has cell_cmp x q))

module _ (x a : List (List Factor)) (P : List Factor → Type 0) where
  from_left : (q : List Factor) → IsFirstOf x P q → ((r : List Factor) → Contains a r → P r → cell_cmp r q ≡ Less → ⊥) → IsFirstOf (together x a) P q
  from_left q f rest = record {
    there = left_together x a q f.there;
    here = f.here;
    before = λ r w p less. ⊎_elim (λ v. f.before r v p less) (λ v. rest r v p less) (together_to x a r w);
  }

  from_right : (q : List Factor) → IsFirstOf a P q → ((r : List Factor) → Contains x r → P r → cell_cmp r q ≡ Less → ⊥) → IsFirstOf (together x a) P q
  from_right q f rest = record {
    there = right_together x a q f.there;
    here = f.here;
    before = λ r w p less. ⊎_elim (λ v. rest r v p less) (λ v. f.before r v p less) (together_to x a r w);
  }

  by_cmp : (q r : List Factor) → IsFirstOf x P q → IsFirstOf a P r → (o : Ordering) → cell_cmp q r ≡ o → IsFirst (together x a) P (by_order o (Some q) (Some q) (Some r))
  by_cmp q r f g Less e = from_left q f (λ s w p less. g.before s w p (cell_cmp_total.trans s q r less e))
  by_cmp q r f g Equal e = from_left q f (λ s w p less. g.before s w p (ap (cell_cmp s) (sym (tied_cells q r e)) ∙ less))
  by_cmp q r f g Greater e = from_right r g (λ s w p less. f.before s w p (cell_cmp_total.trans s r q less (above cell_cmp cell_cmp_total q r e)))

  -- the first of two lists together is the lower one of the first of each
  pub first_of_both : (left right : Option (List Factor)) → IsFirst x P left → IsFirst a P right → IsFirst (together x a) P (lower_one left right)
  first_of_both None None f g = λ q w p. ⊎_elim (λ v. f q v p) (λ v. g q v p) (together_to x a q w)
  first_of_both None (Some r) f g = from_right r g (λ s w p less. f s w p)
  first_of_both (Some q) None f g = from_left q f (λ s w p less. g s w p)
  first_of_both (Some q) (Some r) f g = by_cmp q r f g (cell_cmp q r) refl
