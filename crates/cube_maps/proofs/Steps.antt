-- The steps of the loops that make a map of its parts, or copy one.
use Rattle.std.proofs.Common.{◌≡◌, ℕ, ◌+◌, ◌<◌, ◌≤◌, List, [], ◌∷◌, ◌++◌, length, take, drop, get_or, Bool, true, false, ◌||◌, refl, sym, ap, ◌∙◌, subst, arith, length-append, append_assoc}
use Rattle.std.specs.List.{list_all}
use Rattle.std.specs.List.Sorted.{IsStrictlySortedBy}
use Rattle.std.proofs.lemmas.List.{drop_more, take_more, map-append, drop_all}
use Rattle.elem_cubes.specs.Cells.{Factor, same_cell}
use Rattle.elem_cubes.specs.Order.{cell_cmp}
use Rattle.elem_cubes.specs.OrderLemmas.{cell_cmp_itself}
use Rattle.std.specs.Ordering.{is_eq}
use Rattle.cube_sets.specs.Sorted.{has}
use Rattle.cube_sets.proofs.Merging.{IsBelow}
use Rattle.cube_sets.proofs.Steps.{sorted-drop}
use Rattle.cube_maps.specs.CubeMaps.{Naming, pairs_of}
use Rattle.cube_maps.specs.Parts.{values_in, first_values, other_pairs, namings_in, pair_cmp}
use Rattle.cube_maps.specs.declared.pair.Pair.{Pair}
use Rattle.cube_maps.proofs.Grouping.{grouped}

-- the pairs that begin at a place are told of the cube, up to a later place
pub record IsCollecting (ps : List Pair) (q : List Factor) (start at : ℕ) (values : List (List Factor)) : Type 0 where
  pub first : values ++ first_values (drop at ps) q ≡ first_values (drop start ps) q
  pub others : other_pairs (drop at ps) q ≡ other_pairs (drop start ps) q
  pub count : start + length values ≡ at
  pub within : at ≤ length ps

pub collects : (ps : List Pair) (q : List Factor) (start at : ℕ) (values : List (List Factor)) (p : Pair) → IsCollecting ps q start at values → at < length ps
    → get_or ps at p ≡ p → same_cell p.cube q ≡ true → IsCollecting ps q start (at + 1) (values ++ p.value ∷ [])
collects ps q start at values p c lt here same =
    let cut : drop at ps ≡ p ∷ drop (at + 1) ps = drop_more ps at p lt ∙ ap (λ x. x ∷ drop (at + 1) ps) here in
    let first : first_values (p ∷ drop (at + 1) ps) q ≡ p.value ∷ first_values (drop (at + 1) ps) q = rw same refl in
    let others : other_pairs (p ∷ drop (at + 1) ps) q ≡ other_pairs (drop (at + 1) ps) q = rw same refl in
    let n = c.count in
    record {
      first = append_assoc values (p.value ∷ []) (first_values (drop (at + 1) ps) q) ∙ ap (λ l. values ++ l) (sym first ∙ ap (λ l. first_values l q) (sym cut)) ∙ c.first;
      others = sym others ∙ ap (λ l. other_pairs l q) (sym cut) ∙ c.others;
      count = omega (arith, length-append values (p.value ∷ []));
      within = omega arith;
    }

-- where another cube's pair stands, or none
pub stands : (ps : List Pair) (q : List Factor) (at : ℕ) (p : Pair) → at < length ps → get_or ps at p ≡ p → same_cell p.cube q ≡ false
    → (first_values (drop at ps) q ≡ []) × (other_pairs (drop at ps) q ≡ drop at ps)
stands ps q at p lt here other =
    let cut : drop at ps ≡ p ∷ drop (at + 1) ps = drop_more ps at p lt ∙ ap (λ x. x ∷ drop (at + 1) ps) here in
    (ap (λ l. first_values l q) cut ∙ rw other refl, ap (λ l. other_pairs l q) cut ∙ rw other (sym cut))

pub ends : (ps : List Pair) (q : List Factor) (at : ℕ) → length ps ≤ at → (first_values (drop at ps) q ≡ []) × (other_pairs (drop at ps) q ≡ drop at ps)
ends ps q at le = let none = drop_all at ps le in (ap (λ l. first_values l q) none, ap (λ l. other_pairs l q) none ∙ sym none)

-- the first cubes have their values, and the pairs from a place on belong to the others
pub record IsGrouping (qs : List (List Factor)) (ps : List Pair) (es : List Naming) (k at : ℕ) : Type 0 where
  pub done : es ≡ namings_in (take k qs) ps
  pub rest : (c : List Factor) → has cell_cmp (drop k qs) c ≡ true → values_in ps c ≡ values_in (drop at ps) c
  pub left : list_all (λ p. has cell_cmp (drop k qs) p.cube) (drop at ps) ≡ true
  pub sorted : IsStrictlySortedBy cell_cmp qs
  pub pairs : IsStrictlySortedBy pair_cmp ps
  pub count : length (pairs_of es) ≡ at
  pub within : at ≤ length ps

pairs_more : (es : List Naming) (e : Naming) → length (pairs_of (es ++ e ∷ [])) ≡ length (pairs_of es) + length e.value
pairs_more [] e = omega (arith, length-append e.value [])
pairs_more (x ∷ es) e = omega (arith, pairs_more es e, length-append x.value (pairs_of es), length-append x.value (pairs_of (es ++ e ∷ [])))

below_rest : (q : List Factor) (qs : List (List Factor)) → IsStrictlySortedBy cell_cmp (q ∷ qs) → IsBelow cell_cmp q qs
unfolding IsStrictlySortedBy
below_rest q qs s = s.0

pub groups : (qs : List (List Factor)) (ps : List Pair) (es : List Naming) (k at next : ℕ) (q : List Factor) (value : List (List Factor)) → IsGrouping qs ps es k at → k < length qs
    → get_or qs k q ≡ q → value ≡ first_values (drop at ps) q → drop next ps ≡ other_pairs (drop at ps) q → at + length value ≡ next → next ≤ length ps
    → IsGrouping qs ps (es ++ record { cube = q; value = value } ∷ []) (k + 1) next
groups qs ps es k at next q value g lt here is others count within =
    let cut : drop k qs ≡ q ∷ drop (k + 1) qs = drop_more qs k q lt ∙ ap (λ x. x ∷ drop (k + 1) qs) here in
    let sorted : IsStrictlySortedBy cell_cmp (q ∷ drop (k + 1) qs) = subst (IsStrictlySortedBy cell_cmp) cut (sorted-drop cell_cmp k qs g.sorted) in
    let one = grouped q (drop (k + 1) qs) (drop at ps) (below_rest q (drop (k + 1) qs) sorted) (sorted-drop pair_cmp at ps g.pairs)
    (subst (λ (l : List (List Factor)). list_all (λ p. has cell_cmp l p.cube) (drop at ps) ≡ true) cut g.left) in
    let mine : has cell_cmp (drop k qs) q ≡ true = ap (λ l. has cell_cmp l q) cut ∙ rw (ap is_eq (cell_cmp_itself q)) refl in
    let whole : value ≡ values_in ps q = is ∙ one.first ∙ sym (g.rest q mine) in
    let n = g.count in
    record {
      done = ap (λ l. l ++ record { cube = q; value = value } ∷ []) g.done ∙ ap (λ v. namings_in (take k qs) ps ++ record { cube = q; value = v } ∷ []) whole
          ∙ sym (map-append (λ q. record { cube = q; value = values_in ps q }) (take k qs) (q ∷ []))
          ∙ ap (λ l. namings_in l ps) (sym (take_more qs k q lt ∙ ap (λ x. take k qs ++ x ∷ []) here));
      rest = λ c h. g.rest c (ap (λ l. has cell_cmp l c) cut ∙ later c h) ∙ one.others c h ∙ ap (λ l. values_in l c) (sym others);
      left = ap (λ l. list_all (λ p. has cell_cmp (drop (k + 1) qs) p.cube) l) others ∙ one.left;
      sorted = g.sorted;
      pairs = g.pairs;
      count = omega (arith, pairs_more es (record { cube = q; value = value }));
      within = within;
    }
  where
    or_right : (a b : Bool) → b ≡ true → (a || b) ≡ true
    or_right true b h = refl
    or_right false b h = h

    later : (c : List Factor) → has cell_cmp (drop (k + 1) qs) c ≡ true → has cell_cmp (q ∷ drop (k + 1) qs) c ≡ true
    later c h = or_right (is_eq (cell_cmp q c)) (has cell_cmp (drop (k + 1) qs) c) h

pub groups_begin : (qs : List (List Factor)) (ps : List Pair) → IsStrictlySortedBy cell_cmp qs → IsStrictlySortedBy pair_cmp ps
    → list_all (λ p. has cell_cmp qs p.cube) ps ≡ true → IsGrouping qs ps [] 0 0
groups_begin qs ps s t h = record {
  done = refl;
  rest = λ c h. refl;
  left = h;
  sorted = s;
  pairs = t;
  count = refl;
  within = omega arith;
}
