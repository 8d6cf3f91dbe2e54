-- Pairs in order, grouped by their cubes.
use Rattle.std.proofs.Common.{◌≡◌, ◌⊎◌, inl, inr, ⊎_elim, List, [], ◌∷◌, Bool, true, false, ◌||◌, refl, sym, ap, ◌∙◌}
use Rattle.std.specs.List.{list_all, AllByRecursion}
use Rattle.std.specs.List.Sorted.{IsStrictlySortedBy}
use Rattle.std.specs.Ordering.{is_eq, ordering_then}
use Rattle.std.specs.declared.cmp.Ordering.{Ordering}
use Rattle.std.specs.declared.cmp.Ordering.TheVariants.{Less, Equal, Greater}
use Rattle.std.proofs.lemmas.Bool.{true≢false}
use Rattle.elem_cubes.specs.Cells.{Factor, same_cell}
use Rattle.elem_cubes.specs.Order.{cell_cmp}
use Rattle.elem_cubes.specs.OrderLemmas.{cell_cmp_total, cell_cmp_ties, same_cell-Decides, tied_cells}
use Rattle.cube_sets.specs.Sorted.{has}
use Rattle.cube_sets.proofs.Merging.{IsBelow, above'}
use Rattle.cube_sets.proofs.Sorting.{equal_from, and_true}
use Rattle.cube_maps.specs.Parts.{values_in, first_values, other_pairs, pair_cmp}
use Rattle.cube_maps.specs.declared.pair.Pair.{Pair}

by_parts : (o r : Ordering) → ordering_then o r ≡ Less → (o ≡ Less) ⊎ ((o ≡ Equal) × (r ≡ Less))
by_parts Less r e = inl refl
by_parts Equal r e = inr (refl, e)
by_parts Greater r e = cc

pub below_is_other : (q c : List Factor) → cell_cmp q c ≡ Less → same_cell c q ≡ false
below_is_other q c e = cell_cmp_ties c q ∙ ap is_eq (above' cell_cmp cell_cmp_total q c e)

-- below a cube that is below a later pair
still_below : (q : List Factor) (p x : Pair) → cell_cmp q p.cube ≡ Less → pair_cmp p x ≡ Less → cell_cmp q x.cube ≡ Less
still_below q p x e f = ⊎_elim
    (λ less. cell_cmp_total.trans q p.cube x.cube e less)
    (λ same. ap (cell_cmp q) (sym (tied_cells p.cube x.cube same.0)) ∙ e)
    (by_parts (cell_cmp p.cube x.cube) (cell_cmp p.value x.value) f)

none_later : (q : List Factor) (p : Pair) (ps : List Pair) → cell_cmp q p.cube ≡ Less → AllByRecursion (λ x. pair_cmp p x ≡ Less) ps → values_in ps q ≡ []
none_later q p [] e h = refl
none_later q p (x ∷ xs) e h =
    let other : same_cell x.cube q ≡ false = below_is_other q x.cube (still_below q p x e h.0) in
    rw other (none_later q p xs e h.1)

one_below : (q x c : List Factor) (b : Bool) (rest : Bool) → is_eq (cell_cmp x c) ≡ b → cell_cmp q x ≡ Less → (b || rest) ≡ true → (rest ≡ true → cell_cmp q c ≡ Less) → cell_cmp q c ≡ Less
one_below q x c true rest e f h more = ap (cell_cmp q) (sym (tied_cells x c (equal_from cell_cmp cell_cmp_total (cell_cmp x c) e))) ∙ f
one_below q x c false rest e f h more = more h

pub below_has : (q c : List Factor) (qs : List (List Factor)) → IsBelow cell_cmp q qs → has cell_cmp qs c ≡ true → cell_cmp q c ≡ Less
below_has q c [] h k = cc
below_has q c (x ∷ xs) h k = one_below q x c (is_eq (cell_cmp x c)) (has cell_cmp xs c) refl h.0 k (below_has q c xs h.1)

in_rest : (q c : List Factor) (qs : List (List Factor)) → is_eq (cell_cmp q c) ≡ false → has cell_cmp (q ∷ qs) c ≡ true → has cell_cmp qs c ≡ true
in_rest q c qs e h = sym (ap (λ b. b || has cell_cmp qs c) e) ∙ h

rest_later : (q : List Factor) (qs : List (List Factor)) (p : Pair) (ps : List Pair) → cell_cmp q p.cube ≡ Less → AllByRecursion (λ x. pair_cmp p x ≡ Less) ps
    → list_all (λ x. has cell_cmp (q ∷ qs) x.cube) ps ≡ true → list_all (λ x. has cell_cmp qs x.cube) ps ≡ true
rest_later q qs p [] e h k = refl
rest_later q qs p (x ∷ xs) e h k =
    let both = and_true (has cell_cmp (q ∷ qs) x.cube) (list_all (λ x. has cell_cmp (q ∷ qs) x.cube) xs) k in
    let here : has cell_cmp qs x.cube ≡ true = in_rest q x.cube qs (ap is_eq (still_below q p x e h.0)) both.0 in
    let more : list_all (λ x. has cell_cmp qs x.cube) xs ≡ true = rest_later q qs p xs e h.1 both.1 in
    rw (here, more) refl

-- what the first pairs of a sorted list are, where all begin with the cube or with one of those above it
pub record IsGrouped (q : List Factor) (qs : List (List Factor)) (ps : List Pair) : Type 0 where
  pub first : first_values ps q ≡ values_in ps q
  pub others : (c : List Factor) → has cell_cmp qs c ≡ true → values_in ps c ≡ values_in (other_pairs ps q) c
  pub left : list_all (λ p. has cell_cmp qs p.cube) (other_pairs ps q) ≡ true

grouped_step : (q : List Factor) (qs : List (List Factor)) (p : Pair) (ps : List Pair) (b : Bool) → same_cell p.cube q ≡ b → IsBelow cell_cmp q qs
    → AllByRecursion (λ x. pair_cmp p x ≡ Less) ps → has cell_cmp (q ∷ qs) p.cube ≡ true → list_all (λ x. has cell_cmp (q ∷ qs) x.cube) ps ≡ true
    → IsGrouped q qs ps → IsGrouped q qs (p ∷ ps)
grouped_step q qs p ps true e below later here all more =
    let same : p.cube ≡ q = (same_cell-Decides p.cube q).0 e in
    record {
      first = rw e (ap (λ l. p.value ∷ l) more.first);
      others = λ c h.
          let up : cell_cmp p.cube c ≡ Less = ap (λ z. cell_cmp z c) same ∙ below_has q c qs below h in
          let other : same_cell p.cube c ≡ false = cell_cmp_ties p.cube c ∙ ap is_eq up in
          rw (other, e) (more.others c h);
      left = rw e more.left;
    }
grouped_step q qs p ps false e below later here all more =
    let apart : is_eq (cell_cmp q p.cube) ≡ false = sym (cell_cmp_ties q p.cube) ∙ swapped_same q p.cube e in
    let there : has cell_cmp qs p.cube ≡ true = in_rest q p.cube qs apart here in
    let up : cell_cmp q p.cube ≡ Less = below_has q p.cube qs below there in
    let rest : list_all (λ x. has cell_cmp qs x.cube) ps ≡ true = rest_later q qs p ps up later all in
    record {
      first = rw e (sym (none_later q p ps up later));
      others = λ c h. rw e refl;
      left = rw e (rw (there, rest) refl);
    }
  where
    false_from : (b : Bool) → (b ≡ true → ⊥) → b ≡ false
    false_from true f = absurd (f refl)
    false_from false f = refl

    swapped_same : (x y : List Factor) → same_cell y x ≡ false → same_cell x y ≡ false
    swapped_same x y e = false_from (same_cell x y) (λ t. true≢false (sym ((same_cell-Decides y x).1 (sym ((same_cell-Decides x y).0 t))) ∙ e))

pub grouped : (q : List Factor) (qs : List (List Factor)) (ps : List Pair) → IsBelow cell_cmp q qs → IsStrictlySortedBy pair_cmp ps
    → list_all (λ p. has cell_cmp (q ∷ qs) p.cube) ps ≡ true → IsGrouped q qs ps
unfolding IsStrictlySortedBy
grouped q qs [] below sorted all = record { first = refl; others = λ c h. refl; left = refl }
grouped q qs (p ∷ ps) below sorted all =
    let both = and_true (has cell_cmp (q ∷ qs) p.cube) (list_all (λ p. has cell_cmp (q ∷ qs) p.cube) ps) all in
    grouped_step q qs p ps (same_cell p.cube q) refl below sorted.0 both.0 both.1 (grouped q qs ps below sorted.1 both.1)
