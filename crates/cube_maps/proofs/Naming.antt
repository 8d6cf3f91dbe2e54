-- The search for a cube among those that a map names.
use Rattle.std.proofs.Common.{◌≡◌, ℕ, zero, suc, ◌<◌, ◌≤◌, List, [], ◌∷◌, length, get_or, true, false, ◌||◌, Err, refl, sym, ap, ◌∙◌, subst, arith}
use Rattle.std.specs.List.Sorted.{IsStrictlySortedBy, IsBinarySearchResult}
use Rattle.std.specs.Ordering.{is_eq, ordering_index}
use Rattle.std.specs.declared.cmp.Ordering.TheVariants.{Less}
use Rattle.std.proofs.lemmas.List.{get_or-map, length-map}
use Rattle.elem_cubes.specs.Cells.{Factor, same_cell}
use Rattle.elem_cubes.specs.Order.{cell_cmp}
use Rattle.elem_cubes.specs.OrderLemmas.{cell_cmp_total, cell_cmp_ties, same_cell-Decides}
use Rattle.cube_sets.specs.Sorted.{has}
use Rattle.cube_sets.proofs.Sorting.{search_has}
use Rattle.cube_maps.specs.CubeMaps.{Naming, names, value_of, cubes_of}
use Rattle.cube_maps.proofs.Grouping.{below_has}

pub names_has : (es : List Naming) (q : List Factor) → names es q ≡ has cell_cmp (cubes_of es) q
names_has [] q = refl
names_has (e ∷ es) q = ap (λ b. b || names es q) (cell_cmp_ties e.cube q) ∙ ap (λ b. is_eq (cell_cmp e.cube q) || b) (names_has es q)

pub found : (es : List Naming) (i : ℕ) (d : Naming) (q : List Factor) → IsStrictlySortedBy cell_cmp (cubes_of es) → i < length es → (get_or es i d).cube ≡ q
    → (names es q ≡ true) × (value_of es q ≡ (get_or es i d).value)
unfolding IsStrictlySortedBy
found [] i d q s lt h = absurd (omega arith)
found (e ∷ es) zero d q s lt h = let t : same_cell e.cube q ≡ true = (same_cell-Decides e.cube q).1 h in (rw t refl, rw t refl)
found (e ∷ es) (suc i) d q s lt h =
    let rest = found es i d q s.1 (omega arith) h in
    let up : cell_cmp e.cube q ≡ Less = below_has e.cube q (cubes_of es) s.0 (sym (names_has es q) ∙ rest.0) in
    let other : same_cell e.cube q ≡ false = cell_cmp_ties e.cube q ∙ ap is_eq up in
    (rw (other, rest.0) refl, rw other rest.1)

pub not_found : (es : List Naming) (i : ℕ) (q : List Factor) → IsStrictlySortedBy cell_cmp (cubes_of es) → i ≤ length es
    → IsBinarySearchResult (λ e. cell_cmp e.cube q) es (Err i) → names es q ≡ false
not_found es i q s le is =
    let n : length (cubes_of es) ≡ length es = length-map es (λ e. e.cube) in
    names_has es q ∙ sym (search_has cell_cmp cell_cmp_total (cubes_of es) q (Err i) s (subst (λ (m : ℕ). i ≤ m) (sym n) le) (λ rises.
    let at_map : (k : ℕ) (d : Naming) → k < length es → get_or (cubes_of es) k d.cube ≡ (get_or es k d).cube = λ k d lt. get_or-map (λ (e : Naming). e.cube) es k d d.cube lt in
    let parts = is (λ k j d le lt. subst (λ (m : ℕ). m ≤ ordering_index (cell_cmp (get_or es j d).cube q)) (ap (λ y. ordering_index (cell_cmp y q)) (at_map k d (omega arith)))
    (subst (λ (m : ℕ). ordering_index (cell_cmp (get_or (cubes_of es) k d.cube) q) ≤ m) (ap (λ y. ordering_index (cell_cmp y q)) (at_map j d lt))
    (rises k j d.cube le (subst (λ (m : ℕ). j < m) (sym n) lt)))) in (
      λ k d low up. ap (λ y. cell_cmp y q) (at_map k (record { cube = d; value = [] }) (omega arith)) ∙ parts.0 k (record { cube = d; value = [] }) low up,
      λ k d low up. let up' : k < length es = omega arith in ap (λ y. cell_cmp y q) (at_map k (record { cube = d; value = [] }) up') ∙ parts.1 k (record { cube = d; value = [] }) low up',
    )))
