-- What an element does to the named cubes: what is named, the values, how many there are.
use Rattle.std.proofs.Common.{◌≡◌, ◌+◌, List, [], ◌∷◌, ◌++◌, length, Bool, true, false, ◌&&◌, if◌then◌else◌, refl, sym, ap, ◌∙◌, subst, arith, length-append}
use Rattle.std.specs.List.{list_all, AllByRecursion}
use Rattle.std.specs.List.Sorted.{IsStrictlySortedBy}
use Rattle.std.specs.Ordering.{is_eq}
use Rattle.std.specs.declared.cmp.Ordering.{Ordering}
use Rattle.std.specs.declared.cmp.Ordering.TheVariants.{Less, Equal, Greater}
use Rattle.elem_cubes.specs.Cells.{Factor, same_cell}
use Rattle.elem_cubes.specs.Order.{cell_cmp}
use Rattle.elem_cubes.specs.OrderLemmas.{cell_cmp_total, cell_cmp_ties, cell_cmp_itself, same_cell-Decides, tied_cells, cell_refl}
use Rattle.cube_sets.specs.Sorted.{by_order, inserted}
use Rattle.cube_sets.proofs.Merging.{by_cases, above, below_further, sorted-inserted}
use Rattle.cube_sets.proofs.Steps.{absent}
use Rattle.cube_maps.specs.CubeMaps.{Naming, names, value_of, cubes_of, pairs_of}
use Rattle.cube_maps.proofs.Naming.{names_has}
use Rattle.cube_maps.proofs.Made.{no_value}
use Rattle.map_files.specs.Elements.{joined, changed}

pub below_is_other : (q c : List Factor) → cell_cmp q c ≡ Less → same_cell q c ≡ false
below_is_other q c e = cell_cmp_ties q c ∙ ap is_eq e

-- no cube of a list that begins above it is the cube
above_unnamed : (q : List Factor) (e : Naming) (es : List Naming) → cell_cmp q e.cube ≡ Less → IsStrictlySortedBy cell_cmp (cubes_of (e ∷ es)) → names (e ∷ es) q ≡ false
unfolding IsStrictlySortedBy
above_unnamed q e es lt s = names_has (e ∷ es) q ∙ absent cell_cmp cell_cmp_total q (cubes_of (e ∷ es)) (lt, below_further cell_cmp cell_cmp_total q e.cube (cubes_of es) lt s.0)

pub above_empty : (q : List Factor) (e : Naming) (es : List Naming) → cell_cmp q e.cube ≡ Less → IsStrictlySortedBy cell_cmp (cubes_of (e ∷ es)) → value_of (e ∷ es) q ≡ []
above_empty q e es lt s = no_value (e ∷ es) q (above_unnamed q e es lt s)

pub rest_sorted : (e : Naming) (es : List Naming) → IsStrictlySortedBy cell_cmp (cubes_of (e ∷ es)) → IsStrictlySortedBy cell_cmp (cubes_of es)
unfolding IsStrictlySortedBy
rest_sorted e es s = s.1

-- the first cube is not named again
pub first_once : (e : Naming) (es : List Naming) → IsStrictlySortedBy cell_cmp (cubes_of (e ∷ es)) → value_of es e.cube ≡ []
unfolding IsStrictlySortedBy
first_once e es s = no_value es e.cube (names_has es e.cube ∙ absent cell_cmp cell_cmp_total e.cube (cubes_of es) s.0)

-- ---- the cubes

ordered_cubes : (o : Ordering) (a b c : List Naming) → cubes_of (by_order o a b c) ≡ by_order o (cubes_of a) (cubes_of b) (cubes_of c)
ordered_cubes Less a b c = refl
ordered_cubes Equal a b c = refl
ordered_cubes Greater a b c = refl

pub cubes_changed : (q : List Factor) (f : List (List Factor) → List (List Factor)) (es : List Naming) → cubes_of (changed q f es) ≡ inserted cell_cmp q (cubes_of es)
cubes_changed q f [] = refl
cubes_changed q f (e ∷ es) =
    ordered_cubes (cell_cmp q e.cube) (record { cube = q; value = f [] } ∷ e ∷ es) (record { cube = e.cube; value = f e.value } ∷ es) (e ∷ changed q f es)
    ∙ ap (λ l. by_order (cell_cmp q e.cube) (q ∷ e.cube ∷ cubes_of es) (e.cube ∷ cubes_of es) (e.cube ∷ l)) (cubes_changed q f es)

pub sorted_changed : (q : List Factor) (f : List (List Factor) → List (List Factor)) (es : List Naming) → IsStrictlySortedBy cell_cmp (cubes_of es)
    → IsStrictlySortedBy cell_cmp (cubes_of (changed q f es))
sorted_changed q f es s = subst (IsStrictlySortedBy cell_cmp) (sym (cubes_changed q f es)) (sorted-inserted cell_cmp cell_cmp_total q (cubes_of es) s)

-- ---- the values

chosen_value : (f : List (List Factor) → List (List Factor)) (e : Naming) (es : List Naming) (c : List Factor) (b : Bool)
    → (if b then f e.value else value_of es c) ≡ (if b then f (value_of (e ∷ es) e.cube) else (if b then e.value else value_of es c))
chosen_value f e es c true = ap f (ap (λ b. if b then e.value else value_of es e.cube) (sym (cell_refl e.cube)))
chosen_value f e es c false = refl

later_value : (q c : List Factor) (f : List (List Factor) → List (List Factor)) (e : Naming) (es : List Naming) (b : Bool) → same_cell e.cube c ≡ b → same_cell e.cube q ≡ false
    → value_of (changed q f es) c ≡ (if same_cell q c then f (value_of es q) else value_of es c)
    → (if b then e.value else value_of (changed q f es) c) ≡ (if same_cell q c then f (value_of es q) else (if b then e.value else value_of es c))
later_value q c f e es true k other more =
    let apart : same_cell q c ≡ false = differs (same_cell q c) refl in
    ap (λ b. if b then f (value_of es q) else e.value) (sym apart)
  where
    differs : (b : Bool) → same_cell q c ≡ b → b ≡ false
    differs true h = sym (sym other ∙ ap (same_cell e.cube) ((same_cell-Decides q c).0 h) ∙ k)
    differs false h = refl
later_value q c f e es false k other more = more

pub value_changed : (q : List Factor) (f : List (List Factor) → List (List Factor)) (es : List Naming) (c : List Factor) → IsStrictlySortedBy cell_cmp (cubes_of es)
    → value_of (changed q f es) c ≡ (if same_cell q c then f (value_of es q) else value_of es c)
value_changed q f [] c s = refl
value_changed q f (e ∷ es) c s =
    by_cases {A = List Naming} (λ l. value_of l c ≡ (if same_cell q c then f (value_of (e ∷ es) q) else value_of (e ∷ es) c)) (cell_cmp q e.cube) _ _ _
    (λ lt. ap (λ v. if same_cell q c then f v else value_of (e ∷ es) c) (sym (above_empty q e es lt s)))
    (λ same. let is : e.cube ≡ q = sym (tied_cells q e.cube same) in
    chosen_value f e es c (same_cell e.cube c) ∙ ap (λ x. if same_cell x c then f (value_of (e ∷ es) x) else value_of (e ∷ es) c) is)
    (λ gt. let other : same_cell e.cube q ≡ false = below_is_other e.cube q (above cell_cmp cell_cmp_total q e.cube gt) in
    later_value q c f e es (same_cell e.cube c) refl other (value_changed q f es c (rest_sorted e es s))
    ∙ ap (λ b. if same_cell q c then f (if b then e.value else value_of es q) else value_of (e ∷ es) c) (sym other))

-- ---- how many pairs there are

own_value : (e : Naming) (es : List Naming) → value_of (e ∷ es) e.cube ≡ e.value
own_value e es = ap (λ b. if b then e.value else value_of es e.cube) (cell_refl e.cube)

pub pairs_changed : (q : List Factor) (f : List (List Factor) → List (List Factor)) (es : List Naming) → IsStrictlySortedBy cell_cmp (cubes_of es)
    → length (pairs_of (changed q f es)) + length (value_of es q) ≡ length (pairs_of es) + length (f (value_of es q))
pairs_changed q f [] s = omega (arith, length-append (f []) [])
pairs_changed q f (e ∷ es) s =
    by_cases {A = List Naming} (λ l. length (pairs_of l) + length (value_of (e ∷ es) q) ≡ length (pairs_of (e ∷ es)) + length (f (value_of (e ∷ es) q))) (cell_cmp q e.cube) _ _ _
    (λ lt. rw (above_empty q e es lt s) (omega (arith, length-append (f []) (pairs_of (e ∷ es)))))
    (λ same. let is : value_of (e ∷ es) q ≡ e.value = ap (value_of (e ∷ es)) (tied_cells q e.cube same) ∙ own_value e es in
    rw is (omega (arith, length-append (f e.value) (pairs_of es), length-append e.value (pairs_of es))))
    (λ gt. let other : same_cell e.cube q ≡ false = below_is_other e.cube q (above cell_cmp cell_cmp_total q e.cube gt) in
    let is : value_of (e ∷ es) q ≡ value_of es q = ap (λ b. if b then e.value else value_of es q) other in
    let more = pairs_changed q f es (rest_sorted e es s) in
    rw is (omega (arith, more, length-append e.value (pairs_of es), length-append e.value (pairs_of (changed q f es)))))

-- ---- one change after the other

pub fused : (q : List Factor) (f g : List (List Factor) → List (List Factor)) (es : List Naming) → changed q g (changed q f es) ≡ changed q (λ l. g (f l)) es
fused q f g [] = rw (cell_cmp_itself q) refl
fused q f g (e ∷ es) = by_test (cell_cmp q e.cube) refl (fused q f g es)
  where
    by_test : (o : Ordering) → cell_cmp q e.cube ≡ o → changed q g (changed q f es) ≡ changed q (λ l. g (f l)) es
        → changed q g (by_order o (record { cube = q; value = f [] } ∷ e ∷ es) (record { cube = e.cube; value = f e.value } ∷ es) (e ∷ changed q f es))
        ≡ by_order o (record { cube = q; value = g (f []) } ∷ e ∷ es) (record { cube = e.cube; value = g (f e.value) } ∷ es) (e ∷ changed q (λ l. g (f l)) es)
    by_test Less k more = rw (cell_cmp_itself q) refl
    by_test Equal k more = rw k refl
    by_test Greater k more = rw k (ap (λ l. e ∷ l) more)

pub joined_more : (vs : List (List Factor)) (v : List Factor) (l : List (List Factor)) → joined (vs ++ v ∷ []) l ≡ inserted cell_cmp v (joined vs l)
joined_more [] v l = refl
joined_more (x ∷ vs) v l = joined_more vs v (inserted cell_cmp x l)

changed_alike : (q : List Factor) (f g : List (List Factor) → List (List Factor)) (es : List Naming) → ((l : List (List Factor)) → f l ≡ g l) → changed q f es ≡ changed q g es
changed_alike q f g [] h = ap (λ v. record { cube = q; value = v } ∷ []) (h [])
changed_alike q f g (e ∷ es) h =
    ap (λ v. by_order (cell_cmp q e.cube) (record { cube = q; value = v } ∷ e ∷ es) (record { cube = e.cube; value = f e.value } ∷ es) (e ∷ changed q f es)) (h [])
    ∙ ap (λ v. by_order (cell_cmp q e.cube) (record { cube = q; value = g [] } ∷ e ∷ es) (record { cube = e.cube; value = v } ∷ es) (e ∷ changed q f es)) (h e.value)
    ∙ ap (λ l. by_order (cell_cmp q e.cube) (record { cube = q; value = g [] } ∷ e ∷ es) (record { cube = e.cube; value = g e.value } ∷ es) (e ∷ l)) (changed_alike q f g es h)

-- an element with one more value
pub one_more : (q : List Factor) (vs : List (List Factor)) (v : List Factor) (es : List Naming)
    → changed q (joined (vs ++ v ∷ [])) es ≡ changed q (inserted cell_cmp v) (changed q (joined vs) es)
one_more q vs v es = changed_alike q (joined (vs ++ v ∷ [])) (λ l. inserted cell_cmp v (joined vs l)) es (joined_more vs v) ∙ sym (fused q (joined vs) (inserted cell_cmp v) es)

-- ---- tests that go through

pub all_changed : (p : Naming → Bool) (q : List Factor) (f : List (List Factor) → List (List Factor)) (es : List Naming) → list_all p es ≡ true
    → p (record { cube = q; value = f [] }) ≡ true → ((e : Naming) → p e ≡ true → p (record { cube = e.cube; value = f e.value }) ≡ true) → list_all p (changed q f es) ≡ true
all_changed p q f [] h new old = rw new refl
all_changed p q f (e ∷ es) h new old =
    let both = and_parts (p e) (list_all p es) h in
    by_cases {A = List Naming} (λ l. list_all p l ≡ true) (cell_cmp q e.cube) _ _ _
    (λ _. rw (new, both.0, both.1) refl)
    (λ _. rw (old e both.0, both.1) refl)
    (λ _. rw (both.0, all_changed p q f es both.1 new old) refl)
  where
    and_parts : (a b : Bool) → (a && b) ≡ true → (a ≡ true) × (b ≡ true)
    and_parts true b h = (refl, h)
    and_parts false b h = cc

pub values_changed : (q : List Factor) (f : List (List Factor) → List (List Factor)) (es : List Naming) → AllByRecursion (λ (e : Naming). IsStrictlySortedBy cell_cmp e.value) es
    → ((l : List (List Factor)) → IsStrictlySortedBy cell_cmp l → IsStrictlySortedBy cell_cmp (f l)) → AllByRecursion (λ (e : Naming). IsStrictlySortedBy cell_cmp e.value) (changed q f es)
unfolding IsStrictlySortedBy
values_changed q f [] h keeps = (keeps [] tt, tt)
values_changed q f (e ∷ es) h keeps =
    by_cases {A = List Naming} (λ l. AllByRecursion (λ (e : Naming). IsStrictlySortedBy cell_cmp e.value) l) (cell_cmp q e.cube) _ _ _
    (λ _. (keeps [] tt, h))
    (λ _. (keeps e.value h.0, h.1))
    (λ _. (h.0, values_changed q f es h.1 keeps))
