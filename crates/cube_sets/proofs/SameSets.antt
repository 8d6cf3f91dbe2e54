-- Two sorted lists with the same members are one list.
use Rattle.std.proofs.Common.{◌≡◌, List, [], ◌∷◌, Bool, true, false, ◌||◌, refl, sym, ap, ◌∙◌}
use Rattle.std.specs.List.Sorted.{IsStrictlySortedBy}
use Rattle.std.specs.Ordering.{is_eq}
use Rattle.std.specs.declared.cmp.Ordering.{Ordering}
use Rattle.std.specs.declared.cmp.Ordering.TheVariants.{Less, Equal, Greater}
use Rattle.std.proofs.lemmas.Bool.{true≢false}
use Rattle.std.proofs.lemmas.Cmp.{tied_itself}
use Rattle.elem_cubes.specs.Cells.{Factor}
use Rattle.elem_cubes.specs.Order.{cell_cmp}
use Rattle.elem_cubes.specs.OrderLemmas.{cell_cmp_total, tied_cells}
use Rattle.cube_sets.specs.Sorted.{has}
use Rattle.cube_sets.specs.Sets.{Members}
use Rattle.cube_sets.proofs.Merging.{IsBelow, above, below_further}
use Rattle.cube_sets.proofs.Sorting.{equal_from}
use Rattle.cube_sets.proofs.Steps.{absent}
use Rattle.cube_sets.proofs.SetLemmas.{has_alike}

pub has_itself : (x : List Factor) (xs : List (List Factor)) → has cell_cmp (x ∷ xs) x ≡ true
has_itself x xs = ap (λ b. b || has cell_cmp xs x) (ap is_eq (tied_itself cell_cmp_total x))

less_is_absent : (x y : List Factor) (ys : List (List Factor)) → cell_cmp x y ≡ Less → IsBelow cell_cmp y ys → has cell_cmp (y ∷ ys) x ≡ false
less_is_absent x y ys e h = absent cell_cmp cell_cmp_total x (y ∷ ys) (e, below_further cell_cmp cell_cmp_total x y ys e h)

same_tails : (x y : List Factor) (xs ys : List (List Factor)) → IsBelow cell_cmp x xs → IsBelow cell_cmp y ys → x ≡ y → ((c : List Factor) → has cell_cmp (x ∷ xs) c ≡ has cell_cmp (y ∷ ys) c)
    → (c : List Factor) (b : Bool) → is_eq (cell_cmp x c) ≡ b → has cell_cmp xs c ≡ has cell_cmp ys c
same_tails x y xs ys s t e h c true k =
    let same : cell_cmp x c ≡ Equal = equal_from cell_cmp cell_cmp_total (cell_cmp x c) k in
    let same' : cell_cmp y c ≡ Equal = ap (λ z. cell_cmp z c) (sym e) ∙ same in
    sym (has_alike cell_cmp cell_cmp_total x c xs same) ∙ absent cell_cmp cell_cmp_total x xs s
    ∙ sym (absent cell_cmp cell_cmp_total y ys t) ∙ has_alike cell_cmp cell_cmp_total y c ys same'
same_tails x y xs ys s t e h c false k =
    let k' : is_eq (cell_cmp y c) ≡ false = ap (λ z. is_eq (cell_cmp z c)) (sym e) ∙ k in
    sym (ap (λ b. b || has cell_cmp xs c) k) ∙ h c ∙ ap (λ b. b || has cell_cmp ys c) k'

same_heads : (x y : List Factor) (xs ys : List (List Factor)) → IsBelow cell_cmp x xs → IsBelow cell_cmp y ys → ((c : List Factor) → has cell_cmp (x ∷ xs) c ≡ has cell_cmp (y ∷ ys) c)
    → (o : Ordering) → cell_cmp x y ≡ o → x ≡ y
same_heads x y xs ys s t h Less e = absurd (true≢false (sym (has_itself x xs) ∙ h x ∙ less_is_absent x y ys e t))
same_heads x y xs ys s t h Equal e = tied_cells x y e
same_heads x y xs ys s t h Greater e = absurd (true≢false (sym (has_itself y ys) ∙ sym (h y) ∙ less_is_absent y x xs (above cell_cmp cell_cmp_total x y e) s))

pub same_sets : (xs ys : List (List Factor)) → IsStrictlySortedBy cell_cmp xs → IsStrictlySortedBy cell_cmp ys → ((c : List Factor) → has cell_cmp xs c ≡ has cell_cmp ys c) → xs ≡ ys
unfolding IsStrictlySortedBy
same_sets [] [] s t h = refl
same_sets [] (y ∷ ys) s t h = absurd (true≢false (sym (has_itself y ys) ∙ sym (h y)))
same_sets (x ∷ xs) [] s t h = absurd (true≢false (sym (has_itself x xs) ∙ h x))
same_sets (x ∷ xs) (y ∷ ys) s t h =
    let same = same_heads x y xs ys s.0 t.0 h (cell_cmp x y) refl in
    let rest = same_sets xs ys s.1 t.1 (λ c. same_tails x y xs ys s.0 t.0 same h c (is_eq (cell_cmp x c)) refl) in
    ap (λ z. z ∷ xs) same ∙ ap (λ l. y ∷ l) rest

pub same_members : (a b : Members) → a.dimension ≡ b.dimension → a.cells ≡ b.cells → a ≡ b
same_members a b e f = λ i. record { dimension = e i; cells = f i }
