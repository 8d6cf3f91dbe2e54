-- Sorted lists of distinct values: membership by the order, one more value, the values of two
-- lists.
use Rattle.std.specs.Prelude.{Bool, List, [], ◌∷◌, filter}
use Rattle.std.specs.List.{list_any}
use Rattle.std.specs.Ordering.{is_eq}
use Rattle.std.specs.declared.cmp.Ordering.{Ordering}
use Rattle.std.specs.declared.cmp.Ordering.TheVariants.{Less, Equal, Greater}

-- the value is in the list, as the order tells values apart
abbrev pub has : {K : Type 0} → (K → K → Ordering) → List K → K → Bool
has cmp xs d = list_any (λ x. is_eq (cmp x d)) xs

-- one of three, as the order answers
abbrev pub by_order : {A : Type 0} → Ordering → A → A → A → A
by_order Less less equal greater = less
by_order Equal less equal greater = equal
by_order Greater less equal greater = greater

-- the sorted list with one more value, where that is not there
abbrev pub inserted : {K : Type 0} → (K → K → Ordering) → K → List K → List K
inserted cmp c [] = c ∷ []
inserted cmp c (x ∷ xs) = by_order (cmp c x) (c ∷ x ∷ xs) (x ∷ xs) (x ∷ inserted cmp c xs)

-- the values of a list and of a sorted list, sorted
abbrev pub union_of : {K : Type 0} → (K → K → Ordering) → List K → List K → List K
union_of cmp [] ys = ys
union_of cmp (x ∷ xs) ys = inserted cmp x (union_of cmp xs ys)

-- the distinct values of a list, sorted
abbrev pub set_of : {K : Type 0} → (K → K → Ordering) → List K → List K
set_of cmp xs = union_of cmp xs []

-- the values of the first list that the second has
abbrev pub intersection_of : {K : Type 0} → (K → K → Ordering) → List K → List K → List K
intersection_of cmp xs ys = filter (λ x. has cmp ys x) xs
