-- The owners of cells: one more, those of all faces of a cell, and those of all members
use Rattle.std.proofs.Common.{◌≡◌, ◌≢◌, ℕ, zero, suc, ◌+◌, ◌<◌, ◌⊎◌, inl, inr, refl, sym, ap, ◌∙◌, arith, ⊎_elim, List, [], ◌∷◌, ◌++◌, length, get_or, set, map, subst}
use Rattle.std.specs.List.{Contains}
use Rattle.std.proofs.lemmas.Bool.{cases_eq, cases_lt}
use Rattle.std.proofs.lemmas.List.{map-set, length-map, length-set, length-append, get_or-set_same, get_or-set_other}
use Rattle.std.proofs.lemmas.List as lists
use Rattle.std.proofs.lemmas.Option.{get_or_from_slice_get}
use Rattle.std.specs.Prelude.{slice_get, Some}
use Rattle.elem_cubes.specs.Cells.{Factor}
use Rattle.elem_cubes.specs.Faces.{IsFace}
use Rattle.elem_cubes.specs.Laws.{cell_at}
use Rattle.elem_cubes.proofs.Members.{In-from, from-In, In-append, left-In, right-In}
use Rattle.excision.specs.Owners.{Names}

-- ---- one more owner

pub grown : {A : Type 0} (xs : List A) (y : A) (z : A) → Contains xs z → Contains (xs ++ y ∷ []) z
grown xs y z w = from-In (xs ++ y ∷ []) z (left-In xs (y ∷ []) z (In-from xs z w))

pub last : {A : Type 0} (xs : List A) (y : A) → Contains (xs ++ y ∷ []) y
last xs y = from-In (xs ++ y ∷ []) y (right-In xs (y ∷ []) y (inl refl))

pub listed : {A : Type 0} (f : A → List ℕ) (xs : List A) (old : List (List ℕ)) (n : ℕ) → map f xs ≡ old → n < length old → n < length xs
listed f xs old n e l = let a = ap length e in let b = length-map xs f in omega arith

module _ {A : Type 0} (f : A → List ℕ) (xs now : List A) (old : List (List ℕ)) (i d : ℕ) (y z : A) (c : ℕ) (seen : map f xs ≡ old) (inside : i < length xs) (same : i ≡ d)
    (there : z ≡ get_or xs i z) (more : f y ≡ f z ++ c ∷ []) (changed : now ≡ set xs i y) where
  pub push_count : length (map f now) ≡ length old
  push_count = length-map now f ∙ ap length changed ∙ length-set xs i y ∙ sym (length-map xs f) ∙ ap length seen

  here : get_or (map f now) i [] ≡ get_or old i [] ++ c ∷ []
  here = ap (λ (l : List A). get_or (map f l) i []) changed ∙ ap (λ (l : List (List ℕ)). get_or l i []) (map-set f xs i y)
      ∙ get_or-set_same (map f xs) i (f y) [] (subst (λ (l : ℕ). i < l) (sym (length-map xs f)) inside)
      ∙ more ∙ ap (λ (l : List ℕ). l ++ c ∷ []) (ap f there ∙ sym (lists.get_or-map f xs i z [] inside) ∙ ap (λ (l : List (List ℕ)). get_or l i []) seen)

  other : (n : ℕ) → n ≢ i → get_or (map f now) n [] ≡ get_or old n []
  other n e = ap (λ (l : List A). get_or (map f l) n []) changed ∙ ap (λ (l : List (List ℕ)). get_or l n []) (map-set f xs i y)
      ∙ get_or-set_other (map f xs) i n (f y) [] e ∙ ap (λ (l : List (List ℕ)). get_or l n []) seen

  pub push_kept : (n j : ℕ) → Names old n j → Names (map f now) n j
  push_kept n j w = ⊎_elim
      (λ e. subst (λ (m : ℕ). Contains (get_or (map f now) m []) j) (sym e) (subst (λ (l : List ℕ). Contains l j) (sym here) (grown (get_or old i []) c j (subst (λ (m : ℕ). Contains (get_or old m []) j) e w))))
      (λ d. subst (λ (l : List ℕ). Contains l j) (sym (other n d)) w)
      (cases_eq n i)

  pub push_only : (n j : ℕ) → Names (map f now) n j → Names old n j ⊎ ((n ≡ d) × (j ≡ c))
  push_only n j w = ⊎_elim
      (λ e. ⊎_elim
      (λ k. inl (subst (λ (m : ℕ). Contains (get_or old m []) j) (sym e) (from-In (get_or old i []) j k)))
      (λ k. ⊎_elim (λ (q : c ≡ j). inr (e ∙ same, sym q)) (λ k. absurd k) k)
      (In-append (get_or old i []) (c ∷ []) j (In-from (get_or old i [] ++ c ∷ []) j (subst (λ (l : List ℕ). Contains l j) here (subst (λ (m : ℕ). Contains (get_or (map f now) m []) j) e w)))))
      (λ x. inl (subst (λ (l : List ℕ). Contains l j) (other n x) w))
      (cases_eq n i)

  pub push_added : Names (map f now) d c
  push_added = subst (λ (m : ℕ). Contains (get_or (map f now) m []) c) same (subst (λ (l : List ℕ). Contains l c) (sym here) (last (get_or old i []) c))

-- ---- lists without owners

pub record EmptyTo {A : Type 0} (f : A → List ℕ) (xs : List A) (i : ℕ) : Type 0 where
  pub count : length xs ≡ i
  pub empty : (n : ℕ) → get_or (map f xs) n [] ≡ []

pub empty_more : {A : Type 0} (f : A → List ℕ) (xs now : List A) (y : A) (i : ℕ) → now ≡ xs ++ y ∷ [] → f y ≡ [] → EmptyTo f xs i → EmptyTo f now (i + 1)
empty_more {A} f xs now y i e none s = record {
  count = ap length e ∙ length-append xs (y ∷ []) ∙ ap (λ (k : ℕ). k + 1) s.count;
  empty = λ n. ap (λ (ys : List A). get_or (map f ys) n []) e ∙ more xs s.empty n;
}
  where
    more : (xs : List A) → ((n : ℕ) → get_or (map f xs) n [] ≡ []) → (n : ℕ) → get_or (map f (xs ++ y ∷ [])) n [] ≡ []
    more [] h zero = none
    more [] h (suc n) = refl
    more (x ∷ xs) h zero = h 0
    more (x ∷ xs) h (suc n) = more xs (λ k. h (suc k)) n

pub empty_end : {A : Type 0} (f : A → List ℕ) (xs : List A) (seen : List (List ℕ)) (i : ℕ) → seen ≡ map f xs → EmptyTo f xs i → (n j : ℕ) → ¬ Names seen n j
empty_end f xs seen i e s n j w = In-from [] j (subst (λ (l : List ℕ). Contains l j) (ap (λ (l : List (List ℕ)). get_or l n []) e ∙ s.empty n) w)

-- ---- the owners of the first members

pub record OwnersTo (cells x : List (List Factor)) (lists : List (List ℕ)) (i : ℕ) : Type 0 where
  pub count : length lists ≡ length cells
  pub owners : (n j : ℕ) → n < length cells → j < i → IsFace (cell_at x j) (cell_at cells n) → Names lists n j

pub owners_next : (cells x : List (List Factor)) (lists new : List (List ℕ)) (i : ℕ) (q : List Factor) → slice_get x i ≡ Some q → OwnersTo cells x lists i → length new ≡ length lists
    → ((n j : ℕ) → Names lists n j → Names new n j) → ((n : ℕ) → n < length cells → IsFace q (cell_at cells n) → Names new n i) → OwnersTo cells x new (i + 1)
owners_next cells x lists new i q place s count kept added = record {
  count = count ∙ s.count;
  owners = λ n j l k f. ⊎_elim
      (λ lt. kept n j (s.owners n j l lt f))
      (λ ge. let e : i ≡ j = omega arith in subst (λ (m : ℕ). Names new n m) e (added n l (subst (λ (c : List Factor). IsFace c (cell_at cells n)) (ap (cell_at x) (sym e) ∙ get_or_from_slice_get x i q [] place) f)))
      (cases_lt j i);
}
