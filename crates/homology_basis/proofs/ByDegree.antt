-- Lists by degree: one more list at the end, and another list in one place.
use Rattle.std.proofs.Common.{◌≡◌, ℕ, zero, suc, ◌<◌, ◌==◌, if◌then◌else◌, refl, sym, ap, ◌∙◌, ⊎_elim, arith, eq-eqb, ne_eqb, List, [], ◌∷◌, ◌++◌, length, get_or, set, map, subst}
use Rattle.std.proofs.lemmas.Bool.{cases_eq}
use Rattle.std.proofs.lemmas.List.{map-append, map-set, length-map, get_or-set_same, get_or-set_other}
use Rattle.std.proofs.lemmas.List as lists
use Rattle.std.proofs.Math.ListN as maths
use Rattle.homology_basis.specs.Bases.{in_degree}
use Rattle.homology_basis.specs.Classes.{ClassOf, cycles_of}

empty_last : {A : Type 0} (ys : List (List A)) (k : ℕ) → get_or (ys ++ [] ∷ []) k [] ≡ get_or ys k []
empty_last [] zero = refl
empty_last [] (suc k) = refl
empty_last (y ∷ ys) zero = refl
empty_last (y ∷ ys) (suc k) = empty_last ys k

-- one more list that is empty
pub empty_more : {A B : Type 0} (f : A → List B) (xs now : List A) (x : A) → f x ≡ [] → now ≡ xs ++ x ∷ [] → (k : ℕ) → in_degree (map f now) k ≡ in_degree (map f xs) k
empty_more {A} {B} f xs now x e n k =
    ap (λ (l : List A). get_or (map f l) k []) n ∙ ap (λ (l : List (List B)). get_or l k []) (map-append f xs (x ∷ []))
    ∙ ap (λ (v : List B). get_or (map f xs ++ v ∷ []) k []) e ∙ empty_last (map f xs) k

-- another list in one place
pub set_in : {A B : Type 0} (f : A → List B) (xs now : List A) (i : ℕ) (y : A) → i < length xs → now ≡ set xs i y
    → (k : ℕ) → in_degree (map f now) k ≡ (if k == i then f y else in_degree (map f xs) k)
set_in {A} {B} f xs now i y q n k = ⊎_elim
    (λ e. moved ∙ ap (λ v. get_or (set (map f xs) i (f y)) v []) e ∙ get_or-set_same (map f xs) i (f y) [] (subst (λ (l : ℕ). i < l) (sym (length-map xs f)) q) ∙ rw (eq-eqb k i e) refl)
    (λ d. moved ∙ get_or-set_other (map f xs) i k (f y) [] d ∙ rw (ne_eqb k i d) refl)
    (cases_eq k i)
  where
    moved : in_degree (map f now) k ≡ get_or (set (map f xs) i (f y)) k []
    moved = ap (λ (l : List A). get_or (map f l) k []) n ∙ ap (λ (l : List (List B)). get_or l k []) (map-set f xs i y)

-- one more entry in one of the lists
pub pushed : {A B : Type 0} (f : A → List B) (xs now : List A) (old : List (List B)) (i d : ℕ) (y z : A) (c : B) → i < length xs → i ≡ d
    → z ≡ get_or xs i z → f y ≡ f z ++ c ∷ [] → now ≡ set xs i y → ((k : ℕ) → in_degree (map f xs) k ≡ in_degree old k)
    → (k : ℕ) → in_degree (map f now) k ≡ (if k == d then in_degree old k ++ c ∷ [] else in_degree old k)
pushed {A} {B} f xs now old i d y z c q same there more n olds k = set_in f xs now i y q n k ∙ ⊎_elim
    (λ e. rw (eq-eqb k i (e ∙ sym same), eq-eqb k d e) (more ∙ ap (λ (l : List B). l ++ c ∷ []) (ap f there ∙ sym (maths.get_or-map f xs i z) ∙ entry ∙ ap (λ v. get_or (map f xs) v []) (same ∙ sym e) ∙ olds k)))
    (λ o. rw (ne_eqb k i (λ e. o (e ∙ same)), ne_eqb k d o) (olds k))
    (cases_eq k d)
  where
    entry : get_or (map f xs) i (f z) ≡ get_or (map f xs) i []
    entry = maths.get_or-map f xs i z ∙ sym (lists.get_or-map f xs i z [] q)

-- a place in the lists that are seen is one in those that are kept
pub longer : {A B : Type 0} (f : A → List B) (xs : List A) (seen : List (List B)) (i : ℕ) → map f xs ≡ seen → i < length seen → i < length xs
longer f xs seen i e q = let a = ap length e in let b = length-map xs f in omega arith

-- as many cycles as classes
pub count_in : (css : List (List ClassOf)) (k : ℕ) → length (in_degree (cycles_of css) k) ≡ length (in_degree css k)
count_in css k = ap length (maths.get_or-map (λ (cs : List ClassOf). map (λ c. c.cycle) cs) css k []) ∙ length-map (in_degree css k) (λ (c : ClassOf). c.cycle)
