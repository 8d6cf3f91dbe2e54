-- Tests joined by `&&`, and tests of each element of a list.
use Rattle.std.proofs.Common.{◌≡◌, ℕ, zero, suc, ◌<◌, refl, ap, arith, List, [], ◌∷◌, length, get_or, slice_set, map, Bool, true, false, IsTrue, ◌&&◌}
use Rattle.std.specs.List.{list_all}

pub both : (a b : Bool) → IsTrue a → IsTrue b → IsTrue (a && b)
both true b h q = q
both false b h q = h

pub left : (a b : Bool) → IsTrue (a && b) → IsTrue a
left true b h = refl
left false b h = h

pub right : (a b : Bool) → IsTrue (a && b) → IsTrue b
right true b h = h
right false b h = cc

pub all_set : {A : Type 0} (p : A → Bool) (xs : List A) (i : ℕ) (y : A) → IsTrue (list_all p xs) → IsTrue (p y) → IsTrue (list_all p (slice_set xs i y))
all_set p [] i y h q = h
all_set p (x ∷ xs) zero y h q = both (p y) (list_all p xs) q (right (p x) _ h)
all_set p (x ∷ xs) (suc i) y h q = both (p x) _ (left (p x) _ h) (all_set p xs i y (right (p x) _ h) q)

pub all_at : {A : Type 0} (p : A → Bool) (xs : List A) (i : ℕ) (d : A) → IsTrue (list_all p xs) → i < length xs → IsTrue (p (get_or xs i d))
all_at p [] i d h l = absurd (omega arith)
all_at p (x ∷ xs) zero d h l = left (p x) _ h
all_at p (x ∷ xs) (suc i) d h l = all_at p xs i d (right (p x) _ h) (omega arith)

pub all_weaker : {A : Type 0} (p q : A → Bool) (xs : List A) → ((x : A) → IsTrue (p x) → IsTrue (q x)) → IsTrue (list_all p xs) → IsTrue (list_all q xs)
all_weaker p q [] w h = refl
all_weaker p q (x ∷ xs) w h = both (q x) _ (w x (left (p x) _ h)) (all_weaker p q xs w (right (p x) _ h))

pub all_mapped : {A B : Type 0} (p : B → Bool) (f : A → B) (xs : List A) → list_all p (map f xs) ≡ list_all (λ x. p (f x)) xs
all_mapped p f [] = refl
all_mapped p f (x ∷ xs) = ap (λ v. p (f x) && v) (all_mapped p f xs)

pub get_or-map : {A B : Type 0} (f : A → B) (xs : List A) (i : ℕ) (d : A) → get_or (map f xs) i (f d) ≡ f (get_or xs i d)
get_or-map f [] i d = refl
get_or-map f (x ∷ xs) zero d = refl
get_or-map f (x ∷ xs) (suc i) d = get_or-map f xs i d
