-- Membership in lists by recursion, and lists without repeats.
use Rattle.std.proofs.Common.{◌≡◌, ℕ, zero, suc, ◌<◌, ◌⊎◌, inl, inr, ⊎_elim, refl, sym, ap, subst, arith, List, [], ◌∷◌, ◌++◌, length, get_or, map}
use Rattle.std.specs.List.{Contains, flat_map}

abbrev pub In : {X : Type 0} → List X → X → Type 0
In [] x = ⊥
In (y ∷ ys) x = (y ≡ x) ⊎ In ys x

pub In-from : {X : Type 0} (xs : List X) (x : X) → Contains xs x → In xs x
In-from [] x h = absurd (omega (arith, h.1))
In-from (y ∷ ys) x (zero, l, e) = inl e
In-from (y ∷ ys) x (suc k, l, e) = inr (In-from ys x (k, omega arith, e))

pub from-In : {X : Type 0} (xs : List X) (x : X) → In xs x → Contains xs x
from-In [] x h = absurd h
from-In (y ∷ ys) x (inl e) = (0, omega arith, e)
from-In (y ∷ ys) x (inr h) = let c = from-In ys x h in (suc c.0, omega (arith, c.1), c.2)

pub In-map : {X Y : Type 0} (f : X → Y) (xs : List X) (y : Y) → In (map f xs) y → (x : X) × In xs x × (f x ≡ y)
In-map f [] y h = absurd h
In-map f (x ∷ xs) y (inl e) = (x, inl refl, e)
In-map f (x ∷ xs) y (inr h) = let c = In-map f xs y h in (c.0, inr c.1, c.2)

pub map-In : {X Y : Type 0} (f : X → Y) (xs : List X) (x : X) → In xs x → In (map f xs) (f x)
map-In f [] x h = absurd h
map-In f (z ∷ xs) x (inl e) = inl (ap f e)
map-In f (z ∷ xs) x (inr h) = inr (map-In f xs x h)

pub In-append : {X : Type 0} (xs ys : List X) (x : X) → In (xs ++ ys) x → In xs x ⊎ In ys x
In-append [] ys x h = inr h
In-append (z ∷ xs) ys x (inl e) = inl (inl e)
In-append (z ∷ xs) ys x (inr h) = ⊎_elim (λ k. inl (inr k)) (λ k. inr k) (In-append xs ys x h)

pub left-In : {X : Type 0} (xs ys : List X) (x : X) → In xs x → In (xs ++ ys) x
left-In [] ys x h = absurd h
left-In (z ∷ xs) ys x (inl e) = inl e
left-In (z ∷ xs) ys x (inr h) = inr (left-In xs ys x h)

pub right-In : {X : Type 0} (xs ys : List X) (x : X) → In ys x → In (xs ++ ys) x
right-In [] ys x h = h
right-In (z ∷ xs) ys x h = inr (right-In xs ys x h)

pub In-flat : {X Y : Type 0} (g : X → List Y) (xs : List X) (y : Y) → In (flat_map g xs) y → (x : X) × In xs x × In (g x) y
In-flat g [] y h = absurd h
In-flat g (x ∷ xs) y h = ⊎_elim (λ k. (x, inl refl, k)) (λ k. let c = In-flat g xs y k in (c.0, inr c.1, c.2)) (In-append (g x) (flat_map g xs) y h)

pub flat-In : {X Y : Type 0} (g : X → List Y) (xs : List X) (x : X) (y : Y) → In xs x → In (g x) y → In (flat_map g xs) y
flat-In g [] x y h k = absurd h
flat-In {X} {Y} g (z ∷ xs) x y (inl e) k = left-In (g z) (flat_map g xs) y (let P : X → Type 0 = λ v. In (g v) y in subst P (sym e) k)
flat-In g (z ∷ xs) x y (inr h) k = right-In (g z) (flat_map g xs) y (flat-In g xs x y h k)

-- ---- no repeats

abbrev pub Apart : {X : Type 0} → List X → Type 0
Apart [] = Unit {0}
Apart (x ∷ xs) = (In xs x → ⊥) × Apart xs

at-In : {X : Type 0} (xs : List X) (i : ℕ) (d : X) → i < length xs → In xs (get_or xs i d)
at-In [] i d h = absurd (omega arith)
at-In (x ∷ xs) zero d h = inl refl
at-In (x ∷ xs) (suc i) d h = inr (at-In xs i d (omega arith))

pub apart_places : {X : Type 0} (xs : List X) (i j : ℕ) (d : X) → Apart xs → i < length xs → j < length xs → get_or xs i d ≡ get_or xs j d → i ≡ j
apart_places [] i j d a h k e = absurd (omega arith)
apart_places (x ∷ xs) zero zero d a h k e = refl
apart_places {X} (x ∷ xs) zero (suc j) d a h k e = absurd (a.0 (let P : X → Type 0 = λ v. In xs v in subst P (sym e) (at-In xs j d (omega arith))))
apart_places {X} (x ∷ xs) (suc i) zero d a h k e = absurd (a.0 (let P : X → Type 0 = λ v. In xs v in subst P e (at-In xs i d (omega arith))))
apart_places (x ∷ xs) (suc i) (suc j) d a h k e = ap suc (apart_places xs i j d a.1 (omega arith) (omega arith) e)

pub apart-append : {X : Type 0} (xs ys : List X) → Apart xs → Apart ys → ((x : X) → In xs x → In ys x → ⊥) → Apart (xs ++ ys)
apart-append [] ys a b h = b
apart-append (x ∷ xs) ys a b h = (λ k. ⊎_elim a.0 (h x (inl refl)) (In-append xs ys x k), apart-append xs ys a.1 b (λ z m n. h z (inr m) n))

pub apart-map : {X Y : Type 0} (f : X → Y) (xs : List X) → ((x z : X) → f x ≡ f z → x ≡ z) → Apart xs → Apart (map f xs)
apart-map f [] inj a = tt
apart-map {X} {Y} f (x ∷ xs) inj a = (λ k. let c = In-map f xs (f x) k in a.0 (let P : X → Type 0 = λ v. In xs v in subst P (inj c.0 x c.2) c.1), apart-map f xs inj a.1)
