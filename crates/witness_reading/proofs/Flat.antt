-- Lists by degree, laid flat: each member with its degree, by degree.
use Rattle.std.proofs.Common.{◌≡◌, ◌≢◌, ℕ, zero, suc, ◌+◌, ◌<◌, ◌≤◌, refl, sym, ap, ◌∙◌, arith, ⊎_elim, List, [], ◌∷◌, ◌++◌, length, get_or, map, cond, ne_eqb}
use Rattle.std.proofs.lemmas.List.{map-append}
use Rattle.std.proofs.lemmas.Bool.{cases_eq, eq-eqb}
use Rattle.witness_laws.specs.Lines.{each}
use Rattle.witness_laws.specs.Parts.{AreTerms, nth}
use Rattle.witness_laws.proofs.Runs.{each_same}
use Rattle.witness_types.specs.Parts.{beside}
use Rattle.witness_runs.specs.Cycles.{AreCycles}

-- the members of n lists, the first of degree low
abbrev pub flat_from : {A : Type 0} → ℕ → ℕ → (ℕ → List A) → List (ℕ × A)
flat_from low zero f = []
flat_from low (suc n) f = map (λ x. (low, x)) (f low) ++ flat_from (suc low) n f

-- ---- one line for each member

-- a line for each member of a list
pub each_of_list : {A B : Type 0} (g : A → B) (xs : List A) (d : A) → each (length xs) (λ i. g (get_or xs i d) ∷ []) ≡ map g xs
each_of_list g [] d = refl
each_of_list g (x ∷ xs) d = ap (λ l. g x ∷ l) (each_of_list g xs d)

pairs : {A B : Type 0} (g : ℕ → A → B) (k : ℕ) (xs : List A) → map (λ (c : ℕ × A). g c.0 c.1) (map (λ x. (k, x)) xs) ≡ map (g k) xs
pairs g k [] = refl
pairs g k (x ∷ xs) = ap (λ l. g k x ∷ l) (pairs g k xs)

each_from : {A B : Type 0} (g : ℕ → A → B) (f : ℕ → List A) (low n : ℕ) → each n (λ k. map (g (low + k)) (f (low + k))) ≡ map (λ (c : ℕ × A). g c.0 c.1) (flat_from low n f)
each_from g f low zero = refl
each_from {A} {B} g f low (suc n) =
    let z : low + 0 ≡ low = omega arith in
    let here : map (g (low + 0)) (f (low + 0)) ≡ map (g low) (f low) = ap (λ (k : ℕ). map (g k) (f k)) z in
    let next : each n (λ k. map (g (low + suc k)) (f (low + suc k))) ≡ each n (λ k. map (g (suc low + k)) (f (suc low + k))) =
    each_same n (λ k. map (g (low + suc k)) (f (low + suc k))) (λ k. map (g (suc low + k)) (f (suc low + k)))
    (λ k. ap (λ (j : ℕ). map (g j) (f j)) (let q : low + suc k ≡ suc low + k = omega arith in q)) in
    ap (λ (l : List B). l ++ each n (λ k. map (g (low + suc k)) (f (low + suc k)))) here
    ∙ ap (λ (l : List B). map (g low) (f low) ++ l) (next ∙ each_from g f (suc low) n)
    ∙ ap (λ (l : List B). l ++ map (λ (c : ℕ × A). g c.0 c.1) (flat_from (suc low) n f)) (sym (pairs g low (f low)))
    ∙ sym (map-append (λ (c : ℕ × A). g c.0 c.1) (map (λ x. (low, x)) (f low)) (flat_from (suc low) n f))

-- the lines of all members, degree by degree
pub each_flat : {A B : Type 0} (g : ℕ → A → B) (f : ℕ → List A) (n : ℕ) → each n (λ k. map (g k) (f k)) ≡ map (λ (c : ℕ × A). g c.0 c.1) (flat_from 0 n f)
each_flat g f n =
    each_same n (λ k. map (g k) (f k)) (λ k. map (g (0 + k)) (f (0 + k))) (λ k. ap (λ (j : ℕ). map (g j) (f j)) (let q : k ≡ 0 + k = omega arith in q))
    ∙ each_from g f 0 n

-- ---- flat lists are by degree

lower : (p low next high : ℕ) (cs : List (ℕ × List (ℕ × ℕ))) → low ≤ next → AreCycles p next high cs → AreCycles p low high cs
lower p low next high [] l a = let b : next ≤ high = a in omega arith
lower p low next high (c ∷ cs) l a = (let b = a.0 in omega arith, a.1, a.2)

block : (p low high : ℕ) (xs : List (List (ℕ × ℕ))) (cs : List (ℕ × List (ℕ × ℕ))) → ((i : ℕ) → i < length xs → AreTerms p 0 (nth xs i)) → AreCycles p low high cs
    → AreCycles p low high (map (λ x. (low, x)) xs ++ cs)
block p low high [] cs f a = a
block p low high (x ∷ xs) cs f a = (omega arith, f 0 (omega arith), block p low high xs cs (λ i l. f (suc i) (omega arith)) a)

pub flat_are : (p low n high : ℕ) (f : ℕ → List (List (ℕ × ℕ))) → ((k i : ℕ) → i < length (f k) → AreTerms p 0 (nth (f k) i)) → low + n ≡ high → AreCycles p low high (flat_from low (suc n) f)
flat_are p low zero high f t e = block p low high (f low) [] (t low) (let q : low ≤ high = omega arith in q)
flat_are p low (suc n) high f t e =
    block p low high (f low) (flat_from (suc low) (suc n) f) (t low)
    (lower p low (suc low) high (flat_from (suc low) (suc n) f) (omega arith) (flat_are p (suc low) n high f t (omega arith)))

-- ---- lists by degree of a flat list

-- the degrees rise from low to high
abbrev pub Rising : ℕ → ℕ → List ℕ → Type 0
Rising low high [] = Unit {0}
Rising low high (d ∷ ds) = (low ≤ d) × (d ≤ high) × Rising d high ds

abbrev pub zipped : {A : Type 0} → List ℕ → List A → List (ℕ × A)
zipped [] xs = []
zipped (d ∷ ds) [] = []
zipped (d ∷ ds) (x ∷ xs) = (d, x) ∷ zipped ds xs

flat_same : {A : Type 0} (low n : ℕ) (f g : ℕ → List A) → ((k : ℕ) → low ≤ k → f k ≡ g k) → flat_from low n f ≡ flat_from low n g
flat_same low zero f g h = refl
flat_same {A} low (suc n) f g h =
    ap (λ (l : List A). map (λ x. (low, x)) l ++ flat_from (suc low) n f) (h low (omega arith))
    ∙ ap (λ l. map (λ x. (low, x)) (g low) ++ l) (flat_same (suc low) n f g (λ k l. h k (omega arith)))

flat_none : {A : Type 0} (low n : ℕ) → flat_from {A = A} low n (λ k. []) ≡ []
flat_none low zero = refl
flat_none low (suc n) = flat_none (suc low) n

-- one more member, before all others
put : {A : Type 0} (low n d : ℕ) (x : A) (f g : ℕ → List A) → low ≤ d → d < low + n → g d ≡ x ∷ f d → ((k : ℕ) → k ≢ d → g k ≡ f k) → ((k : ℕ) → k < d → f k ≡ [])
    → flat_from low n g ≡ (d, x) ∷ flat_from low n f
put low zero d x f g a b h o z = absurd (omega arith)
put {A} low (suc n) d x f g a b h o z = ⊎_elim
    (λ e.
    let here : g low ≡ x ∷ f low = ap g (sym e) ∙ h ∙ ap (λ (k : ℕ). x ∷ f k) e in
    ap (λ (l : List A). map (λ y. (low, y)) l ++ flat_from (suc low) n g) here
    ∙ ap (λ (k : ℕ). (k, x) ∷ (map (λ y. (low, y)) (f low) ++ flat_from (suc low) n g)) (sym e)
    ∙ ap (λ l. (d, x) ∷ (map (λ y. (low, y)) (f low) ++ l)) (flat_same (suc low) n g f (λ k l. o k (λ q. omega arith))))
    (λ e.
    let none : f low ≡ [] = z low (omega arith) in
    let also : g low ≡ [] = o low (λ q. e (sym q)) ∙ none in
    ap (λ (l : List A). map (λ y. (low, y)) l ++ flat_from (suc low) n g) also
    ∙ put (suc low) n d x f g (omega arith) (omega arith) h o z
    ∙ ap (λ (l : List A). (d, x) ∷ (map (λ y. (low, y)) l ++ flat_from (suc low) n f)) (sym none))
    (cases_eq d low)

none_below : {A : Type 0} (low high k : ℕ) (ds : List ℕ) (xs : List A) → Rising low high ds → k < low → beside k ds xs ≡ []
none_below low high k [] xs r l = refl
none_below low high k (d ∷ ds) [] r l = refl
none_below low high k (d ∷ ds) (x ∷ xs) r l =
    let a = r.0 in
    ap (λ b. cond b (x ∷ beside k ds xs) (beside k ds xs)) (ne_eqb d k (λ e. omega arith)) ∙ none_below d high k ds xs r.2 (omega arith)

rising_lower : (low next high : ℕ) (ds : List ℕ) → low ≤ next → Rising next high ds → Rising low high ds
rising_lower low next high [] l r = tt
rising_lower low next high (d ∷ ds) l r = (let a = r.0 in omega arith, r.1, r.2)

-- the lists by degree, laid flat again
pub flat_beside : {A : Type 0} (low n high : ℕ) (ds : List ℕ) (xs : List A) → Rising low high ds → length xs ≡ length ds → low + n ≡ suc high
    → flat_from low n (λ k. beside k ds xs) ≡ zipped ds xs
flat_beside low n high [] xs r e s = flat_none low n
flat_beside low n high (d ∷ ds) [] r e s = absurd (omega arith)
flat_beside low n high (d ∷ ds) (x ∷ xs) r e s =
    put low n d x (λ k. beside k ds xs) (λ k. beside k (d ∷ ds) (x ∷ xs)) r.0 (let b = r.1 in omega arith)
    (ap (λ b. cond b (x ∷ beside d ds xs) (beside d ds xs)) (eq-eqb d d refl))
    (λ k f. ap (λ b. cond b (x ∷ beside k ds xs) (beside k ds xs)) (ne_eqb d k (λ q. f (sym q))))
    (λ k l. none_below d high k ds xs r.2 l)
    ∙ ap (λ l. (d, x) ∷ l) (flat_beside low n high ds xs (rising_lower low d high ds r.0 r.2) (omega arith) s)
