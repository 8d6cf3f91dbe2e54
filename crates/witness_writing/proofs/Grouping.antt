-- Lists with degrees that never fall, degree by degree.
use Rattle.std.proofs.Common.{◌≡◌, ℕ, zero, suc, ◌+◌, ◌<◌, ◌≤◌, refl, sym, ap, ◌∙◌, arith, ⊎_elim, List, [], ◌∷◌, ◌++◌, length, get_or, cond, eq-eqb, ne_eqb, append_assoc}
use Rattle.std.proofs.lemmas.Bool.{cases_eq}
use Rattle.std.specs.List.{flat_map}
use Rattle.witness_laws.specs.Lines.{each}
use Rattle.witness_types.specs.Parts.{beside}

-- the numbers never fall, from low on, and all are below high
abbrev pub Rises : ℕ → ℕ → List ℕ → Type 0
Rises low high [] = Unit {0}
Rises low high (d ∷ ds) = (low ≤ d) × (d < high) × Rises d high ds

-- the texts of a list with numbers
abbrev pub along : {A : Type 0} → (ℕ → A → List ℕ) → List ℕ → List A → List ℕ
along f [] xs = []
along f ds [] = []
along f (d ∷ ds) (x ∷ xs) = f d x ++ along f ds xs

pub each_list : {A : Type 0} (g : A → List ℕ) (d : A) (xs : List A) → each (length xs) (λ i. g (get_or xs i d)) ≡ flat_map g xs
each_list g d [] = refl
each_list g d (x ∷ xs) = ap (λ l. g x ++ l) (each_list g d xs)

pub each_pair : {A : Type 0} (f : ℕ → A → List ℕ) (d : A) (ds : List ℕ) (xs : List A) → length ds ≡ length xs
    → each (length xs) (λ i. f (get_or ds i 0) (get_or xs i d)) ≡ along f ds xs
each_pair f d [] [] e = refl
each_pair f d [] (x ∷ xs) e = absurd (omega arith)
each_pair f d (m ∷ ds) [] e = absurd (omega arith)
each_pair f d (m ∷ ds) (x ∷ xs) e = ap (λ l. f m x ++ l) (each_pair f d ds xs (omega arith))

pub each_equal : (n : ℕ) (f g : ℕ → List ℕ) → ((i : ℕ) → f i ≡ g i) → each n f ≡ each n g
each_equal zero f g h = refl
each_equal (suc n) f g h =
    ap (λ l. l ++ each n (λ i. f (suc i))) (h 0) ∙ ap (λ l. g 0 ++ l) (each_equal n (λ i. f (suc i)) (λ i. g (suc i)) (λ i. h (suc i)))

each_none : (n : ℕ) → ◌≡◌ {A = List ℕ} (each n (λ i. [])) []
each_none zero = refl
each_none (suc n) = each_none n

none_beside : {A : Type 0} (k low high : ℕ) (ds : List ℕ) (xs : List A) → k < low → Rises low high ds → beside k ds xs ≡ []
none_beside k low high [] xs l r = refl
none_beside k low high (d ∷ ds) [] l r = refl
none_beside k low high (d ∷ ds) (x ∷ xs) l r =
    let q = r.0 in
    ap (λ b. cond b (x ∷ beside k ds xs) (beside k ds xs)) (ne_eqb d k (λ e. omega arith)) ∙ none_beside k d high ds xs (omega arith) r.2

none_left : (k : ℕ) {A : Type 0} (xs : List A) → beside k [] xs ≡ []
none_left k xs = refl

-- the texts degree by degree are those of the list
grouped_in : {A : Type 0} (f : ℕ → A → List ℕ) (m low high : ℕ) → high ≡ low + suc m
    → ((ds : List ℕ) (xs : List A) → Rises (suc low) high ds → length ds ≡ length xs → each m (λ k. flat_map (f (suc low + k)) (beside (suc low + k) ds xs)) ≡ along f ds xs)
    → (ds : List ℕ) (xs : List A) → Rises low high ds → length ds ≡ length xs → each (suc m) (λ k. flat_map (f (low + k)) (beside (low + k) ds xs)) ≡ along f ds xs
grouped_in f m low high h later [] [] r e = each_none (suc m)
grouped_in f m low high h later [] (x ∷ xs) r e = absurd (omega arith)
grouped_in f m low high h later (d ∷ ds) [] r e = absurd (omega arith)
grouped_in {A} f m low high h later (d ∷ ds) (x ∷ xs) r e = ⊎_elim
    (λ s.
    let same : (k : ℕ) → flat_map (f (low + suc k)) (beside (low + suc k) (d ∷ ds) (x ∷ xs)) ≡ flat_map (f (low + suc k)) (beside (low + suc k) ds xs) =
    λ k. ap (λ b. flat_map (f (low + suc k)) (cond b (x ∷ beside (low + suc k) ds xs) (beside (low + suc k) ds xs))) (ne_eqb d (low + suc k) (λ q. omega arith)) in
    let z : low + 0 ≡ d = omega arith in
    let first : flat_map (f (low + 0)) (beside (low + 0) (d ∷ ds) (x ∷ xs)) ≡ f d x ++ flat_map (f (low + 0)) (beside (low + 0) ds xs) =
    ap (λ b. flat_map (f (low + 0)) (cond b (x ∷ beside (low + 0) ds xs) (beside (low + 0) ds xs))) (eq-eqb d (low + 0) (sym z)) ∙ ap (λ (k : ℕ). f k x ++ flat_map (f (low + 0)) (beside (low + 0) ds xs)) z in
    let rest : List ℕ = each m (λ k. flat_map (f (low + suc k)) (beside (low + suc k) ds xs)) in
    ap (λ l. l ++ each m (λ k. flat_map (f (low + suc k)) (beside (low + suc k) (d ∷ ds) (x ∷ xs)))) first
    ∙ ap (λ l. (f d x ++ flat_map (f (low + 0)) (beside (low + 0) ds xs)) ++ l) (each_equal m (λ k. flat_map (f (low + suc k)) (beside (low + suc k) (d ∷ ds) (x ∷ xs))) (λ k. flat_map (f (low + suc k)) (beside (low + suc k) ds xs)) same)
    ∙ append_assoc (f d x) (flat_map (f (low + 0)) (beside (low + 0) ds xs)) rest
    ∙ ap (λ l. f d x ++ l) (grouped_in f m low high h later ds xs (lowered ds r.2 (omega arith)) (omega arith)))
    (λ s.
    let q = r.0 in
    let w : Rises (suc low) high (d ∷ ds) = (omega arith, r.1, r.2) in
    let none : flat_map (f (low + 0)) (beside (low + 0) (d ∷ ds) (x ∷ xs)) ≡ [] = ap (flat_map (f (low + 0))) (none_beside (low + 0) (suc low) high (d ∷ ds) (x ∷ xs) (omega arith) w) in
    let moved : (k : ℕ) → flat_map (f (low + suc k)) (beside (low + suc k) (d ∷ ds) (x ∷ xs)) ≡ flat_map (f (suc low + k)) (beside (suc low + k) (d ∷ ds) (x ∷ xs)) =
    λ k. let t : low + suc k ≡ suc low + k = omega arith in ap (λ (i : ℕ). flat_map (f i) (beside i (d ∷ ds) (x ∷ xs))) t in
    ap (λ l. l ++ each m (λ k. flat_map (f (low + suc k)) (beside (low + suc k) (d ∷ ds) (x ∷ xs)))) none
    ∙ each_equal m (λ k. flat_map (f (low + suc k)) (beside (low + suc k) (d ∷ ds) (x ∷ xs))) (λ k. flat_map (f (suc low + k)) (beside (suc low + k) (d ∷ ds) (x ∷ xs))) moved
    ∙ later (d ∷ ds) (x ∷ xs) w e)
    (cases_eq d low)
  where
    lowered : (es : List ℕ) → Rises d high es → low ≤ d → Rises low high es
    lowered [] w l = tt
    lowered (c ∷ es) w l = let a = w.0 in (omega arith, w.1, w.2)

pub grouped : {A : Type 0} (f : ℕ → A → List ℕ) (n low high : ℕ) → high ≡ low + n → (ds : List ℕ) (xs : List A) → Rises low high ds → length ds ≡ length xs
    → each n (λ k. flat_map (f (low + k)) (beside (low + k) ds xs)) ≡ along f ds xs
grouped f zero low high h [] [] r e = refl
grouped f zero low high h [] (x ∷ xs) r e = absurd (omega arith)
grouped f zero low high h (d ∷ ds) xs r e = absurd (let a = r.0 in let b = r.1 in omega arith)
grouped f (suc m) low high h ds xs r e = grouped_in f m low high h (grouped f m (suc low) high (omega arith)) ds xs r e
