-- Lists made one after the other, and those beside a number.
use Rattle.std.proofs.Common.{◌≡◌, ℕ, zero, suc, ◌+◌, ◌<◌, ◌≤◌, refl, sym, ap, ◌∙◌, subst, arith, List, [], ◌∷◌, ◌++◌, append_assoc, length, get_or, map, ⊎_elim, ◌*◌, Bool, true, false, cond, eqb, eq-eqb}
use Rattle.field_mod.specs.Sums.{total}
use Rattle.field_mod.proofs.Sums.{total-same, total-zero, total-add, total-single, total-beside}
use Rattle.std.proofs.lemmas.Bool.{cases_lt, false≢true}
use Rattle.witness_laws.specs.Lines.{each}
use Rattle.witness_types.specs.Parts.{beside}

pub length_each : {A : Type 0} (n : ℕ) (f : ℕ → A) → length (each n (λ k. f k ∷ [])) ≡ n
length_each zero f = refl
length_each (suc n) f = ap suc (length_each n (λ k. f (suc k)))

pub each_at : {A : Type 0} (n : ℕ) (f : ℕ → A) (k : ℕ) (d : A) → k < n → get_or (each n (λ j. f j ∷ [])) k d ≡ f k
each_at zero f k d l = absurd (omega (arith, l))
each_at (suc n) f zero d l = refl
each_at (suc n) f (suc k) d l = each_at n (λ j. f (suc j)) k d (omega (arith, l))

append_nothing : {A : Type 0} (xs : List A) → xs ++ [] ≡ xs
append_nothing [] = refl
append_nothing (x ∷ xs) = ap (λ ys. x ∷ ys) (append_nothing xs)

each_next : {A : Type 0} (n : ℕ) (f : ℕ → List A) → each (suc n) f ≡ each n f ++ f n
each_next zero f = append_nothing (f 0)
each_next (suc n) f = ap (λ ls. f 0 ++ ls) (each_next n (λ i. f (suc i))) ∙ sym (append_assoc (f 0) (each n (λ i. f (suc i))) (f (suc n)))

pub each_more : {A : Type 0} (n : ℕ) (f : ℕ → List A) → each (n + 1) f ≡ each n f ++ f n
each_more n f = ap (λ (m : ℕ). each m f) (let e : n + 1 ≡ suc n = omega arith in e) ∙ each_next n f

pub map_each : {A B : Type 0} (g : A → B) (n : ℕ) (f : ℕ → A) → map g (each n (λ k. f k ∷ [])) ≡ each n (λ k. g (f k) ∷ [])
map_each g zero f = refl
map_each g (suc n) f = ap (λ ys. g (f 0) ∷ ys) (map_each g n (λ k. f (suc k)))

-- ---- those beside a number

-- each stands among those beside its own number
pub in_beside : (k : ℕ) (ds : List ℕ) (xs : List (List (ℕ × ℕ))) (i : ℕ) → i < length ds → i < length xs → get_or ds i 0 ≡ k
    → (j : ℕ) × (j < length (beside k ds xs)) × (get_or (beside k ds xs) j [] ≡ get_or xs i [])
in_beside k [] xs i l m e = absurd (omega (arith, l))
in_beside k (d ∷ ds) [] i l m e = absurd (omega (arith, m))
in_beside k (d ∷ ds) (x ∷ xs) zero l m e = here (eqb d k) (eq-eqb d k e)
  where
    us : List (List (ℕ × ℕ))
    us = beside k ds xs

    here : (b : Bool) → b ≡ true → (j : ℕ) × (j < length (cond b (x ∷ us) us)) × (get_or (cond b (x ∷ us) us) j [] ≡ x)
    here true h = (0, omega arith, refl)
    here false h = absurd (false≢true h)
in_beside k (d ∷ ds) (x ∷ xs) (suc i) l m e = later (eqb d k) (in_beside k ds xs i (omega (arith, l)) (omega (arith, m)) e)
  where
    us : List (List (ℕ × ℕ))
    us = beside k ds xs

    later : (b : Bool) → (j : ℕ) × (j < length us) × (get_or us j [] ≡ get_or xs i []) → (j : ℕ) × (j < length (cond b (x ∷ us) us)) × (get_or (cond b (x ∷ us) us) j [] ≡ get_or xs i [])
    later true w = (suc w.0, omega (arith, w.1), w.2)
    later false w = w

-- all of them are no more than there are
at_most : (n d : ℕ) → total n (λ k. cond (eqb d k) 1 0) ≤ 1
at_most n d = ⊎_elim
    (λ l. let e = total-single n d 1 (λ k. 1) l in let f = same in omega (arith, e, f))
    (λ l. let e = total-beside n d 1 (λ k. 1) l in let f = same in omega (arith, e, f))
    (cases_lt d n)
  where
    same : total n (λ k. cond (eqb d k) 1 0) ≡ total n (λ k. cond (eqb d k) 1 0 * 1)
    same = total-same n (λ k. cond (eqb d k) 1 0) (λ k. cond (eqb d k) 1 0 * 1) (λ k l. omega arith)

one_more : (b : Bool) (x : List (ℕ × ℕ)) (us : List (List (ℕ × ℕ))) → length (cond b (x ∷ us) us) ≡ cond b 1 0 + length us
one_more true x us = omega arith
one_more false x us = omega arith

pub beside_total : (n : ℕ) (ds : List ℕ) (xs : List (List (ℕ × ℕ))) → total n (λ k. length (beside k ds xs)) ≤ length xs
beside_total n [] xs = let e = total-zero n in omega (arith, e)
beside_total n (d ∷ ds) [] = let e = total-zero n in omega (arith, e)
beside_total n (d ∷ ds) (x ∷ xs) =
    let a = total-same n (λ k. length (beside k (d ∷ ds) (x ∷ xs))) (λ k. cond (eqb d k) 1 0 + length (beside k ds xs)) (λ k l. one_more (eqb d k) x (beside k ds xs)) in
    let b = total-add n (λ k. cond (eqb d k) 1 0) (λ k. length (beside k ds xs)) in
    let c = at_most n d in
    let r = beside_total n ds xs in
    omega (arith, a, b, c, r)
