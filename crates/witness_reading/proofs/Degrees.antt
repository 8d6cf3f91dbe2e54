-- Lists by degree that are made of lists beside their degrees; and the chains of a run of the form.
use Rattle.std.proofs.Common.{◌≡◌, ℕ, zero, suc, ◌<◌, ◌≤◌, refl, sym, ap, ◌∙◌, arith, ⊎_elim, List, [], ◌∷◌, ◌++◌, length, get_or, map, cond, subst, Option}
use Rattle.std.proofs.lemmas.Bool.{cases_Bool}
use Rattle.std.specs.Prelude.{◌==◌}
use Rattle.witness_laws.specs.Lines.{each}
use Rattle.witness_laws.specs.Parts.{AreTerms, nth}
use Rattle.witness_types.specs.Parts.{beside}
use Rattle.witness_runs.specs.Runs.{head_of}
use Rattle.witness_runs.specs.Cycles.{AreCycles}
use Rattle.section_reading.specs.Section.{degrees_of}
use Rattle.witness_reading.proofs.Forms.{Item, Run}
use Rattle.witness_reading.proofs.Shapes.{chain_item}
use Rattle.witness_reading.proofs.Runs.{IsRunItem, run_items}
use Rattle.witness_reading.proofs.Flat.{Rising, zipped}

-- ---- lists by degree

pub each_at : {A : Type 0} (n : ℕ) (f : ℕ → A) (k : ℕ) (d : A) → k < n → get_or (each n (λ i. f i ∷ [])) k d ≡ f k
each_at zero f k d l = absurd (omega arith)
each_at (suc n) f zero d l = refl
each_at (suc n) f (suc k) d l = each_at n (λ i. f (suc i)) k d (omega arith)

pub each_past : {A : Type 0} (n : ℕ) (f : ℕ → A) (k : ℕ) (d : A) → n ≤ k → get_or (each n (λ i. f i ∷ [])) k d ≡ d
each_past zero f k d l = refl
each_past (suc n) f zero d l = absurd (omega arith)
each_past (suc n) f (suc k) d l = each_past n (λ i. f (suc i)) k d (omega arith)

-- lists beside the same degrees have members in the same degrees
pub beside_length : {A B : Type 0} (k : ℕ) (ds : List ℕ) (xs : List A) (ys : List B) → length xs ≡ length ys → length (beside k ds xs) ≡ length (beside k ds ys)
beside_length k [] xs ys e = refl
beside_length k (d ∷ ds) [] [] e = refl
beside_length k (d ∷ ds) [] (y ∷ ys) e = absurd (omega arith)
beside_length k (d ∷ ds) (x ∷ xs) [] e = absurd (omega arith)
beside_length {A} {B} k (d ∷ ds) (x ∷ xs) (y ∷ ys) e =
    let r : length (beside k ds xs) ≡ length (beside k ds ys) = beside_length k ds xs ys (omega arith) in
    ⊎_elim
    (λ q. ap (λ b. length (cond b (x ∷ beside k ds xs) (beside k ds xs))) q ∙ ap suc r ∙ ap (λ b. length (cond b (y ∷ beside k ds ys) (beside k ds ys))) (sym q))
    (λ q. ap (λ b. length (cond b (x ∷ beside k ds xs) (beside k ds xs))) q ∙ r ∙ ap (λ b. length (cond b (y ∷ beside k ds ys) (beside k ds ys))) (sym q))
    (cases_Bool (d == k))

-- P holds of all members
abbrev AllOf : {A : Type 0} → (A → Type 0) → List A → Type 0
AllOf P [] = Unit {0}
AllOf P (x ∷ xs) = P x × AllOf P xs

all_of : (P : List (ℕ × ℕ) → Type 0) (xs : List (List (ℕ × ℕ))) → ((i : ℕ) → i < length xs → P (nth xs i)) → AllOf P xs
all_of P [] h = tt
all_of P (x ∷ xs) h = (h 0 (omega arith), all_of P xs (λ i l. h (suc i) (omega arith)))

at_all : (P : List (ℕ × ℕ) → Type 0) (xs : List (List (ℕ × ℕ))) → AllOf P xs → (i : ℕ) → i < length xs → P (nth xs i)
at_all P [] a i l = absurd (omega arith)
at_all P (x ∷ xs) a zero l = a.0
at_all P (x ∷ xs) a (suc i) l = at_all P xs a.1 i (omega arith)

beside_all : {A : Type 0} (P : A → Type 0) (k : ℕ) (ds : List ℕ) (xs : List A) → AllOf P xs → AllOf P (beside k ds xs)
beside_all P k [] xs a = tt
beside_all P k (d ∷ ds) [] a = tt
beside_all P k (d ∷ ds) (x ∷ xs) a = ⊎_elim
    (λ q. subst (λ b. AllOf P (cond b (x ∷ beside k ds xs) (beside k ds xs))) (sym q) (a.0, beside_all P k ds xs a.1))
    (λ q. subst (λ b. AllOf P (cond b (x ∷ beside k ds xs) (beside k ds xs))) (sym q) (beside_all P k ds xs a.1))
    (cases_Bool (d == k))

-- what holds of all members holds of those of a degree
pub beside_terms : (p k : ℕ) (ds : List ℕ) (xs : List (List (ℕ × ℕ))) → ((i : ℕ) → i < length xs → AreTerms p 0 (nth xs i))
    → (i : ℕ) → i < length (beside k ds xs) → AreTerms p 0 (nth (beside k ds xs) i)
beside_terms p k ds xs h = at_all (AreTerms p 0) (beside k ds xs) (beside_all (AreTerms p 0) k ds xs (all_of (AreTerms p 0) xs h))

-- ---- cycles

pub cycles_rise : (p low high : ℕ) (cs : List (ℕ × List (ℕ × ℕ))) → AreCycles p low high cs → (low ≤ high) × Rising low high (degrees_of cs)
cycles_rise p low high [] a = (a, tt)
cycles_rise p low high (c ∷ cs) a =
    let w = cycles_rise p c.0 high cs a.2 in
    let l : low ≤ c.0 = a.0 in
    let h : c.0 ≤ high = w.0 in
    (omega arith, (l, h, w.1))

pub cycles_zipped : (cs : List (ℕ × List (ℕ × ℕ))) → zipped (degrees_of cs) (map (λ (c : ℕ × List (ℕ × ℕ)). c.1) cs) ≡ cs
cycles_zipped [] = refl
cycles_zipped (c ∷ cs) = ap (λ (l : List (ℕ × List (ℕ × ℕ))). c ∷ l) (cycles_zipped cs)

-- ---- the chains of a run

pub record HasChains (p : ℕ) (word : List ℕ) (first : Option ℕ) (kinds : List ℕ) (hs : List (ℕ × ℕ)) (N : List Item → Type 0) (zs : List Item) : Type 0 where
  pub chains : List (List (ℕ × ℕ))
  pub rest : List Item
  pub many : length chains ≡ length hs
  pub are : (i : ℕ) → i < length chains → AreTerms p 0 (nth chains i)
  pub is : zs ≡ run_items p word first kinds hs chains ++ rest
  pub allowed : N rest

more_terms : (p : ℕ) (c : List (ℕ × ℕ)) (cs : List (List (ℕ × ℕ))) → AreTerms p 0 c → ((i : ℕ) → i < length cs → AreTerms p 0 (nth cs i))
    → (i : ℕ) → i < length (c ∷ cs) → AreTerms p 0 (nth (c ∷ cs) i)
more_terms p c cs a f zero l = a
more_terms p c cs a f (suc i) l = f i (omega arith)

pub run_back : (p : ℕ) (word : List ℕ) (first : Option ℕ) (kinds : List ℕ) (hs : List (ℕ × ℕ)) (N : List Item → Type 0) (zs : List Item)
    → Run (IsRunItem p word first kinds) hs (λ _. N) zs → HasChains p word first kinds hs N zs
run_back p word first kinds [] N zs r = record { chains = []; rest = zs; many = refl; are = λ i l. absurd (omega arith); is = refl; allowed = r }
run_back p word first kinds (h ∷ hs) N [] r = absurd r
run_back p word first kinds (h ∷ hs) N (z ∷ zs) r =
    let w = run_back p word first kinds hs N zs r.1 in
    let c : List (ℕ × ℕ) = r.0.chain in
    record {
      chains = c ∷ w.chains;
      rest = w.rest;
      many = ap suc w.many;
      are = more_terms p c w.chains r.0.are w.are;
      is = ap (λ (x : Item). x ∷ zs) r.0.is ∙ ap (λ (l : List Item). chain_item word (head_of first h.0) kinds h.1 c ∷ l) w.is;
      allowed = w.allowed;
    }
