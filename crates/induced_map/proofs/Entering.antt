-- Products are put behind each other.
use Rattle.std.proofs.Common.{◌≡◌, ℕ, ◌+◌, ◌*◌, ◌%◌, ◌<◌, sym, ap, ◌∙◌, arith, ⊎_elim, List, [], ◌∷◌, ◌++◌, length, get_or}
use Rattle.std.proofs.lemmas.Bool.{cases_lt}
use Rattle.std.proofs.lemmas.Nat.{mul-add-lt}
use Rattle.std.proofs.lemmas.List.{get_or_append_left, get_or_push, length_push}
use Rattle.chains.specs.Terms.{product}
use Rattle.induced_map.specs.Entries.{AreBelow}
use Rattle.induced_map.specs.Images.{AddsProducts, AreProducts}

-- ---- one cochain

pub products_none : (p : ℕ) (cochain : List (ℕ × ℕ)) (chains : List (List (ℕ × ℕ))) (old : List ℕ) → AddsProducts p cochain chains 0 old old
products_none p cochain chains old = record { count = omega arith; kept = λ k l. refl_at old k; products = λ j l. absurd (omega arith) }
  where
    refl_at : (xs : List ℕ) (k : ℕ) → get_or xs k 0 ≡ get_or xs k 0
    refl_at xs k i = get_or xs k 0

pub products_more : (p : ℕ) (cochain : List (ℕ × ℕ)) (chains : List (List (ℕ × ℕ))) (n v : ℕ) (old now new : List ℕ) → AddsProducts p cochain chains n old now → new ≡ now ++ v ∷ [] → v ≡ product cochain (get_or chains n []) % p → AddsProducts p cochain chains (n + 1) old new
products_more p cochain chains n v old now new so_far e ev = record {
  count = let a = ap length e ∙ length_push now v in omega (arith, so_far.count);
  kept = λ k l. ap (λ xs. get_or xs k 0) e ∙ get_or_append_left now (v ∷ []) 0 k (omega (arith, so_far.count)) ∙ so_far.kept k l;
  products = λ j l. ⊎_elim
      (λ lt. ap (λ xs. get_or xs (length old + j) 0) e ∙ get_or_append_left now (v ∷ []) 0 (length old + j) (omega (arith, so_far.count)) ∙ so_far.products j lt)
      (λ ge.
      let k : j ≡ n = omega arith in
      ap (λ xs. get_or xs (length old + j) 0) e ∙ ap (λ i. get_or (now ++ v ∷ []) (length old + i) 0) k ∙ get_or_push now v 0 (length old + n) so_far.count ∙ ev ∙ ap (λ i. product cochain (get_or chains i []) % p) (sym k))
      (cases_lt j n);
}

pub below_more : (p v : ℕ) (now new : List ℕ) → AreBelow p now → new ≡ now ++ v ∷ [] → v < p → AreBelow p new
below_more p v now new below e lt k l = ⊎_elim
    (λ less. let a : get_or new k 0 ≡ get_or now k 0 = ap (λ xs. get_or xs k 0) e ∙ get_or_append_left now (v ∷ []) 0 k less in omega (arith, below k less))
    (λ more. let m : k ≡ length now = let a = ap length e ∙ length_push now v in omega arith in let a : get_or new k 0 ≡ v = ap (λ xs. get_or xs k 0) e ∙ get_or_push now v 0 k (sym m) in omega arith)
    (cases_lt k (length now))

-- ---- all cochains

pub rows_none : (p : ℕ) (cochains chains : List (List (ℕ × ℕ))) (entries : List ℕ) → entries ≡ [] → AreProducts p cochains chains 0 entries
rows_none p cochains chains entries e = record { count = let a = ap length e in omega arith; products = λ i j l m. absurd (omega arith) }

pub rows_more : (p : ℕ) (cochains chains : List (List (ℕ × ℕ))) (n : ℕ) (cochain : List (ℕ × ℕ)) (now new : List ℕ) → AreProducts p cochains chains n now → cochain ≡ get_or cochains n [] → AddsProducts p cochain chains (length chains) now new → AreProducts p cochains chains (n + 1) new
rows_more p cochains chains n cochain now new so_far e adds = record {
  count = let m = length chains in let a = adds.count in let b = so_far.count in omega arith;
  products = λ i j l m. ⊎_elim
      (λ lt. adds.kept (i * length chains + j) (inside i j lt m) ∙ so_far.products i j lt m)
      (λ ge.
      let k : i ≡ n = omega arith in
      let at : i * length chains + j ≡ length now + j = ap (λ v. v * length chains + j) k ∙ ap (λ v. v + j) (sym so_far.count) in
      ap (λ v. get_or new v 0) at ∙ adds.products j m ∙ ap (λ c. product c (get_or chains j []) % p) (e ∙ ap (λ v. get_or cochains v []) (sym k)))
      (cases_lt i n);
}
  where
    inside : (i j : ℕ) → i < n → j < length chains → i * length chains + j < length now
    inside i j l m = let b = so_far.count in omega (arith, mul-add-lt i (length chains) j n l m)
