-- Numbers that wait and their marks: one more, one less
use Rattle.std.proofs.Common.{◌≡◌, ◌≢◌, ℕ, ◌+◌, ◌<◌, ◌≤◌, ◌⊎◌, inl, inr, refl, sym, ap, ◌∙◌, arith, ⊎_elim, List, [], ◌∷◌, ◌++◌, length, get_or, set, Bool, true, false, ◌||◌, subst, eqb, eq-eqb, ne_eqb}
use Rattle.std.proofs.lemmas.Bool.{true≢false, cases_eq, cases_lt}
use Rattle.std.proofs.lemmas.List.{get_or-set_same, get_or-set_other, get_or_past, length-append}
use Rattle.std.proofs.lemmas.List.Folds.{list_any-append}
use Rattle.excision.specs.Left.{is_one_of}
use Rattle.excision.specs.Marks.{AreMarked}

or_true : (b : Bool) → (b || (true || false)) ≡ true
or_true true = refl
or_true false = refl

-- ---- one more number

module _ (old new : List ℕ) (m : ℕ) (e : new ≡ old ++ m ∷ []) where
  told : (n : ℕ) → is_one_of new n ≡ (is_one_of old n || (eqb m n || false))
  told n = ap (λ (xs : List ℕ). is_one_of xs n) e ∙ list_any-append (λ k. eqb k n) old (m ∷ [])

  pub waits_more : (n : ℕ) → is_one_of old n ≡ true → is_one_of new n ≡ true
  waits_more n w = told n ∙ ap (λ b. b || (eqb m n || false)) w

  pub waits_last : is_one_of new m ≡ true
  waits_last = told m ∙ ap (λ b. is_one_of old m || (b || false)) (eq-eqb m m refl) ∙ or_true (is_one_of old m)

  pub marked_more : (marks now : List Bool) → AreMarked marks old → ((n : ℕ) → get_or now n false ≡ true → (n ≡ m) ⊎ (get_or marks n false ≡ true)) → AreMarked now new
  marked_more marks now a h = record {
    each = λ n w. ⊎_elim (λ q. subst (λ (k : ℕ). is_one_of new k ≡ true) (sym q) waits_last) (λ v. waits_more n (a.each n v)) (h n w);
  }

  pub marked_before : (marks : List Bool) → AreMarked marks old → AreMarked marks new
  marked_before marks a = record { each = λ n w. waits_more n (a.each n w) }

-- ---- one less

module _ (old new : List ℕ) (m : ℕ) (e : old ≡ m ∷ new) where
  pub waits_rest : (n : ℕ) → is_one_of old n ≡ true → (n ≡ m) ⊎ (is_one_of new n ≡ true)
  waits_rest n w = ⊎_elim (λ q. inl q) (λ d. inr (ap (λ b. b || is_one_of new n) (sym (ne_eqb m n (λ q. d (sym q)))) ∙ sym (ap (λ (xs : List ℕ). is_one_of xs n) e) ∙ w)) (cases_eq n m)

  pub marked_rest : (marks now : List Bool) → AreMarked marks old → ((n : ℕ) → get_or now n false ≡ true → (n ≢ m) × (get_or marks n false ≡ true)) → AreMarked now new
  marked_rest marks now a h = record {
    each = λ n w. ⊎_elim (λ q. absurd ((h n w).0 q)) (λ v. v) (waits_rest n (a.each n (h n w).1));
  }

pub waits_none : (old : List ℕ) → old ≡ [] → (n : ℕ) → is_one_of old n ≡ false
waits_none old e n = ap (λ (xs : List ℕ). is_one_of xs n) e

-- ---- a mark is set

module _ (old new : List Bool) (i : ℕ) (b : Bool) (inside : i < length old) (e : new ≡ set old i b) where
  there : get_or new i false ≡ b
  there = ap (λ (xs : List Bool). get_or xs i false) e ∙ get_or-set_same old i b false inside

  other : (n : ℕ) → n ≢ i → get_or new n false ≡ get_or old n false
  other n d = ap (λ (xs : List Bool). get_or xs n false) e ∙ get_or-set_other old i n b false d

  pub mark_set : (n : ℕ) → get_or new n false ≡ true → (n ≡ i) ⊎ (get_or old n false ≡ true)
  mark_set n w = ⊎_elim (λ q. inl q) (λ d. inr (sym (other n d) ∙ w)) (cases_eq n i)

  pub mark_cleared : b ≡ false → (n : ℕ) → get_or new n false ≡ true → (n ≢ i) × (get_or old n false ≡ true)
  mark_cleared f n w = ⊎_elim
      (λ q. absurd (true≢false (sym w ∙ ap (λ k. get_or new k false) q ∙ there ∙ f)))
      (λ d. (d, sym (other n d) ∙ w))
      (cases_eq n i)

pub mark_past : (old : List Bool) (i : ℕ) → length old ≤ i → (n : ℕ) → get_or old n false ≡ true → (n ≢ i) × (get_or old n false ≡ true)
mark_past old i l n w = ((λ q. true≢false (sym w ∙ ap (λ k. get_or old k false) q ∙ get_or_past old i false l)), w)

-- ---- all numbers below a count

pub record BelowSo (numbers : List ℕ) (marks : List Bool) (i : ℕ) : Type 0 where
  pub count : length marks ≡ i
  pub waits : (n : ℕ) → n < i → is_one_of numbers n ≡ true

pub below_more : (numbers now : List ℕ) (marks new : List Bool) (i : ℕ) → now ≡ numbers ++ i ∷ [] → new ≡ marks ++ true ∷ [] → BelowSo numbers marks i → BelowSo now new (i + 1)
below_more numbers now marks new i e l s = record {
  count = ap length l ∙ length-append marks (true ∷ []) ∙ ap (λ (k : ℕ). k + 1) s.count;
  waits = λ n lt. ⊎_elim (λ k. waits_more numbers now i e n (s.waits n k)) (λ ge. subst (λ (k : ℕ). is_one_of now k ≡ true) (let q : i ≡ n = omega arith in q) (waits_last numbers now i e)) (cases_lt n i);
}

pub below_end : (numbers : List ℕ) (marks : List Bool) (i : ℕ) → BelowSo numbers marks i → AreMarked marks numbers
below_end numbers marks i s = record {
  each = λ n w. ⊎_elim (λ l. s.waits n (omega (arith, l, s.count))) (λ ge. absurd (true≢false (sym w ∙ get_or_past marks n false ge))) (cases_lt n (length marks));
}
