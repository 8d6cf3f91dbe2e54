-- The numbers of generators in their degrees.
use Rattle.std.proofs.Common.{◌≡◌, ℕ, zero, suc, ◌+◌, ◌-◌, ◌<◌, ◌≤◌, ◌==◌, nat_lt, ltb, List, [], ◌∷◌, length, take, get_or, refl, sym, ap, ◌∙◌, arith, ⊎_elim, cond, eqb, eq-eqb, ne_eqb, sum, Result, Ok, Err, IfOk}
use Rattle.std.proofs.lemmas.Bool.{cases_lt, cases_eq, lt-ltb, le-ltb}
use Rattle.std.proofs.lemmas.List.{take_all}
use Rattle.std.proofs.lemmas.List.Sums.{count_by-le-length, count_by_more_yes, count_by_more_no, sum_by-cons, sum_by-take-le, sum_by_more}
use Rattle.chain_files.specs.Complexes.{count_in, count_below, AreByDegree, AreCountsBelow}
use Rattle.chain_files.specs.Making.{AreCounts, AreSumsBefore}
use Rattle.chain_files.proofs.Counting.{count_yes, count_no}

-- ---- one degree more

one_more : (x k : ℕ) → cond (ltb x (k + 1)) 1 0 ≡ cond (ltb x k) 1 0 + cond (eqb x k) 1 0
one_more x k = ⊎_elim
    (λ l. rw (lt-ltb x (k + 1) (omega arith), lt-ltb x k l, ne_eqb x k (omega arith)) refl)
    (λ l. ⊎_elim
    (λ e. rw (lt-ltb x (k + 1) (omega arith), le-ltb x k l, eq-eqb x k e) refl)
    (λ n. rw (le-ltb x (k + 1) (omega arith), le-ltb x k l, ne_eqb x k n) refl)
    (cases_eq x k))
    (cases_lt x k)

count_below-cons : (x : ℕ) (xs : List ℕ) (k : ℕ) → count_below (x ∷ xs) k ≡ cond (ltb x k) 1 0 + count_below xs k
count_below-cons x xs k = sum_by-cons (λ d. cond (nat_lt d k) 1 0) x xs

count_in-cons : (x : ℕ) (xs : List ℕ) (k : ℕ) → count_in (x ∷ xs) k ≡ cond (eqb x k) 1 0 + count_in xs k
count_in-cons x xs k = sum_by-cons (λ d. cond (d == k) 1 0) x xs

pub count_below-suc : (xs : List ℕ) (k : ℕ) → count_below xs (k + 1) ≡ count_below xs k + count_in xs k
count_below-suc [] k = refl
count_below-suc (x ∷ xs) k = omega (arith, one_more x k, count_below-suc xs k, count_below-cons x xs (k + 1), count_below-cons x xs k, count_in-cons x xs k)

none_below : (xs : List ℕ) → count_below xs 0 ≡ 0
none_below [] = refl
none_below (x ∷ xs) =
    let z : ◌≡◌ {A = ℕ} (cond (ltb x 0) 1 0) 0 = rw (le-ltb x 0 (omega arith)) refl in
    omega (arith, z, none_below xs, count_below-cons x xs 0)

-- ---- generators that are numbered degree by degree

pub record IsNumbered (degrees : List ℕ) (k h : ℕ) : Type 0 where
  pub number : count_below degrees k + count_in (take h degrees) k ≡ h
  pub inside : count_in (take h degrees) k < count_in degrees k

below_yes : (degrees : List ℕ) (i k : ℕ) → i < length degrees → get_or degrees i 0 < k → count_below (take (i + 1) degrees) k ≡ count_below (take i degrees) k + 1
below_yes degrees i k l m = count_by_more_yes (λ d. nat_lt d k) degrees i 0 l (lt-ltb (get_or degrees i 0) k m)

below_no : (degrees : List ℕ) (i k : ℕ) → i < length degrees → k ≤ get_or degrees i 0 → count_below (take (i + 1) degrees) k ≡ count_below (take i degrees) k
below_no degrees i k l m = count_by_more_no (λ d. nat_lt d k) degrees i 0 l (le-ltb (get_or degrees i 0) k m)

module _ (top : ℕ) (degrees : List ℕ) (numbered : AreByDegree top degrees) (k h : ℕ) (l : h < length degrees) (e : get_or degrees h 0 ≡ k) where
  before : (i : ℕ) → i ≤ h → count_below (take i degrees) k + count_in (take i degrees) k ≡ i
  before zero m = refl
  before (suc i) m =
      let low = numbered.ascending i h (omega arith) l in
      let rest = before i (omega arith) in
      rw (sym (add_one i)) (⊎_elim
      (λ s. omega (arith, below_yes degrees i k (omega arith) s, count_no degrees i k (omega arith) (omega arith), rest))
      (λ s. omega (arith, below_no degrees i k (omega arith) s, count_yes degrees i k (omega arith) (omega (arith, low, e, s)), rest))
      (cases_lt (get_or degrees i 0) k))
    where
      add_one : (n : ℕ) → n + 1 ≡ suc n
      add_one n = omega arith

  behind : (j : ℕ) → h + j ≤ length degrees → count_below (take (h + j) degrees) k ≡ count_below (take h degrees) k
  behind zero m = ap (λ n. count_below (take n degrees) k) (omega arith)
  behind (suc j) m =
      let high = numbered.ascending h (h + j) (omega arith) (omega arith) in
      let next : h + suc j ≡ h + j + 1 = omega arith in
      ap (λ n. count_below (take n degrees) k) next ∙ below_no degrees (h + j) k (omega arith) (omega (arith, high, e)) ∙ behind j (omega arith)

  all_below : count_below degrees k ≡ count_below (take h degrees) k
  all_below =
      let to_end : h + (length degrees - h) ≡ length degrees = omega arith in
      sym (ap (λ ds. count_below ds k) (take_all (length degrees) degrees (omega arith))) ∙ ap (λ n. count_below (take n degrees) k) (sym to_end) ∙ behind (length degrees - h) (omega arith)

  pub numbered_at : IsNumbered degrees k h
  numbered_at = record {
    number = omega (arith, all_below, before h (omega arith));
    inside = omega (arith, count_yes degrees h k l e, sum_by-take-le (λ d. cond (d == k) 1 0) degrees (h + 1));
  }

-- ---- sums of the counts

module _ (degrees counts : List ℕ) (top : ℕ) (are : AreCounts degrees top counts) where
  sums_below : (k : ℕ) → k ≤ top + 1 → sum (take k counts) ≡ count_below degrees k
  sums_below zero l = sym (none_below degrees)
  sums_below (suc k) l =
      let next : suc k ≡ k + 1 = omega arith in
      ap (λ n. sum (take n counts)) next
      ∙ sum_by_more (λ x. x) counts k 0 (omega (arith, are.long))
      ∙ omega (arith, sums_below k (omega arith), are.each k (omega (arith, are.long)), count_below-suc degrees k)
      ∙ ap (count_below degrees) (sym next)

  pub few_sums : sum counts ≤ length degrees
  few_sums = omega (arith, ap sum (take_all (top + 1) counts (omega (arith, are.long))), sums_below (top + 1) (omega arith), count_by-le-length (λ d. nat_lt d (top + 1)) degrees)

  pub counts_below : (sums : List ℕ) → AreSumsBefore counts (length counts) sums → AreCountsBelow degrees top sums
  counts_below sums h = record {
    long = h.long ∙ are.long;
    each = λ k l. h.each k (omega (arith, are.long)) ∙ sums_below k (omega arith);
  }

pub if_ok_map : {A E : Type 0} (P Q : A → Type 0) (r : Result A E) → ((x : A) → P x → Q x) → IfOk r P → IfOk r Q
if_ok_map P Q (Ok x) f h = f x h
if_ok_map P Q (Err e) f h = tt
