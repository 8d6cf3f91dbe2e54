-- A binary search for a generator in a list of terms in normal form
use Rattle.std.proofs.Common.{◌≡◌, ◌≢◌, ℕ, zero, suc, ◌+◌, ◌^◌, ◌<◌, ◌≤◌, refl, sym, ap, subst, ◌∙◌, arith, ⊎_elim, List, [], ◌∷◌, length, get_or, ne_eqb, Result, Ok, Err, IfOk, IfErr}
use Rattle.std.proofs.lemmas.Bool.{cases_lt}
use Rattle.std.specs.List.Sorted.{IsSearchInRange, IsBinarySearchResult, IsNonDecreasingBy}
use Rattle.std.specs.Ordering.{nat_cmp, ordering_index}
use Rattle.std.proofs.lemmas.Cmp.{ranked}
use Rattle.std.proofs.lemmas.List.Sorted.{IsNonDecreasingBy-from_default}
use Rattle.std.proofs.lemmas.Bool.Decides.{nat_tests}
use Rattle.chains.specs.Terms.{coefficient, IsNormal, IsNormalWithin}
use Rattle.chains.proofs.TermLists.{named_at}

-- a generator that no term has
pub coefficient-absent : (ts : List (ℕ × ℕ)) (g : ℕ) → ((k : ℕ) → k < length ts → (get_or ts k (0, 0)).0 ≢ g) → coefficient ts g ≡ 0
coefficient-absent [] g h = refl
coefficient-absent (t ∷ ts) g h =
    let n : t.0 ≢ g = h 0 (omega arith) in
    rw (ne_eqb t.0 g n) (omega (arith, coefficient-absent ts g (λ k l. h (suc k) (omega arith))))

-- every generator is at least the lowest place
pub at_least_low : (p low high : ℕ) (ts : List (ℕ × ℕ)) (i : ℕ) → IsNormalWithin p low high ts → i < length ts → low ≤ (get_or ts i (0, 0)).0
at_least_low p low high ts i h l = (named_at p low high ts i h l).0

-- the generators ascend
pub ascending : (p low high : ℕ) (ts : List (ℕ × ℕ)) (i j : ℕ) → IsNormalWithin p low high ts → i < j → j < length ts → (get_or ts i (0, 0)).0 < (get_or ts j (0, 0)).0
ascending p low high [] i j h l m = absurd (omega arith)
ascending p low high (t ∷ ts) i zero h l m = absurd (omega arith)
ascending p low high (t ∷ ts) zero (suc j) h l m = let e = at_least_low p (t.0 + 1) high ts j h.3 (omega arith) in omega arith
ascending p low high (t ∷ ts) (suc i) (suc j) h l m = ascending p (t.0 + 1) high ts i j h.3 (omega arith) (omega arith)

not_descending : (p : ℕ) (ts : List (ℕ × ℕ)) (i j : ℕ) → IsNormal p ts → i ≤ j → j < length ts → (get_or ts i (0, 0)).0 ≤ (get_or ts j (0, 0)).0
not_descending p ts i j h l m =
    ⊎_elim
    (λ k. let e : (get_or ts i (0, 0)).0 < (get_or ts j (0, 0)).0 = ascending p 0 (2 ^ 32) ts i j h k m in omega arith)
    (λ (k : j ≤ i). let e : i ≡ j = omega arith in let P : ℕ → Type 0 = λ n. (get_or ts i (0, 0)).0 ≤ (get_or ts n (0, 0)).0 in subst P e (omega arith))
    (cases_lt i j)

comparisons_rise : (p : ℕ) (ts : List (ℕ × ℕ)) (g : ℕ) → IsNormal p ts → IsNonDecreasingBy (λ (t : ℕ × ℕ). ordering_index (nat_cmp t.0 g)) ts
comparisons_rise p ts g h =
    IsNonDecreasingBy-from_default (λ (t : ℕ × ℕ). ordering_index (nat_cmp t.0 g)) ts (0, 0) (λ i j le lt.
    let e = not_descending p ts i j h le lt in
    grind (arith, nat_tests))

-- what the search ends at
pub looked_up : (p : ℕ) (ts : List (ℕ × ℕ)) (g : ℕ) → IsNormal p ts → (r : Result ℕ ℕ) → IsSearchInRange r (length ts) → IsBinarySearchResult (λ (t : ℕ × ℕ). nat_cmp t.0 g) ts r → record { found : IfOk r (λ i. (i < length ts) × (coefficient ts g ≡ (get_or ts i (0, 0)).1)); absent : IfErr r (λ i. coefficient ts g ≡ 0) }
looked_up p ts g h (Ok at) in_range equal = record {
  found =
      let e : (get_or ts at (0, 0)).0 ≡ g = ranked _ g _ (sym (equal (0, 0))) in
      (in_range, (ap (λ k. coefficient ts k) (sym e) ∙ (named_at p 0 (2 ^ 32) ts at h in_range).2));
  absent = tt;
}
looked_up p ts g h (Err at) in_range parted = record {
  found = tt;
  absent = coefficient-absent ts g (λ k l e. ⊎_elim
      (λ below. let s : (get_or ts k (0, 0)).0 < g = ranked _ g _ (sym ((parted (comparisons_rise p ts g h)).0 k (0, 0) (omega arith) below)) in omega arith)
      (λ above. let s : g < (get_or ts k (0, 0)).0 = ranked _ g _ (sym ((parted (comparisons_rise p ts g h)).1 k (0, 0) above l)) in omega arith)
      (cases_lt k at));
}
