-- The sum of terms in which equal generators stand together
use Rattle.std.proofs.Common.{◌≡◌, ◌≢◌, ℕ, ◌+◌, ◌*◌, ◌/◌, ◌%◌, ◌^◌, ◌<◌, ◌≤◌, refl, sym, ap, ◌∙◌, arith, List, [], ◌∷◌, length, get_or, drop, true, false, cond, eqb, mod-eq_of_lt}
use Rattle.std.specs.List.{sum_by}
use Rattle.std.specs.List.Sorted.{IsNonDecreasingBy, IsPermutation}
use Rattle.std.proofs.lemmas.List.{drop_more, drop_all}
use Rattle.std.proofs.lemmas.List.Sorted.{sum_by-IsPermutation}
use Rattle.std.proofs.lemmas.List.Sums.{sum_by-cons}
use Rattle.field_mod.specs.Modular.{Same}
use Rattle.field_mod.proofs.Modular.{same_by, same_trans}
use Rattle.chains.specs.Terms.{coefficient, IsNormal, IsNormalWithin, push_term}
use Rattle.chains.proofs.TermLists.{widened, coefficient-lt, coefficient-push_term, IsNormalWithin-push_term}

-- the order of the terms does not matter
coefficient-sum_by : (ts : List (ℕ × ℕ)) (g : ℕ) → coefficient ts g ≡ sum_by (λ (t : ℕ × ℕ). cond (eqb t.0 g) t.1 0) ts
coefficient-sum_by [] g = refl
coefficient-sum_by (t ∷ ts) g = ap (λ n. cond (eqb t.0 g) t.1 0 + n) (coefficient-sum_by ts g) ∙ sym (sum_by-cons (λ (u : ℕ × ℕ). cond (eqb u.0 g) u.1 0) t ts)

pub coefficient-permutation : (ts us : List (ℕ × ℕ)) (g : ℕ) → IsPermutation ts us → coefficient us g ≡ coefficient ts g
coefficient-permutation ts us g h = coefficient-sum_by us g ∙ sum_by-IsPermutation (λ (t : ℕ × ℕ). cond (eqb t.0 g) t.1 0) ts us h ∙ sym (coefficient-sum_by ts g)

-- the first i terms are summed in sums, but for those of the generator g, whose sum is s
pub record Summing (p g s i : ℕ) (ts sums : List (ℕ × ℕ)) : Type 0 where
  pub done : IsNormalWithin p 0 g sums
  pub short : g < 2 ^ 32
  pub below : s < p
  pub ahead : (k : ℕ) → i ≤ k → k < length ts → g ≤ (get_or ts k (0, 0)).0
  pub same : (h : ℕ) → Same p (coefficient sums h + cond (eqb g h) s 0 + coefficient (drop i ts) h) (coefficient ts h)

pub sum_start : (p g s : ℕ) (ts sums : List (ℕ × ℕ)) → 0 < p → g ≡ 0 → s ≡ 0 → sums ≡ [] → Summing p g s 0 ts sums
sum_start p g s ts sums pos eg es e = record {
  done = rw (e, eg) (omega arith);
  short = omega arith;
  below = omega arith;
  ahead = λ k l m. omega arith;
  same = λ h. rw (e, es) (elim (eqb g h) as (λ v. Same p (0 + cond v 0 0 + coefficient (drop 0 ts) h) (coefficient ts h)) [ true ↦ same_by p 0 0 _ _ (omega arith) | false ↦ same_by p 0 0 _ _ (omega arith) ]);
}

-- one more term beside the sum s of the generator g: n is the new sum
added : (p s n a x y g h : ℕ) → n ≡ (s + a % p) % p → Same p (x + cond (eqb g h) n 0 + y) (x + cond (eqb g h) s 0 + (cond (eqb g h) a 0 + y))
added p s n a x y g h e =
    elim (eqb g h) as (λ v. Same p (x + cond v n 0 + y) (x + cond v s 0 + (cond v a 0 + y))) [
      | true ↦ same_by p (a / p + (s + a % p) / p) 0 _ _ (omega arith)
      | false ↦ same_by p 0 0 _ _ (omega arith)
    ]

-- one more term of the same generator
sum_more_by : (p g s n : ℕ) (t : ℕ × ℕ) (rest sums : List (ℕ × ℕ)) → t.0 ≡ g → n ≡ (s + t.1 % p) % p → (h : ℕ) → Same p (coefficient sums h + cond (eqb g h) n 0 + coefficient rest h) (coefficient sums h + cond (eqb g h) s 0 + coefficient (t ∷ rest) h)
sum_more_by p g s n t rest sums e en h = rw e (added p s n t.1 (coefficient sums h) (coefficient rest h) g h en)

pub sum_more : (p g s n i : ℕ) (ts sums : List (ℕ × ℕ)) → Summing p g s i ts sums → i < length ts → (get_or ts i (0, 0)).0 ≡ g → n ≡ (s + (get_or ts i (0, 0)).1 % p) % p → n < p → Summing p g n (i + 1) ts sums
sum_more p g s n i ts sums m l e en below = record {
  done = m.done;
  short = m.short;
  below = below;
  ahead = λ k j q. m.ahead k (omega arith) q;
  same = λ h.
      let was = rw (drop_more ts i (0, 0) l) at (m.same h) in
      same_trans (sum_more_by p g s n (get_or ts i (0, 0)) (drop (i + 1) ts) sums e en h) was;
}

-- a term of a greater generator: the sum of the one before goes to the end
sum_next_by : (p g s n : ℕ) (t : ℕ × ℕ) (rest sums new : List (ℕ × ℕ)) → new ≡ push_term sums g s → n ≡ (0 + t.1 % p) % p → (h : ℕ) → Same p (coefficient new h + cond (eqb t.0 h) n 0 + coefficient rest h) (coefficient sums h + cond (eqb g h) s 0 + coefficient (t ∷ rest) h)
sum_next_by p g s n t rest sums new e en h =
    let c : coefficient new h ≡ coefficient sums h + cond (eqb g h) s 0 = ap (λ us. coefficient us h) e ∙ coefficient-push_term sums g s h in
    let zero_here : cond (eqb t.0 h) 0 0 ≡ 0 = elim (eqb t.0 h) as (λ v. ◌≡◌ {A = ℕ} (cond v 0 0) 0) [ true ↦ refl | false ↦ refl ] in
    let whole : coefficient new h + cond (eqb t.0 h) 0 0 + (cond (eqb t.0 h) t.1 0 + coefficient rest h) ≡ coefficient sums h + cond (eqb g h) s 0 + coefficient (t ∷ rest) h = rw zero_here (omega arith) in
    same_trans (added p 0 n t.1 (coefficient new h) (coefficient rest h) t.0 h en) (same_by p 0 0 _ _ (ap (λ v. v + p * 0) whole))

pub sum_next : (p g s n i : ℕ) (ts sums new : List (ℕ × ℕ)) → Summing p g s i ts sums → i < length ts → (get_or ts i (0, 0)).0 ≢ g → (get_or ts i (0, 0)).0 < 2 ^ 32 → IsNonDecreasingBy (λ (t : ℕ × ℕ). t.0) ts → new ≡ push_term sums g s → n ≡ (0 + (get_or ts i (0, 0)).1 % p) % p → n < p → Summing p (get_or ts i (0, 0)).0 n (i + 1) ts new
sum_next p g s n i ts sums new m l ne short sorted e en below =
    let a = m.ahead i (omega arith) l in
    record {
      done = rw e (widened p 0 (g + 1) (get_or ts i (0, 0)).0 (push_term sums g s) (IsNormalWithin-push_term p g g s sums m.done (omega arith) m.below) (omega arith));
      short = short;
      below = below;
      ahead = λ k j q. sorted i k (0, 0) (omega arith) q;
      same = λ h.
          let was = rw (drop_more ts i (0, 0) l) at (m.same h) in
          same_trans (sum_next_by p g s n (get_or ts i (0, 0)) (drop (i + 1) ts) sums new e en h) was;
    }

pub sum_end : (p g s i : ℕ) (ts sums new : List (ℕ × ℕ)) → 0 < p → Summing p g s i ts sums → length ts ≤ i → new ≡ push_term sums g s → IsNormal p new × ((h : ℕ) → coefficient new h ≡ coefficient ts h % p)
sum_end p g s i ts sums new pos m l e =
    let done : IsNormalWithin p 0 (2 ^ 32) new = rw e (widened p 0 (g + 1) (2 ^ 32) (push_term sums g s) (IsNormalWithin-push_term p g g s sums m.done (omega arith) m.below) (let q = m.short in omega arith)) in (
      done,
      (λ h.
          let c : coefficient new h ≡ coefficient sums h + cond (eqb g h) s 0 = ap (λ us. coefficient us h) e ∙ coefficient-push_term sums g s h in
          let z : coefficient (drop i ts) h ≡ 0 = ap (λ us. coefficient us h) (drop_all i ts l) in
          sym (mod-eq_of_lt (coefficient-lt p 0 (2 ^ 32) new h pos done)) ∙ (same_trans (same_by p 0 0 (coefficient new h) (coefficient sums h + cond (eqb g h) s 0 + coefficient (drop i ts) h) (omega arith)) (m.same h)).same),
    )
