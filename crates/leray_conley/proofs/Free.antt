-- Columns with and without a pivot, and the vectors of the kernel that belong to the latter
use Rattle.std.proofs.Common.{◌≡◌, ◌≢◌, ℕ, ◌+◌, ◌*◌, ◌<◌, List, [], ◌∷◌, ◌++◌, length, get_or, refl, sym, ap, ◌∙◌, arith, ⊎_elim}
use Rattle.std.proofs.lemmas.List.{length_push, get_or_push, get_or_append_left}
use Rattle.field_mod.specs.Modular.{Same, minus}
use Rattle.field_mod.proofs.Modular.{same_refl, same_trans, same-add}
use Rattle.leray_conley.specs.Products.{identity}
use Rattle.leray_conley.specs.Echelons.{AreFree, kernel_matrix}
use Rattle.leray_conley.proofs.Totals.{exact, total-more}
use Rattle.leray_conley.proofs.Echelons.{below_cases, pushed_at}

pub free_none : (pivots : List ℕ) → AreFree 0 pivots []
free_none pivots = record { within = λ t l. absurd (omega arith); apart = λ t k l _. absurd (omega arith); every = λ c l _. absurd (omega arith); distinct = λ t u l _ _. absurd (omega arith) }

-- a column with a pivot is passed over
pub free_passed : (n : ℕ) (pivots free : List ℕ) (k : ℕ) → AreFree n pivots free → k < length pivots → get_or pivots k 0 ≡ n → AreFree (n + 1) pivots free
free_passed n pivots free k h lk e = record {
  within = λ t l. let a = h.within t l in omega arith;
  apart = h.apart;
  every = λ c l a. ⊎_elim (λ m. h.every c m a) (λ (m : c ≡ n). absurd (a k lk (e ∙ sym m))) (below_cases c n l);
  distinct = h.distinct;
}

-- one without a pivot is taken
pub free_taken : (n : ℕ) (pivots free : List ℕ) → AreFree n pivots free → ((k : ℕ) → k < length pivots → get_or pivots k 0 ≢ n) → AreFree (n + 1) pivots (free ++ n ∷ [])
free_taken n pivots free h a = record {
  within = λ t l. pushed_at 0 free n (length free) t (λ x. x < n + 1) refl (lower t l) (λ m. let b = h.within t m in omega arith) (λ m. omega arith);
  apart = λ t k l lk. pushed_at 0 free n (length free) t (λ x. get_or pivots k 0 ≢ x) refl (lower t l) (λ m. h.apart t k m lk) (λ m. a k lk);
  every = λ c l b. ⊎_elim
      (λ m. let w = h.every c m b in (w.0, (let q = w.1 in omega (arith, length_push free n)), (get_or_append_left free (n ∷ []) 0 w.0 w.1 ∙ w.2)))
      (λ (m : c ≡ n). (length free, (omega (arith, length_push free n)), (get_or_push free n 0 (length free) refl ∙ sym m)))
      (below_cases c n l);
  distinct = λ t u l m. pushed_at 0 free n (length free) t (λ x. x ≡ get_or (free ++ n ∷ []) u 0 → t ≡ u) refl (lower t l)
      (λ lt. pushed_at 0 free n (length free) u (λ y. get_or free t 0 ≡ y → t ≡ u) refl (lower u m) (λ lu. h.distinct t u lt lu) (λ eu q. let w = h.within t lt in absurd (omega arith)))
      (λ et. pushed_at 0 free n (length free) u (λ y. n ≡ y → t ≡ u) refl (lower u m) (λ lu q. let w = h.within u lu in absurd (omega arith)) (λ eu q. et ∙ sym eu));
}
  where
    lower : (t : ℕ) → t < length (free ++ n ∷ []) → t < length free + 1
    lower t l = omega (arith, length_push free n)

-- one more pivot row in the entry l of column c of the kernel matrix
pub kernel_more : (p k : ℕ) (b : ℕ → ℕ → ℕ) (pivot : ℕ → ℕ) (l c old new : ℕ) → Same p old (kernel_matrix p k b pivot l c) → Same p new (old + identity l (pivot k) * minus p (b k c)) → Same p new (kernel_matrix p (k + 1) b pivot l c)
kernel_more p k b pivot l c old new h e =
    let t = total-more k (λ i. identity l (pivot i) * minus p (b i c)) in
    same_trans e (same_trans (same-add h (same_refl p (identity l (pivot k) * minus p (b k c)))) (exact (omega arith)))

pub one_more : (p v i m x y : ℕ) → x ≡ v → y ≡ m → i ≡ 1 → x + minus p y ≡ v + i * minus p m
one_more p v i m x y ex ey ei =
    let a = ap (λ (z : ℕ). z * minus p m) ei in
    let b = ap (minus p) ey in
    omega arith

pub none_more : (p v i m : ℕ) → i ≡ 0 → v ≡ v + i * minus p m
none_more p v i m ei = let a = ap (λ (z : ℕ). z * minus p m) ei in omega arith
