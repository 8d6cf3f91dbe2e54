-- What the rows of a matrix in reduced form tell: its kernel, a basis of its image, its rank
use Rattle.std.proofs.Common.{◌≡◌, ◌≢◌, ℕ, zero, suc, ◌+◌, ◌-◌, ◌*◌, ◌<◌, ◌≤◌, ◌⊎◌, inl, inr, sym, ap, ◌∙◌, arith, ⊎_elim, cond, eqb}
use Rattle.std.proofs.lemmas.Bool.{cases_lt}
use Rattle.field_mod.specs.Sums.{total}
use Rattle.field_mod.specs.Modular.{Same, IsField, minus}
use Rattle.field_mod.proofs.Sums.{total-same, total-scale, total_same, total-single, total_none}
use Rattle.field_mod.proofs.Modular.{same_by, same_refl, same_sym, same_trans, same-add, same-scale, same-mul, neg_cancel, one_nonzero}
use Rattle.leray_conley.specs.Products.{product, identity, none, AreSame}
use Rattle.leray_conley.specs.Kernels.{IsInKernel, IsInjective, IsKilled}
use Rattle.leray_conley.specs.Echelons.{IsEchelon, kernel_matrix}
use Rattle.leray_conley.specs.Ranks.{IsImageBasis, IsRank}
use Rattle.leray_conley.proofs.Algebra.{plus, by, chain, add, itself, mul_left, mul_right, assoc, mul_sum, one_mul, mul_one, mul_none}
use Rattle.leray_conley.proofs.Echelons.{identity_same, identity_other, same_or_not}
use Rattle.leray_conley.proofs.Totals.{exact, total-at}
use Rattle.field_mod.proofs.Solutions.{solve}

-- a vector as a matrix with one column
abbrev pub column : (ℕ → ℕ) → ℕ → ℕ → ℕ
column v i j = v i

-- the matrix that picks the columns at the pivots
abbrev pub picks : (ℕ → ℕ) → ℕ → ℕ → ℕ
picks pivot l k = identity l (pivot k)

abbrev negatives : ℕ → (ℕ → ℕ → ℕ) → ℕ → ℕ → ℕ
negatives p b k c = minus p (b k c)

-- column c of a product with an identity
pub picked : (n : ℕ) (x : ℕ → ℕ) (c : ℕ) → c < n → total n (λ l. x l * identity l c) ≡ x c
picked n x c l = total-same n (λ l. x l * identity l c) (λ l. cond (eqb c l) 1 0 * x l) (λ l m. omega arith) ∙ total-single n c 1 x l ∙ omega arith

-- a number among the first n values of a function
pub among : (n : ℕ) (f : ℕ → ℕ) (c : ℕ) → ((k : ℕ) × (k < n) × (f k ≡ c)) ⊎ ((k : ℕ) → k < n → f k ≢ c)
among zero f c = inr (λ k l. absurd (omega arith))
among (suc n) f c =
    elim (same_or_not (f 0) c) [
      | inl e ↦ inl (0, (omega arith), e)
      | inr d ↦ elim (among n (λ k. f (suc k)) c) [
        | inl w ↦ inl (suc w.0, (let q = w.1 in omega arith), w.2)
        | inr h ↦ inr (λ k. elim k as (λ r. r < suc n → f r ≢ c) [ zero ↦ λ l. d | suc r ↦ λ l. h r (omega arith) ])
      ]
    ]

-- ---- rows in reduced form alone

module _ (p n r : ℕ) (field : IsField p) (b : ℕ → ℕ → ℕ) (pivot : ℕ → ℕ) (e : IsEchelon p n r b pivot) where
  one : 1 ≤ p
  one = let t = field.above_one in omega arith

  pub at_pivots : (a : ℕ → ℕ → ℕ) (i k : ℕ) → k < r → product n a (picks pivot) i k ≡ a i (pivot k)
  at_pivots a i k l = picked n (a i) (pivot k) (e.columns k l)

  pub unit_picks : AreSame p r r (product n b (picks pivot)) identity
  unit_picks = record { at = λ i k x y. same_trans (exact (at_pivots b i k y)) (e.unit i k x y) }

  pub kernel_dies : AreSame p r n (product n b (kernel_matrix p r b pivot)) none
  kernel_dies =
      let neg = negatives p b in
      chain (mul_sum p r n n b identity (product r (picks pivot) neg))
      (chain (add (mul_one p r n b) (chain (by (assoc p r n r n b (picks pivot) neg)) (chain (mul_left p r r n (product n b (picks pivot)) identity neg unit_picks) (one_mul p r n neg))))
      (record { at = λ i j x y. let o = neg_cancel p (b i j) one in same_by p 0 (b i j) _ _ (omega arith) }))

  -- no more rows than columns
  pub rows_fit : r ≤ n
  rows_fit = ⊎_elim
      (λ l.
      let s = solve p field n r l (picks pivot) in
      let v : ℕ → ℕ = s.at in
      let z : AreSame p n 1 (product r (picks pivot) (column v)) none = record { at = λ i j x y. same_trans (exact (total-same r (λ k. picks pivot i k * v k) (λ k. v k * picks pivot i k) (λ k _. omega arith))) (s.solves i x) } in
      let w : AreSame p r 1 (column v) none = chain (by (one_mul p r 1 (column v))) (chain (mul_left p r r 1 identity (product n b (picks pivot)) (column v) (by unit_picks)) (chain (assoc p r n r 1 b (picks pivot) (column v)) (chain (mul_right p r n 1 b (product r (picks pivot) (column v)) none z) (mul_none p r n 1 b)))) in
      absurd (s.nonzero (w.at s.place 0 s.within (omega arith))))
      (λ l. l)
      (cases_lt n r)

  -- the entry of the kernel matrix in the row of a column without a pivot
  pub kernel_free : (l c : ℕ) → ((k : ℕ) → k < r → pivot k ≢ l) → Same p (kernel_matrix p r b pivot l c) (identity l c)
  kernel_free l c h = same_trans (same-add (same_refl p (identity l c)) (total_none p r (λ k. identity l (pivot k) * minus p (b k c)) (λ k m. exact (ap (λ (x : ℕ). x * minus p (b k c)) (identity_other l (pivot k) (h k m)) ∙ omega arith)))) (exact (omega arith))

  pub pivots_apart : (i k : ℕ) → i < r → k < r → pivot i ≡ pivot k → i ≡ k
  pivots_apart i k x y q = ⊎_elim
      (λ s. s)
      (λ s. absurd (one_nonzero p field.above_one (same_trans (exact (sym (identity_same i))) (same_trans (same_sym (e.unit i i x x)) (same_trans (exact (ap (b i) q)) (same_trans (e.unit i k x y) (exact (identity_other i k (λ t. s (sym t))))))))))
      (same_or_not i k)

  -- a row in a column that has a pivot
  pub unit_row : (k c : ℕ) → k < r → (u : (i : ℕ) × (i < r) × (pivot i ≡ c)) → Same p (b k c) (identity (pivot k) c)
  unit_row k c l u = same_trans (exact (ap (b k) (sym u.2))) (same_trans (e.unit k u.0 l u.1) (⊎_elim
      (λ q. exact (ap (identity k) q ∙ identity_same k ∙ sym (ap (identity (pivot k)) (sym u.2 ∙ ap pivot q) ∙ identity_same (pivot k))))
      (λ q. exact (identity_other k u.0 q ∙ sym (identity_other (pivot k) c (λ s. q (pivots_apart u.0 k u.1 l (u.2 ∙ s))))))
      (same_or_not u.0 k)))

  -- where each column has a pivot, the kernel is 0
  pub all_pivots : ((c : ℕ) → c < n → (k : ℕ) × (k < r) × (pivot k ≡ c)) → IsInjective p r n b
  all_pivots h v z j l =
      let w = h j l in
      let k = w.0 in
      let row : (c : ℕ) → c < n → Same p (b k c) (identity j c) = λ c m. same_trans (unit_row k c w.1 (h c m)) (exact (ap (λ (x : ℕ). identity x c) w.2)) in
      same_trans (exact (sym (total-at n j v l))) (same_trans (same_sym (total_same p n (λ c. b k c * v c) (λ c. identity j c * v c) (λ c m. same-mul (row c m) (same_refl p (v c))))) (z k w.1))

  -- .. and the same for a matrix a of m rows with the same kernel
  module _ (m : ℕ) (a : ℕ → ℕ → ℕ) (forth : (v : ℕ → ℕ) → IsInKernel p m n a v → IsInKernel p r n b v) (back : (v : ℕ → ℕ) → IsInKernel p r n b v → IsInKernel p m n a v) where
    pub image : ℕ → ℕ → ℕ
    image = product n a (picks pivot)

    pub special_dies : AreSame p m n (product n a (kernel_matrix p r b pivot)) none
    special_dies = record { at = λ i c x y. back (λ l. kernel_matrix p r b pivot l c) (λ k z. kernel_dies.at k c z y) i x }

    pub spans : AreSame p m n a (product r (product n a (picks pivot)) b)
    spans =
        let neg = negatives p b in
        let x = product n a (picks pivot) in
        let z : AreSame p m n (plus a (product r x neg)) none = chain (add (by (mul_one p m n a)) (assoc p m n r n a (picks pivot) neg)) (chain (by (mul_sum p m n n a identity (product r (picks pivot) neg))) special_dies) in
        record {
          at = λ i j u w.
              let y = product r x b i j in
              let s = total-same r (λ k. x i k * minus p (b k j)) (λ k. (p - 1) * (x i k * b k j)) (λ k _. omega arith) ∙ total-scale r (p - 1) (λ k. x i k * b k j) in
              let o = neg_cancel p y one in
              same_trans (same_by p y 0 (a i j) ((a i j + product r x neg i j) + y) (omega arith)) (same_trans (same-add (z.at i j u w) (same_refl p y)) (exact (omega arith)));
        }

    pub independent : IsInjective p m r (product n a (picks pivot))
    independent v z j l =
        let w = product r (picks pivot) (column v) in
        let t : IsInKernel p m n a (λ i. w i 0) = λ i x. same_trans (same_sym ((assoc p m n r 1 a (picks pivot) (column v)).at i 0 x (omega arith))) (z i x) in
        let u : AreSame p r 1 (product n b w) none = record { at = λ i k x y. forth (λ i. w i 0) t i x } in
        (chain (by (one_mul p r 1 (column v))) (chain (mul_left p r r 1 identity (product n b (picks pivot)) (column v) (by unit_picks)) (chain (assoc p r n r 1 b (picks pivot) (column v)) u))).at j 0 l (omega arith)

    pub image_basis : IsImageBasis p m n a r (product n a (picks pivot))
    image_basis = record { sources = picks pivot; inside = itself p m r (product n a (picks pivot)); weights = b; spans = spans; independent = independent }

    pub rank : IsRank p m n a r
    rank = (product n a (picks pivot), image_basis)

    -- a column without a pivot gives a vector of the kernel that is not 0
    pub free_killed : (c : ℕ) → c < n → ((k : ℕ) → k < r → pivot k ≢ c) → (v : ℕ → ℕ) → ((l : ℕ) → l < n → Same p (v l) (kernel_matrix p r b pivot l c)) → IsKilled p m n a v
    free_killed c lc h v s = record {
      place = c;
      within = lc;
      nonzero = λ z. one_nonzero p field.above_one (same_trans (same_sym (same_trans (s c lc) (same_trans (kernel_free c c h) (exact (identity_same c))))) z);
      kills = λ i x. same_trans (total_same p n (λ l. a i l * v l) (λ l. a i l * kernel_matrix p r b pivot l c) (λ l y. same-scale (a i l) (s l y))) (special_dies.at i c x lc);
    }

    -- without such a column there is none
    pub none_killed : ((c : ℕ) → c < n → (k : ℕ) × (k < r) × (pivot k ≡ c)) → (v : ℕ → ℕ) → IsKilled p m n a v → ⊥
    none_killed h v k = k.nonzero (all_pivots h v (forth v k.kills) k.place k.within)
