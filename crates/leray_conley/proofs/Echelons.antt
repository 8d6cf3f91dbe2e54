-- Rows in reduced form: clearing a row, and taking one more in
use Rattle.std.proofs.Common.{◌≡◌, ℕ, ◌+◌, ◌-◌, ◌*◌, ◌%◌, ◌<◌, ◌⊎◌, refl, sym, ap, ◌∙◌, arith, ⊎_elim, eq-eqb, ne_eqb, inl, inr, List, [], ◌∷◌, ◌++◌, length, get_or, set}
use Rattle.std.proofs.lemmas.Bool.{cases_lt}
use Rattle.std.proofs.lemmas.List.{get_or-set_same, get_or-set_other, get_or_append_left, get_or_push}
use native.Mathlib.Nat.{mod-mod}
use Rattle.field_mod.specs.Modular.{Same, minus}
use Rattle.field_mod.proofs.Sums.{total-same, total-add, total-scale, total_same}
use Rattle.field_mod.proofs.Modular.{same_by, same_refl, same_sym, same_trans, same-add, same-scale, same-mul, neg_cancel}
use Rattle.leray_conley.specs.Products.{identity}
use Rattle.leray_conley.specs.Kernels.{IsInKernel}
use Rattle.leray_conley.specs.Echelons.{along, IsEchelon}
use Rattle.leray_conley.proofs.Totals.{exact}

pub same_mod : (p a : ℕ) → Same p (a % p) a
same_mod p a = record { same = mod-mod a p }

-- an entry and the number that clears it
pub neg_cleared : (p y : ℕ) → y < p → Same p ((p - y) % p + y) 0
neg_cleared p y l = same_trans (same-add (same_mod p (p - y)) (same_refl p y)) (same_by p 0 1 _ _ (omega arith))

pub identity_same : (k : ℕ) → identity k k ≡ 1
identity_same k = rw (eq-eqb k k refl) refl

pub identity_other : (i k : ℕ) → (k ≡ i → ⊥) → identity i k ≡ 0
identity_other i k n = rw (ne_eqb k i n) refl

-- the cases of an index below k + 1
pub below_cases : (i k : ℕ) → i < k + 1 → (i < k) ⊎ (i ≡ k)
below_cases i k l = ⊎_elim (λ m. Prim.search arith) (λ m. Prim.search arith) (cases_lt i k)

-- the entry that an addition leaves, and the one that it clears
pub added_at : (p a b c d by : ℕ) → d ≡ (a + by * b) % p → b ≡ c → Same p d (a + by * c)
added_at p a b c d by e f = same_trans (exact e) (same_trans (same_mod p (a + by * b)) (exact (ap (λ (x : ℕ). a + by * x) f)))

pub cleared_at : (p y z by : ℕ) → y < p → by ≡ (p - y) % p → y ≡ z → Same p (by + z) 0
cleared_at p y z by l e f = same_trans (exact (ap (λ (x : ℕ). by + x) (sym f) ∙ ap (λ (x : ℕ). x + y) e)) (neg_cleared p y l)

-- the negative that the field gives
pub by_minus : (p y z by : ℕ) → y < p → by ≡ (p - y) % p → y ≡ z → Same p by (minus p z)
by_minus p y z by l e f =
    let o = neg_cancel p y (omega arith) in
    same_trans (exact e) (same_trans (same_mod p (p - y)) (same_trans (same_by p y 1 (p - y) ((p - 1) * y) (omega arith)) (exact (ap (minus p) f))))

-- the difference that the field gives
pub subtracted_at : (p x y d : ℕ) → y < p → d ≡ (x + (p - y)) % p → Same p d (x + minus p y)
subtracted_at p x y d l e =
    let o = neg_cancel p y (omega arith) in
    same_trans (exact e) (same_trans (same_mod p (x + (p - y))) (same-add (same_refl p x) (same_by p y 1 (p - y) ((p - 1) * y) (omega arith))))

module _ (p n : ℕ) where
  -- a row, and the sum of it and a multiple of another
  pub along-add : (q u w v : ℕ → ℕ) (c : ℕ) → ((j : ℕ) → j < n → Same p (u j) (q j + c * w j)) → Same p (along n u v) (along n q v + c * along n w v)
  along-add q u w v c h =
      let a = total-same n (λ j. (q j + c * w j) * v j) (λ j. q j * v j + c * (w j * v j)) (λ j _. omega arith) in
      let b = total-add n (λ j. q j * v j) (λ j. c * (w j * v j)) in
      let d = total-scale n c (λ j. w j * v j) in
      same_trans (total_same p n (λ j. u j * v j) (λ j. (q j + c * w j) * v j) (λ j l. same-mul (h j l) (same_refl p (v j)))) (exact (omega arith))

  pub along-scale : (q u v : ℕ → ℕ) (c : ℕ) → ((j : ℕ) → j < n → Same p (u j) (c * q j)) → Same p (along n u v) (c * along n q v)
  along-scale q u v c h =
      let a = total-same n (λ j. (c * q j) * v j) (λ j. c * (q j * v j)) (λ j _. omega arith) in
      let d = total-scale n c (λ j. q j * v j) in
      same_trans (total_same p n (λ j. u j * v j) (λ j. (c * q j) * v j) (λ j l. same-mul (h j l) (same_refl p (v j)))) (exact (omega arith))

  -- where the other row is 0 along v, nothing changes
  pub along_kept : (q u w v : ℕ → ℕ) (c : ℕ) → ((j : ℕ) → j < n → Same p (u j) (q j + c * w j)) → Same p (along n w v) 0 → Same p (along n u v) (along n q v)
  along_kept q u w v c h z = same_trans (along-add q u w v c h) (same_trans (same-add (same_refl p (along n q v)) (same-scale c z)) (exact (omega arith)))

  -- a row that is cleared in one more pivot column
  pub cleared_more : (r k c : ℕ) (b : ℕ → ℕ → ℕ) (pivot q u : ℕ → ℕ) → IsEchelon p n r b pivot → k < r
      → ((j : ℕ) → j < n → Same p (u j) (q j + c * b k j)) → Same p (c + q (pivot k)) 0
      → ((i : ℕ) → i < k → Same p (q (pivot i)) 0) → (i : ℕ) → i < k + 1 → Same p (u (pivot i)) 0
  cleared_more r k c b pivot q u e lk h z d i li =
      let at : Same p (u (pivot i)) (q (pivot i) + c * identity k i) = same_trans (h (pivot i) (e.columns i (omega arith))) (same-add (same_refl p (q (pivot i))) (same-scale c (e.unit k i lk (omega arith)))) in
      ⊎_elim
      (λ l. same_trans at (same_trans (same-add (d i l) (exact (ap (λ (x : ℕ). c * x) (identity_other k i (λ m. absurd (omega arith)))))) (exact (omega arith))))
      (λ m. same_trans at (same_trans (exact (let s = ap (λ (x : ℕ). q (pivot x) + c * identity k x) m in let t = ap (λ (x : ℕ). q (pivot k) + c * x) (identity_same k) in s ∙ t ∙ omega arith)) z))
      (below_cases i k li)

-- the rows b, cleared in column c by the row q, and q below them
pub record IsInserted (p n r : ℕ) (b : ℕ → ℕ → ℕ) (pivot q : ℕ → ℕ) (c : ℕ) (b2 : ℕ → ℕ → ℕ) (pivot2 : ℕ → ℕ) : Type 0 where
  pub by : ℕ → ℕ
  pub clears : (k : ℕ) → k < r → Same p (by k + b k c) 0
  pub others : (k j : ℕ) → k < r → j < n → Same p (b2 k j) (b k j + by k * q j)
  pub last : (j : ℕ) → b2 r j ≡ q j
  pub pivots : (k : ℕ) → k < r → pivot2 k ≡ pivot k
  pub new_pivot : pivot2 r ≡ c

module _ (p n r c : ℕ) (b b2 : ℕ → ℕ → ℕ) (pivot pivot2 q : ℕ → ℕ) (e : IsEchelon p n r b pivot) (h : IsInserted p n r b pivot q c b2 pivot2)
    (within : c < n) (one : Same p (q c) 1) (first : (j : ℕ) → j < c → Same p (q j) 0) (free : (k : ℕ) → k < r → Same p (q (pivot k)) 0) where
  unit_at : (i k : ℕ) → i < r + 1 → k < r + 1 → Same p (b2 i (pivot2 k)) (identity i k)
  unit_at i k li lk = ⊎_elim
      (λ i1. ⊎_elim
      (λ k1. same_trans (exact (ap (b2 i) (h.pivots k k1))) (same_trans (h.others i (pivot k) i1 (e.columns k k1)) (same_trans (same-add (e.unit i k i1 k1) (same-scale (h.by i) (free k k1))) (exact (omega arith)))))
      (λ k1. same_trans (exact (ap (λ (x : ℕ). b2 i (pivot2 x)) k1 ∙ ap (b2 i) h.new_pivot)) (same_trans (h.others i c i1 within) (same_trans (same-add (same_refl p (b i c)) (same-scale (h.by i) one)) (same_trans (exact (omega arith)) (same_trans (h.clears i i1) (exact (sym (identity_other i k (λ m. absurd (omega arith))))))))))
      (below_cases k r lk))
      (λ i1. ⊎_elim
      (λ k1. same_trans (exact (ap (λ (x : ℕ). b2 x (pivot2 k)) i1 ∙ h.last (pivot2 k) ∙ ap q (h.pivots k k1))) (same_trans (free k k1) (exact (sym (identity_other i k (λ m. absurd (omega arith)))))))
      (λ k1. same_trans (exact (ap (λ (x : ℕ). b2 x (pivot2 k)) i1 ∙ h.last (pivot2 k) ∙ ap (λ (x : ℕ). q (pivot2 x)) k1 ∙ ap q h.new_pivot)) (same_trans one (exact (sym (ap (identity i) (k1 ∙ sym i1) ∙ identity_same i)))))
      (below_cases k r lk))
      (below_cases i r li)

  leading_at : (k j : ℕ) → k < r + 1 → j < pivot2 k → Same p (b2 k j) 0
  leading_at k j lk lj = ⊎_elim
      (λ k1.
      let s = h.pivots k k1 in
      let jp : j < pivot k = omega arith in
      let jn : j < n = let t = e.columns k k1 in omega arith in
      let zero : Same p (h.by k * q j) 0 = ⊎_elim
      (λ l. same_trans (same-scale (h.by k) (first j l)) (exact (omega arith)))
      (λ l. let z : Same p (b k c) 0 = e.leading k c k1 (omega arith) in let w : Same p (h.by k) 0 = same_trans (same_trans (exact (omega arith)) (same-add (same_refl p (h.by k)) (same_sym z))) (h.clears k k1) in same_trans (same-mul w (same_refl p (q j))) (exact (omega arith)))
      (cases_lt j c) in
      same_trans (h.others k j k1 jn) (same_trans (same-add (e.leading k j k1 jp) zero) (exact (omega arith))))
      (λ k1. let s : pivot2 k ≡ c = ap pivot2 k1 ∙ h.new_pivot in same_trans (exact (ap (λ (x : ℕ). b2 x j) k1 ∙ h.last j)) (first j (omega arith)))
      (below_cases k r lk)

  pub inserted_echelon : IsEchelon p n (r + 1) b2 pivot2
  inserted_echelon = record {
    columns = λ k l. ⊎_elim (λ k1. let s = h.pivots k k1 in let t = e.columns k k1 in omega arith) (λ k1. let s : pivot2 k ≡ c = ap pivot2 k1 ∙ h.new_pivot in omega arith) (below_cases k r l);
    unit = unit_at;
    leading = leading_at;
  }

  pub inserted_forth : (v : ℕ → ℕ) → IsInKernel p r n b v → Same p (along n q v) 0 → IsInKernel p (r + 1) n b2 v
  inserted_forth v z zq i l = ⊎_elim
      (λ i1. same_trans (along_kept p n (b i) (b2 i) q v (h.by i) (λ j m. h.others i j i1 m) zq) (z i i1))
      (λ i1. same_trans (exact (total-same n (λ j. b2 i j * v j) (λ j. q j * v j) (λ j m. ap (λ (x : ℕ). x * v j) (ap (λ (x : ℕ). b2 x j) i1 ∙ h.last j)))) zq)
      (below_cases i r l)

  pub inserted_last : (v : ℕ → ℕ) → IsInKernel p (r + 1) n b2 v → Same p (along n q v) 0
  inserted_last v z = same_trans (exact (total-same n (λ j. q j * v j) (λ j. b2 r j * v j) (λ j m. ap (λ (x : ℕ). x * v j) (sym (h.last j))))) (z r (omega arith))

  pub inserted_back : (v : ℕ → ℕ) → IsInKernel p (r + 1) n b2 v → IsInKernel p r n b v
  inserted_back v z i l = same_trans (same_sym (along_kept p n (b i) (b2 i) q v (h.by i) (λ j m. h.others i j l m) (inserted_last v z))) (z i (omega arith))

-- ---- writes to one row of a list of rows

pub same_or_not : (i k : ℕ) → (i ≡ k) ⊎ (i ≡ k → ⊥)
same_or_not i k = ⊎_elim (λ l. inr (λ e. absurd (omega arith))) (λ l. ⊎_elim (λ m. inr (λ e. absurd (omega arith))) (λ m. inl (omega arith)) (cases_lt k i)) (cases_lt i k)

-- a fact of each item after the one at k is replaced
pub replaced : {X : Type 0} (d : X) (rows : List X) (k i : ℕ) (row : X) (Q : X → Type 0) → k < length rows → (i ≡ k → Q row) → ((i ≡ k → ⊥) → Q (get_or rows i d)) → Q (get_or (set rows k row) i d)
replaced {X} d rows k i row Q l here there = ⊎_elim
    (λ (m : i ≡ k). let e : get_or (set rows k row) i d ≡ row = ap (λ (x : ℕ). get_or (set rows k row) x d) m ∙ get_or-set_same rows k row d l in rw e (here m))
    (λ (n : i ≡ k → ⊥). let e : get_or (set rows k row) i d ≡ get_or rows i d = get_or-set_other rows k i row d n in rw e (there n))
    (same_or_not i k)

-- a fact of each item after one more at the end
pub pushed_at : {X : Type 0} (d : X) (es : List X) (x : X) (k q : ℕ) (Q : X → Type 0) → length es ≡ k → q < k + 1 → (q < k → Q (get_or es q d)) → (q ≡ k → Q x) → Q (get_or (es ++ x ∷ []) q d)
pushed_at {X} d es x k q Q e l f g = ⊎_elim
    (λ m. let e1 : get_or (es ++ x ∷ []) q d ≡ get_or es q d = get_or_append_left es (x ∷ []) d q (omega arith) in rw e1 (f m))
    (λ (m : q ≡ k). let e2 : get_or (es ++ x ∷ []) q d ≡ x = get_or_push es x d q (omega arith) in rw e2 (g m))
    (below_cases q k l)
