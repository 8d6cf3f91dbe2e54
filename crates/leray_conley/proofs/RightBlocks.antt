-- Elimination of a square matrix beside the identity: where the matrix kills nothing, its inverse stands on the right
use Rattle.std.proofs.Common.{◌≡◌, ℕ, ◌+◌, ◌-◌, ◌*◌, ◌<◌, ◌≤◌, refl, sym, ap, ◌∙◌, arith, ⊎_elim, cond, ltb, lt-ltb, le-ltb, List, length, get_or, subst}
use Rattle.std.proofs.lemmas.Bool.{cases_lt}
use Rattle.field_mod.specs.Sums.{total}
use Rattle.field_mod.specs.Modular.{Same, IsField, minus}
use Rattle.field_mod.proofs.Sums.{total-same, total-scale, total_none}
use Rattle.field_mod.proofs.Modular.{same_by, same_refl, same_sym, same_trans, same-add, same-scale, neg_cancel, one_nonzero}
use Rattle.leray_conley.specs.Products.{product, identity, none, AreSame}
use Rattle.leray_conley.specs.Kernels.{IsInKernel, IsKilled}
use Rattle.leray_conley.specs.Inverses.{IsInverse}
use Rattle.leray_conley.specs.Splitting.{beside}
use Rattle.leray_conley.specs.Echelons.{IsEchelon, IsReduction, IsRightBlock, cell, kernel_matrix}
use Rattle.leray_conley.proofs.Algebra.{by, chain, mul_left, mul_right, assoc, mul_one, none_mul}
use Rattle.leray_conley.proofs.Echelons.{identity_same, identity_other}
use Rattle.leray_conley.proofs.Existence.{total-split}
use Rattle.leray_conley.proofs.Inverses.{inverse_or_kernel, right_inverses_are_left}
use Rattle.leray_conley.proofs.Reduced.{among, kernel_dies, kernel_free, picked, unit_row}
use Rattle.leray_conley.proofs.Totals.{exact, same_from_negative, total-at}

-- two vectors of length d, one below the other
abbrev stack : ℕ → (ℕ → ℕ) → (ℕ → ℕ) → ℕ → ℕ
stack d u w t = cond (ltb t d) (u t) (w (t - d))

-- a sum over both halves
halves : (d : ℕ) (x u w : ℕ → ℕ) → total (d + d) (λ t. x t * stack d u w t) ≡ total d (λ t. x t * u t) + total d (λ t. x (d + t) * w t)
halves d x u w =
    let f : ℕ → ℕ = λ t. x t * stack d u w t in
    let s = total-split d d (d + d) f refl in
    let a = total-same d f (λ t. x t * u t) (λ t l. rw (lt-ltb t d l) refl) in
    let b = total-same d (λ t. f (d + t)) (λ t. x (d + t) * w t) (λ t l. let q = le-ltb (d + t) d (omega arith) in let c : d + t - d ≡ t = omega arith in rw (q, c) refl) in
    omega arith

-- two sums, where the vector is whole
whole : (d : ℕ) (x s : ℕ → ℕ) → total (d + d) (λ t. x t * s t) ≡ total d (λ t. x t * s t) + total d (λ t. x (d + t) * s (d + t))
whole d x s = total-split d d (d + d) (λ t. x t * s t) refl

-- the halves of a row of a matrix beside the identity
left_at : (d : ℕ) (a : ℕ → ℕ → ℕ) (i t : ℕ) → t < d → beside d a identity i t ≡ a i t
left_at d a i t l = rw (lt-ltb t d l) refl

right_at : (d : ℕ) (a : ℕ → ℕ → ℕ) (i t : ℕ) → beside d a identity i (d + t) ≡ identity i t
right_at d a i t = let q = le-ltb (d + t) d (omega arith) in let c : d + t - d ≡ t = omega arith in rw (q, c) refl

module _ (p d r : ℕ) (field : IsField p) (a b : ℕ → ℕ → ℕ) (pivot : ℕ → ℕ) (e : IsEchelon p (d + d) r b pivot)
    (forth : (v : ℕ → ℕ) → IsInKernel p d (d + d) (beside d a identity) v → IsInKernel p r (d + d) b v)
    (back : (v : ℕ → ℕ) → IsInKernel p r (d + d) b v → IsInKernel p d (d + d) (beside d a identity) v) where
  one : 1 ≤ p
  one = let t = field.above_one in omega arith

  -- column l of the identity above column l of -a
  graph : ℕ → ℕ → ℕ
  graph l = stack d (λ t. identity t l) (λ t. minus p (a t l))

  graph_dies : (l : ℕ) → l < d → IsInKernel p d (d + d) (beside d a identity) (graph l)
  unfolding graph
  graph_dies l x i y =
      let h = halves d (beside d a identity i) (λ t. identity t l) (λ t. minus p (a t l)) in
      let u = total-same d (λ t. beside d a identity i t * identity t l) (λ t. a i t * identity t l) (λ t m. ap (λ (z : ℕ). z * identity t l) (left_at d a i t m)) ∙ picked d (a i) l x in
      let w = total-same d (λ t. beside d a identity i (d + t) * minus p (a t l)) (λ t. identity i t * minus p (a t l)) (λ t m. ap (λ (z : ℕ). z * minus p (a t l)) (right_at d a i t)) ∙ total-at d i (λ t. minus p (a t l)) y in
      let o = neg_cancel p (a i l) one in
      same_by p 0 (a i l) _ _ (omega arith)

  -- what a row of b says of it
  row_says : (k l : ℕ) → k < r → l < d → Same p (b k l + (p - 1) * total d (λ t. b k (d + t) * a t l)) 0
  unfolding graph
  row_says k l x y =
      let h = halves d (b k) (λ t. identity t l) (λ t. minus p (a t l)) in
      let u = picked d (b k) l y in
      let w = total-same d (λ t. b k (d + t) * minus p (a t l)) (λ t. (p - 1) * (b k (d + t) * a t l)) (λ t m. omega arith) ∙ total-scale d (p - 1) (λ t. b k (d + t) * a t l) in
      same_trans (exact (omega arith)) (forth (graph l) (graph_dies l y) k x)

  module _ (free : (v : ℕ → ℕ) → IsKilled p d d a v → ⊥) where
    -- no pivot stands on the right: its row would give a vector that a sends to 0 from the left
    pub pivots_left : (k : ℕ) → k < r → pivot k < d
    pivots_left k x = ⊎_elim
        (λ l. l)
        (λ l.
        let y : ℕ → ℕ → ℕ = λ i t. b k (d + t) in
        let z : AreSame p 1 d (product d y a) none = record {
          at = λ i j _ w.
              let s : ℕ = total d (λ t. b k (d + t) * a t j) in
              same_trans (same_from_negative p (b k j) s one (row_says k j x w)) (e.leading k j x (omega arith));
        } in
        absurd (⊎_elim
        (λ c.
        let n : AreSame p 1 d y none = chain (by (mul_one p 1 d y)) (chain (mul_right p 1 d d y identity (product d a c.0) (by c.1.0)) (chain (by (assoc p 1 d d d y a c.0)) (chain (mul_left p 1 d d (product d y a) none c.0 z) (none_mul p 1 d d c.0)))) in
        let s : d + (pivot k - d) ≡ pivot k = omega arith in
        let in_range = e.columns k x in
        one_nonzero p field.above_one (same_trans (exact (sym (identity_same k))) (same_trans (same_sym (e.unit k k x x)) (same_trans (exact (ap (b k) (sym s))) (n.at 0 (pivot k - d) (omega arith) (omega arith))))))
        (λ c. free c.0 c.1)
        (inverse_or_kernel p d a field)))
        (cases_lt (pivot k) d)

    -- each column on the left has a pivot: the vector of one without would be killed
    pub all_left : (c : ℕ) → c < d → (k : ℕ) × (k < r) × (pivot k ≡ c)
    all_left c x = ⊎_elim
        (λ w. w)
        (λ n.
        let s : ℕ → ℕ = λ l. kernel_matrix p r b pivot l c in
        let low : (i : ℕ) → Same p (s (d + i)) 0 = λ i. same_trans (kernel_free p (d + d) r field b pivot e (d + i) c (λ k y q. let m = pivots_left k y in absurd (omega arith))) (exact (identity_other (d + i) c (λ q. absurd (omega arith)))) in
        let inside : IsInKernel p r (d + d) b s = λ i y. (kernel_dies p (d + d) r field b pivot e).at i c y (omega arith) in
        let z : IsInKernel p d d a s = λ i y.
        let h = whole d (beside d a identity i) s in
        let u = total-same d (λ t. beside d a identity i t * s t) (λ t. a i t * s t) (λ t m. ap (λ (q : ℕ). q * s t) (left_at d a i t m)) in
        let w : Same p (total d (λ t. beside d a identity i (d + t) * s (d + t))) 0 = total_none p d (λ t. beside d a identity i (d + t) * s (d + t)) (λ t m. same_trans (same-scale (beside d a identity i (d + t)) (low t)) (exact (omega arith))) in
        same_trans (same_sym (same_trans (same-add (same_refl p (total d (λ t. a i t * s t))) w) (exact (omega arith)))) (same_trans (exact (omega arith)) (back s inside i y))
        in
        absurd (free s (record {
          place = c;
          within = x;
          nonzero = λ q. one_nonzero p field.above_one (same_trans (same_sym (same_trans (kernel_free p (d + d) r field b pivot e c c n) (exact (identity_same c)))) q);
          kills = z;
        })))
        (among r pivot c)

    pub block_inverts : (x : ℕ → ℕ → ℕ) → IsRightBlock d r b pivot x d → IsInverse p d a x
    block_inverts x h = (right_inverses_are_left p d x a field left, left)
      where
        left : AreSame p d d (product d x a) identity
        left = record {
          at = λ j l u v.
              let w = h.rows j u in
              let k = w.0 in
              let s : ℕ = product d x a j l in
              let g = total-same d (λ t. x j t * a t l) (λ t. b k (d + t) * a t l) (λ t m. ap (λ (q : ℕ). q * a t l) (w.3 t m)) in
              let q : Same p (identity j l + (p - 1) * s) 0 = same_trans (same-add (same_sym (same_trans (unit_row p (d + d) r field b pivot e k l w.1 (all_left l v)) (exact (ap (λ (q : ℕ). identity q l) w.2)))) (exact (ap (λ (q : ℕ). (p - 1) * q) g))) (row_says k l w.1 v) in
              same_from_negative p (identity j l) s one q;
        }

-- ---- the same over lists, with the sizes by the names that they have in the code

pub squared : (p r c s : ℕ) (a : ℕ → ℕ → ℕ) (rows : List (List ℕ)) (pivots : List ℕ) → r ≡ c → s ≡ r → IsReduction p (c + s) r (beside c a identity) rows pivots → IsReduction p (s + s) s (beside s a identity) rows pivots
squared p r c s a rows pivots e f h =
    subst (λ (x : ℕ). IsReduction p (s + s) x (beside s a identity) rows pivots) (sym f)
    (subst (λ (x : ℕ). IsReduction p (x + s) r (beside x a identity) rows pivots) (sym e ∙ sym f) h)

pub square_bound : (r c s n : ℕ) → r ≡ c → s ≡ r → r * c ≤ n → s * s ≤ n
square_bound r c s n e f h = subst (λ (x : ℕ). x * x ≤ n) (sym f) (subst (λ (x : ℕ). r * x ≤ n) (sym e) h)

pub free_square : (p r c s : ℕ) (a : ℕ → ℕ → ℕ) → r ≡ c → s ≡ r → ((v : ℕ → ℕ) → IsKilled p r c a v → ⊥) → (v : ℕ → ℕ) → IsKilled p s s a v → ⊥
free_square p r c s a e f h v k = h v (subst (λ (x : ℕ). IsKilled p r x a v) e (subst (λ (x : ℕ). IsKilled p x x a v) f k))

module _ (p s : ℕ) (field : IsField p) (a : ℕ → ℕ → ℕ) (rows : List (List ℕ)) (pivots : List ℕ) (h : IsReduction p (s + s) s (beside s a identity) rows pivots) (free : (v : ℕ → ℕ) → IsKilled p s s a v → ⊥) where
  pub pivots_of : (j : ℕ) → j < s → (k : ℕ) × (k < length rows) × (get_or pivots k 0 ≡ j)
  pivots_of = all_left p s (length rows) field a (cell rows) (λ k. get_or pivots k 0) h.form.echelon h.forth h.back free

  pub inverts_of : (x : ℕ → ℕ → ℕ) → IsRightBlock s (length rows) (cell rows) (λ k. get_or pivots k 0) x s → IsInverse p s a x
  inverts_of = block_inverts p s (length rows) field a (cell rows) (λ k. get_or pivots k 0) h.form.echelon h.forth h.back free
