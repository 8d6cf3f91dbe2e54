-- Powers of a square matrix, and what they send to 0: from the power d on they all send the same vectors to 0
use Rattle.std.proofs.Common.{◌≡◌, ℕ, zero, suc, ◌+◌, ◌-◌, ◌≤◌, sym, arith, subst}
use Rattle.field_mod.specs.Modular.{IsField}
use Rattle.leray_conley.specs.Products.{product, identity, power, AreSame, none}
use Rattle.leray_conley.specs.Splitting.{Splitting, IsLeraySplitting}
use Rattle.leray_conley.proofs.Algebra.{plus, by, chain, add, itself, mul_left, mul_right, assoc, sum_mul, mul_sum, one_mul, mul_one, mul_none, none_mul, sum_none}
use Rattle.leray_conley.proofs.Existence.{splittings_exist}
use Rattle.leray_conley.proofs.Similar.{rest, bottom, in_blocks, image_free, kernel_dies}

module _ (p d : ℕ) (a : ℕ → ℕ → ℕ) where
  pub power-add : (i j : ℕ) → AreSame p d d (power d a (i + j)) (product d (power d a i) (power d a j))
  power-add zero j = let e : zero + j ≡ j = omega arith in chain (subst (λ (n : ℕ). AreSame p d d (power d a n) (power d a j)) (sym e) (itself p d d (power d a j))) (by (one_mul p d d (power d a j)))
  power-add (suc i) j =
      let e : suc i + j ≡ suc (i + j) = omega arith in
      chain (subst (λ (n : ℕ). AreSame p d d (power d a n) (product d a (power d a (i + j)))) (sym e) (itself p d d (product d a (power d a (i + j)))))
      (chain (mul_right p d d d a (power d a (i + j)) (product d (power d a i) (power d a j)) (power-add i j)) (by (assoc p d d d d a (power d a i) (power d a j))))

  -- a power commutes with the matrix
  pub power_turned : (m : ℕ) → AreSame p d d (product d a (power d a m)) (product d (power d a m) a)
  power_turned m =
      let e : suc m ≡ m + 1 = omega arith in
      let one : AreSame p d d (power d a 1) a = mul_one p d d a in
      chain (subst (λ (n : ℕ). AreSame p d d (product d a (power d a m)) (power d a n)) e (itself p d d (product d a (power d a m)))) (chain (power-add m 1) (mul_right p d d d (power d a m) (power d a 1) a one))

  -- what a power sends to 0, a larger one sends to 0
  pub later_dies : (i j n : ℕ) (v : ℕ → ℕ → ℕ) → AreSame p d n (product d (power d a j) v) none → AreSame p d n (product d (power d a (i + j)) v) none
  later_dies i j n v z = chain (mul_left p d d n (power d a (i + j)) (product d (power d a i) (power d a j)) v (power-add i j)) (chain (assoc p d d d n (power d a i) (power d a j) v) (chain (mul_right p d d n (power d a i) (product d (power d a j) v) none z) (mul_none p d d n (power d a i))))

  module _ (field : IsField p) where
    -- .. and what any power sends to 0, the power d sends to 0
    dies_vector : (m : ℕ) (v : ℕ → ℕ → ℕ) → AreSame p d 1 (product d (power d a m) v) none → AreSame p d 1 (product d (power d a d) v) none
    dies_vector m v z =
        let w = splittings_exist p d a field in
        let s : Splitting = w.0 in
        let h : IsLeraySplitting p d a s = w.1 in
        let r = s.rank in
        let n = rest p d field a s h in
        let q = bottom p d field a s h in
        let x = product d s.split_inverse v in
        let y = product d q v in
        let big = power d a (d + m) in
        let parts : AreSame p d 1 v (plus (product r s.image x) (product n s.kernel y)) =
        chain (by (one_mul p d 1 v)) (chain (mul_left p d d 1 identity (plus (product r s.image s.split_inverse) (product n s.kernel q)) v (by (in_blocks p d field a s h)))
        (chain (sum_mul p d d 1 (product r s.image s.split_inverse) (product n s.kernel q) v) (add (assoc p d r d 1 s.image s.split_inverse v) (assoc p d n d 1 s.kernel q v)))) in
        let turn : d + m ≡ m + d = omega arith in
        let kernel_gone : AreSame p d n (product d big s.kernel) none = subst (λ (k : ℕ). AreSame p d n (product d (power d a k) s.kernel) none) (sym turn) (later_dies m d n s.kernel h.dies) in
        let second : AreSame p d 1 (product d big (product n s.kernel y)) none = chain (by (assoc p d d n 1 big s.kernel y)) (chain (mul_left p d n 1 (product d big s.kernel) none y kernel_gone) (none_mul p d n 1 y)) in
        let first : AreSame p d 1 (product d big (product r s.image x)) none =
        chain (by (chain (mul_right p d d 1 big v (plus (product r s.image x) (product n s.kernel y)) parts) (chain (mul_sum p d d 1 big (product r s.image x) (product n s.kernel y)) (chain (add (itself p d 1 (product d big (product r s.image x))) second) (sum_none p d 1 (product d big (product r s.image x)))))))
        (later_dies d m 1 v z) in
        kernel_dies p d field a s h v (image_free p d field a s h (d + m) x first)

    pub power_dies : (m n : ℕ) (v : ℕ → ℕ → ℕ) → AreSame p d n (product d (power d a m) v) none → AreSame p d n (product d (power d a d) v) none
    power_dies m n v z = record { at = λ i j x y. (dies_vector m (λ i _. v i j) (record { at = λ k l u w. z.at k j u y })).at i 0 x (omega arith) }

    -- from the power d on the kernel stays
    pub power_stays : (e m n : ℕ) (v : ℕ → ℕ → ℕ) → d ≤ e → AreSame p d n (product d (power d a m) v) none → AreSame p d n (product d (power d a e) v) none
    power_stays e m n v l z =
        let s : e - d + d ≡ e = omega arith in
        subst (λ (k : ℕ). AreSame p d n (product d (power d a k) v) none) s (later_dies (e - d) d n v (power_dies m n v z))
