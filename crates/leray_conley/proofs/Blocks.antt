-- From a square matrix of size e to one of size d = e + 1 that kills a vector
use Rattle.std.proofs.Common.{◌≡◌, ℕ, zero, suc, ◌+◌, ◌-◌, ◌*◌, ◌<◌, ◌≤◌, sym, arith, subst}
use Rattle.field_mod.specs.Modular.{Same}
use Rattle.field_mod.proofs.Modular.{same_by, same_refl, same_trans, same-add, neg_cancel}
use Rattle.leray_conley.specs.Products.{product, identity, power, AreSame, none}
use Rattle.leray_conley.proofs.Algebra.{plus, by, chain, add, mul_left, mul_right, assoc, sum_mul, mul_sum, one_mul, mul_one, mul_none, none_mul, sum_none}

-- Leray data in blocks: the inverse of image and kernel side by side has the rows of top and then those of bottom
pub record Parts : Type 0 where
  pub rank : ℕ
  pub nullity : ℕ
  pub image : ℕ → ℕ → ℕ
  pub kernel : ℕ → ℕ → ℕ
  pub reduced : ℕ → ℕ → ℕ
  pub inverse : ℕ → ℕ → ℕ
  pub top : ℕ → ℕ → ℕ
  pub bottom : ℕ → ℕ → ℕ

pub record IsParts (p d : ℕ) (a : ℕ → ℕ → ℕ) (X : Parts) : Type 0 where
  pub sizes : X.rank + X.nullity ≡ d
  pub splits : AreSame p d d (plus (product X.rank X.image X.top) (product X.nullity X.kernel X.bottom)) identity
  pub dies : AreSame p d X.nullity (product d (power d a d) X.kernel) none
  pub reduces : AreSame p d X.rank (product d a X.image) (product X.rank X.image X.reduced)
  pub inverts : AreSame p X.rank X.rank (product X.rank X.reduced X.inverse) identity
  pub back : AreSame p X.rank X.rank (product X.rank X.inverse X.reduced) identity

-- one column before the columns of x, and one row above the rows of y
abbrev pub before : (ℕ → ℕ → ℕ) → (ℕ → ℕ → ℕ) → ℕ → ℕ → ℕ
before v x i zero = v i 0
before v x i (suc j) = x i j

abbrev pub above : (ℕ → ℕ → ℕ) → (ℕ → ℕ → ℕ) → ℕ → ℕ → ℕ
above u y zero j = u 0 j
above u y (suc i) j = y i j

module _ (p d e : ℕ) (one : 1 ≤ p) (size : d ≡ suc e) (a s q v u : ℕ → ℕ → ℕ) (split : AreSame p d d (plus (product e s q) (product 1 v u)) identity) (dead : AreSame p d 1 (product d a v) none) where
  -- the smaller matrix, and what it leaves along v
  abbrev pub small : ℕ → ℕ → ℕ
  small = product d q (product d a s)

  abbrev along : ℕ → ℕ → ℕ
  along = product d u (product d a s)

  key : AreSame p d e (product d a s) (plus (product e s small) (product 1 v along))
  key =
      let sa = product d a s in
      chain (by (one_mul p d e sa)) (chain (mul_left p d d e identity (plus (product e s q) (product 1 v u)) sa (by split)) (chain (sum_mul p d d e (product e s q) (product 1 v u) sa) (add (assoc p d e d e s q sa) (assoc p d 1 d e v u sa))))

  -- a power kills v
  power_dead : (m : ℕ) → AreSame p d 1 (product d (power d a (suc m)) v) none
  power_dead zero = chain (assoc p d d d 1 a identity v) (chain (mul_right p d d 1 a (product d identity v) v (one_mul p d 1 v)) dead)
  power_dead (suc m) = chain (assoc p d d d 1 a (power d a (suc m)) v) (chain (mul_right p d d 1 a (product d (power d a (suc m)) v) none (power_dead m)) (mul_none p d d 1 a))

  -- a (s x + v y) = s (small x) + v (along x)
  push : (n : ℕ) (x y : ℕ → ℕ → ℕ) → AreSame p d n (product d a (plus (product e s x) (product 1 v y))) (plus (product e s (product e small x)) (product 1 v (product e along x)))
  push n x y =
      let av = chain (by (assoc p d d 1 n a v y)) (chain (mul_left p d 1 n (product d a v) none y dead) (none_mul p d 1 n y)) in
      let sa = chain (by (assoc p d d e n a s x)) (chain (mul_left p d e n (product d a s) (plus (product e s small) (product 1 v along)) x key) (chain (sum_mul p d e n (product e s small) (product 1 v along) x) (add (assoc p d e e n s small x) (assoc p d 1 e n v along x)))) in
      chain (mul_sum p d d n a (product e s x) (product 1 v y)) (chain (add sa av) (sum_none p d n (plus (product e s (product e small x)) (product 1 v (product e along x)))))

  abbrev rest : ℕ → ℕ → ℕ → ℕ
  rest zero = none
  rest (suc m) = product e along (power e small m)

  power_key : (m : ℕ) → AreSame p d e (product d (power d a m) s) (plus (product e s (power e small m)) (product 1 v (rest m)))
  power_key zero = chain (one_mul p d e s) (by (chain (add (mul_one p d e s) (mul_none p d 1 e v)) (sum_none p d e s)))
  power_key (suc m) = chain (assoc p d d d e a (power d a m) s) (chain (mul_right p d d e a (product d (power d a m) s) (plus (product e s (power e small m)) (product 1 v (rest m))) (power_key m)) (push e (power e small m) (rest m)))

  module _ (X : Parts) (h : IsParts p e small X) where
    abbrev slope : ℕ → ℕ → ℕ
    slope = product X.rank (product e along X.image) X.inverse

    abbrev top2 : ℕ → ℕ → ℕ
    top2 = product e X.top q

    abbrev image2 : ℕ → ℕ → ℕ
    image2 = plus (product e s X.image) (product 1 v slope)

    abbrev first : ℕ → ℕ → ℕ
    first i j = u i j + (p - 1) * product X.rank slope top2 i j

    pub larger : Parts
    larger = record {
      rank = X.rank;
      nullity = suc X.nullity;
      image = image2;
      kernel = before v (product e s X.kernel);
      reduced = X.reduced;
      inverse = X.inverse;
      top = top2;
      bottom = above first (product e X.bottom q);
    }

    reduces : AreSame p d X.rank (product d a image2) (product X.rank image2 X.reduced)
    reduces =
        let r = X.rank in
        let sl = chain (assoc p 1 r r r (product e along X.image) X.inverse X.reduced) (chain (mul_right p 1 r r (product e along X.image) (product r X.inverse X.reduced) identity h.back) (mul_one p 1 r (product e along X.image))) in
        let right = chain (sum_mul p d r r (product e s X.image) (product 1 v slope) X.reduced) (add
        (chain (assoc p d e r r s X.image X.reduced) (mul_right p d e r s (product r X.image X.reduced) (product e small X.image) (by h.reduces)))
        (chain (assoc p d 1 r r v slope X.reduced) (mul_right p d 1 r v (product r slope X.reduced) (product e along X.image) sl))) in
        chain (push r X.image slope) (by right)

    -- the columns of the kernel, but for the first
    others : AreSame p d X.nullity (product d (power d a (suc e)) (product e s X.kernel)) none
    others =
        let n = X.nullity in
        let pe = power d a e in
        let c = rest e in
        let b = chain (by (assoc p d d e n pe s X.kernel)) (chain (mul_left p d e n (product d pe s) (plus (product e s (power e small e)) (product 1 v c)) X.kernel (power_key e)) (chain (sum_mul p d e n (product e s (power e small e)) (product 1 v c) X.kernel) (add
        (chain (assoc p d e e n s (power e small e) X.kernel) (mul_right p d e n s (product e (power e small e) X.kernel) none h.dies))
        (assoc p d 1 e n v c X.kernel)))) in
        let f = chain (push n none (product e c X.kernel)) (add (chain (mul_right p d e n s (product e small none) none (mul_none p e e n small)) (mul_none p d e n s)) (chain (mul_right p d 1 n v (product e along none) none (mul_none p 1 e n along)) (mul_none p d 1 n v))) in
        chain (assoc p d d d n a pe (product e s X.kernel)) (chain (mul_right p d d n a (product d pe (product e s X.kernel)) (plus (product e s none) (product 1 v (product e c X.kernel))) b) (chain f (sum_none p d n none)))

    dies : AreSame p d (suc X.nullity) (product d (power d a d) (before v (product e s X.kernel))) none
    dies = subst (λ (m : ℕ). AreSame p d (suc X.nullity) (product d (power d a m) (before v (product e s X.kernel))) none) (sym size) (record { at = λ i j x y. at i j x y })
      where
        at : (i j : ℕ) → i < d → j < suc X.nullity → Same p (product d (power d a (suc e)) (before v (product e s X.kernel)) i j) 0
        at i zero x y = (power_dead e).at i 0 x (omega arith)
        at i (suc j) x y = others.at i j x (omega arith)

    splits : AreSame p d d (plus (product X.rank image2 top2) (product (suc X.nullity) (before v (product e s X.kernel)) (above first (product e X.bottom q)))) identity
    splits =
        let r = X.rank in
        let n = X.nullity in
        let st = product r slope top2 in
        let bq = product e X.bottom q in
        let left : AreSame p d d (product r image2 top2) (plus (product e s (product e (product r X.image X.top) q)) (product 1 v st)) =
        chain (sum_mul p d r d (product e s X.image) (product 1 v slope) top2) (add (chain (assoc p d e r d s X.image top2) (mul_right p d e d s (product r X.image top2) (product e (product r X.image X.top) q) (by (assoc p e r e d X.image X.top q)))) (assoc p d 1 r d v slope top2)) in
        let right : AreSame p d d (product n (product e s X.kernel) bq) (product e s (product e (product n X.kernel X.bottom) q)) =
        chain (assoc p d e n d s X.kernel bq) (mul_right p d e d s (product n X.kernel bq) (product e (product n X.kernel X.bottom) q) (by (assoc p e n e d X.kernel X.bottom q))) in
        let both : AreSame p d d (plus (product e s (product e (product r X.image X.top) q)) (product e s (product e (product n X.kernel X.bottom) q))) (product e s q) =
        chain (by (mul_sum p d e d s (product e (product r X.image X.top) q) (product e (product n X.kernel X.bottom) q))) (mul_right p d e d s (plus (product e (product r X.image X.top) q) (product e (product n X.kernel X.bottom) q)) q
        (chain (by (sum_mul p e e d (product r X.image X.top) (product n X.kernel X.bottom) q)) (chain (mul_left p e e d (plus (product r X.image X.top) (product n X.kernel X.bottom)) identity q h.splits) (one_mul p e d q)))) in
        record {
          at = λ i j x y.
              let vs = v i 0 in
              let w = st 0 j in
              let c1 = product e s (product e (product r X.image X.top) q) i j in
              let c2 = product e s (product e (product n X.kernel X.bottom) q) i j in
              let k = product n (product e s X.kernel) bq i j in
              let l0 : Same p (product r image2 top2 i j) (c1 + (vs * w + 0)) = left.at i j x y in
              let o = neg_cancel p (vs * w) one in
              let f0 : Same p (product r image2 top2 i j + (vs * (u 0 j + (p - 1) * w) + k)) ((c1 + (vs * w + 0)) + (vs * (u 0 j + (p - 1) * w) + c2)) = same-add l0 (same-add (same_refl p (vs * (u 0 j + (p - 1) * w))) (right.at i j x y)) in
              let g0 : Same p ((c1 + (vs * w + 0)) + (vs * (u 0 j + (p - 1) * w) + c2)) ((c1 + c2) + (vs * u 0 j + 0)) = same_by p 0 (vs * w) _ _ (omega (arith, o)) in
              same_trans f0 (same_trans g0 (same_trans (same-add (both.at i j x y) (same_refl p (vs * u 0 j + 0))) (split.at i j x y)));
        }

    pub larger_is_parts : IsParts p d a larger
    unfolding larger
    larger_is_parts = record {
      sizes = let t = h.sizes in omega arith;
      splits = splits;
      dies = dies;
      reduces = reduces;
      inverts = h.inverts;
      back = h.back;
    }
