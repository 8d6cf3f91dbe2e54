-- The splitting by a high power of a square matrix: its image, from the pivots, and its kernel
use Rattle.std.proofs.Common.{◌≡◌, ◌≢◌, ℕ, suc, ◌+◌, ◌-◌, ◌*◌, ◌<◌, ◌≤◌, refl, sym, ap, ◌∙◌, arith, ⊎_elim, Bool, cond, ltb, lt-ltb, le-ltb, List, length, get_or, subst}
use Rattle.std.proofs.lemmas.Bool.{cases_lt}
use Rattle.field_mod.specs.Sums.{total}
use Rattle.field_mod.specs.Modular.{Same, IsField}
use Rattle.field_mod.proofs.Sums.{total-same, total_same, total_none}
use Rattle.field_mod.proofs.Modular.{same_refl, same_sym, same_trans, same-scale, same-mul}
use Rattle.leray_conley.specs.Products.{product, identity, power, none, AreSame}
use Rattle.leray_conley.specs.Kernels.{IsInKernel, IsKilled}
use Rattle.leray_conley.specs.Splitting.{beside, IsHighPower, IsSplit}
use Rattle.leray_conley.specs.Tables.{Table, entry}
use Rattle.leray_conley.specs.Echelons.{AreFree, IsEchelon, IsReduction, cell, kernel_matrix}
use Rattle.leray_conley.proofs.Algebra.{plus, by, chain, add, itself, mul_left, mul_right, assoc, mul_sum, mul_none, sum_none}
use Rattle.leray_conley.proofs.Echelons.{identity_same, identity_other, same_or_not}
use Rattle.leray_conley.proofs.Existence.{total-split}
use Rattle.leray_conley.proofs.Powers.{power-add, power_turned, power_dies, power_stays}
use Rattle.leray_conley.proofs.Reduced.{among, at_pivots, column, independent, kernel_free, picks, spans, special_dies}
use Rattle.leray_conley.proofs.Reductions.{narrowed}
use Rattle.leray_conley.proofs.Totals.{exact, total-at}
use Rattle.field_mod.proofs.Solutions.{solve}

-- m is a power of a of at least the size, and the rows b are its reduction; the f t are the columns without a pivot
pub record IsSplitter (p d e r s : ℕ) (a m b : ℕ → ℕ → ℕ) (pivot f : ℕ → ℕ) : Type 0 where
  pub high : d ≤ e
  pub is_power : AreSame p d d m (power d a e)
  pub echelon : IsEchelon p d r b pivot
  pub forth : (v : ℕ → ℕ) → IsInKernel p d d m v → IsInKernel p r d b v
  pub back : (v : ℕ → ℕ) → IsInKernel p r d b v → IsInKernel p d d m v
  pub within : (t : ℕ) → t < s → f t < d
  pub apart : (t k : ℕ) → t < s → k < r → pivot k ≢ f t
  pub every : (c : ℕ) → c < d → ((k : ℕ) → k < r → pivot k ≢ c) → (t : ℕ) × (t < s) × (f t ≡ c)
  pub distinct : (t u : ℕ) → t < s → u < s → f t ≡ f u → t ≡ u

module _ (p d e r s : ℕ) (field : IsField p) (a m b : ℕ → ℕ → ℕ) (pivot f : ℕ → ℕ) (h : IsSplitter p d e r s a m b pivot f) where
  abbrev basis : ℕ → ℕ → ℕ
  basis = product d m (picks pivot)

  -- what m sends to 0 twice, it sends to 0
  twice : (v : ℕ → ℕ → ℕ) → AreSame p d 1 (product d m (product d m v)) none → AreSame p d 1 (product d m v) none
  twice v z =
      let q = power d a e in
      let w : AreSame p d 1 (product d (power d a (e + e)) v) none =
      chain (mul_left p d d 1 (power d a (e + e)) (product d q q) v (power-add p d a e e)) (chain (assoc p d d d 1 q q v)
      (chain (mul_right p d d 1 q (product d q v) (product d m v) (mul_left p d d 1 q m v (by h.is_power))) (chain (mul_left p d d 1 q m (product d m v) (by h.is_power)) z))) in
      chain (mul_left p d d 1 m q v h.is_power) (power_stays p d a field e (e + e) 1 v h.high w)

  -- .. and what a sends to 0 after m
  after : (v : ℕ → ℕ → ℕ) → AreSame p d 1 (product d a (product d m v)) none → AreSame p d 1 (product d m v) none
  after v z =
      let q = power d a e in
      let w : AreSame p d 1 (product d (power d a (suc e)) v) none = chain (assoc p d d d 1 a q v) (chain (mul_right p d d 1 a (product d q v) (product d m v) (mul_left p d d 1 q m v (by h.is_power))) z) in
      chain (mul_left p d d 1 m q v h.is_power) (power_stays p d a field e (suc e) 1 v h.high w)

  -- combinations of the image's columns that are 0
  free_image : (x : ℕ → ℕ) → AreSame p d 1 (product r basis (column x)) none → (k : ℕ) → k < r → Same p (x k) 0
  free_image x z k l = independent p d r field b pivot h.echelon d m h.forth h.back x (λ i y. z.at i 0 y (omega arith)) k l

  module _ (image kernel : ℕ → ℕ → ℕ) (is_image : AreSame p d r image basis) (is_kernel : AreSame p d s kernel (λ i t. kernel_matrix p r b pivot i (f t))) where
    kernel_killed : AreSame p d s (product d m kernel) none
    kernel_killed = record {
      at = λ i t x y. same_trans (total_same p d (λ l. m i l * kernel l t) (λ l. m i l * kernel_matrix p r b pivot l (f t)) (λ l z. same-scale (m i l) (is_kernel.at l t z y)))
          ((special_dies p d r field b pivot h.echelon d m h.forth h.back).at i (f t) x (h.within t y));
    }

    pub kernel_powers : AreSame p d s (product d (power d a d) kernel) none
    kernel_powers = power_dies p d a field e s kernel (chain (mul_left p d d s (power d a e) m kernel (by h.is_power)) kernel_killed)

    -- the columns of image and kernel are independent
    split_free : (v : ℕ → ℕ) → AreSame p d 1 (plus (product r image (column v)) (product s kernel (λ t _. v (r + t)))) none → (l : ℕ) → l < r + s → Same p (v l) 0
    split_free v z =
        let x = column v in
        let y : ℕ → ℕ → ℕ = λ t _. v (r + t) in
        let ix = product r image x in
        let ky = product s kernel y in
        let mky : AreSame p d 1 (product d m ky) none = chain (by (assoc p d d s 1 m kernel y)) (chain (mul_left p d s 1 (product d m kernel) none y kernel_killed) (record { at = λ i j u w. total_none p s (λ t. 0 * y t j) (λ t _. exact (omega arith)) })) in
        let mix : AreSame p d 1 (product d m ix) none = chain (by (chain (mul_sum p d d 1 m ix ky) (chain (add (itself p d 1 (product d m ix)) mky) (sum_none p d 1 (product d m ix))))) (chain (mul_right p d d 1 m (plus ix ky) none z) (mul_none p d d 1 m)) in
        let ex = product r (picks pivot) x in
        let bx : AreSame p d 1 ix (product d m ex) = chain (mul_left p d r 1 image basis x is_image) (assoc p d d r 1 m (picks pivot) x) in
        let gone : AreSame p d 1 (product d m ex) none = twice ex (chain (mul_right p d d 1 m (product d m ex) ix (by bx)) mix) in
        let low : (k : ℕ) → k < r → Same p (v k) 0 = free_image v (chain (assoc p d d r 1 m (picks pivot) x) gone) in
        let ky0 : AreSame p d 1 ky none = chain (by (chain (add (chain bx gone) (itself p d 1 ky)) (record { at = λ i j u w. exact (omega arith) }))) z in
        let high : (t : ℕ) → t < s → Same p (v (r + t)) 0 = λ t l.
        let row : (u : ℕ) → u < s → Same p (kernel (f t) u) (identity t u) = λ u k.
        same_trans (is_kernel.at (f t) u (h.within t l) k) (same_trans (kernel_free p d r field b pivot h.echelon (f t) (f u) (λ q w. h.apart t q l w))
        (⊎_elim (λ q. exact (ap (identity (f t)) (ap f (sym q)) ∙ identity_same (f t) ∙ sym (ap (identity t) (sym q) ∙ identity_same t))) (λ q. exact (identity_other (f t) (f u) (λ w. q (h.distinct t u l k (sym w))) ∙ sym (identity_other t u (λ w. q (sym w))))) (same_or_not t u)))
        in
        same_trans (exact (sym (total-at s t (λ u. v (r + u)) l))) (same_trans (same_sym (total_same p s (λ u. kernel (f t) u * v (r + u)) (λ u. identity t u * v (r + u)) (λ u k. same-mul (row u k) (same_refl p (v (r + u)))))) (ky0.at (f t) 0 (h.within t l) (omega arith)))
        in
        λ l k. ⊎_elim (low l) (λ q. let w : r + (l - r) ≡ l = omega arith in same_trans (exact (ap v (sym w))) (high (l - r) (omega arith))) (cases_lt l r)

    -- .. and side by side
    beside_sum : (i : ℕ) (v : ℕ → ℕ) (n : ℕ) → r + s ≡ n → total n (λ l. beside r image kernel i l * v l) ≡ total r (λ l. image i l * v l) + total s (λ t. kernel i t * v (r + t))
    beside_sum i v n q =
        let g : ℕ → ℕ = λ l. beside r image kernel i l * v l in
        let e1 = total-split r s n g q in
        let e2 = total-same r g (λ l. image i l * v l) (λ l k. rw (lt-ltb l r k) refl) in
        let e3 = total-same s (λ t. g (r + t)) (λ t. kernel i t * v (r + t)) (λ t k. let w = le-ltb (r + t) r (omega arith) in let c : r + t - r ≡ t = omega arith in rw (w, c) refl) in
        omega arith

    pub sizes : r + s ≡ d
    sizes = ⊎_elim
        (λ l.
        -- more columns than rows
        let q = solve p field d (r + s) l (beside r image kernel) in
        let v : ℕ → ℕ = q.at in
        absurd (q.nonzero (split_free v (record { at = λ i j x y. same_trans (exact (sym (beside_sum i v (r + s) refl) ∙ total-same (r + s) (λ l. beside r image kernel i l * v l) (λ l. v l * beside r image kernel i l) (λ l _. omega arith))) (q.solves i x) }) q.place q.within)))
        (λ l. ⊎_elim
        (λ k.
        -- fewer: a vector that is 0 at each column
        let q = solve p field (r + s) d k (λ i j. identity (cond (ltb i r) (pivot i) (f (i - r))) j) in
        let v : ℕ → ℕ = q.at in
        let at : (i : ℕ) → i < r + s → cond (ltb i r) (pivot i) (f (i - r)) < d → Same p (v (cond (ltb i r) (pivot i) (f (i - r)))) 0 = λ i x y.
        let c : ℕ = cond (ltb i r) (pivot i) (f (i - r)) in
        same_trans (exact (sym (total-at d c v y) ∙ total-same d (λ j. identity c j * v j) (λ j. v j * identity c j) (λ j _. omega arith))) (q.solves i x)
        in
        let zero_at : (c : ℕ) → c < d → Same p (v c) 0 = λ c y. ⊎_elim
        (λ w.
        let t : cond (ltb w.0 r) (pivot w.0) (f (w.0 - r)) ≡ c = ap (λ (z : Bool). cond z (pivot w.0) (f (w.0 - r))) (lt-ltb w.0 r w.1) ∙ w.2 in
        let u = w.1 in
        same_trans (exact (ap v (sym t))) (at w.0 (omega arith) (omega arith)))
        (λ w.
        let g = h.every c y w in
        let u = g.1 in
        let n : r + g.0 - r ≡ g.0 = omega arith in
        let b = le-ltb (r + g.0) r (omega arith) in
        let t : cond (ltb (r + g.0) r) (pivot (r + g.0)) (f (r + g.0 - r)) ≡ c = ap (λ (z : Bool). cond z (pivot (r + g.0)) (f (r + g.0 - r))) b ∙ ap f n ∙ g.2 in
        same_trans (exact (ap v (sym t))) (at (r + g.0) (omega arith) (omega arith)))
        (among r pivot c)
        in
        absurd (q.nonzero (zero_at q.place q.within)))
        (λ k. omega arith)
        (cases_lt (r + s) d))
        (cases_lt d (r + s))

    -- so that the square matrix of both kills nothing
    pub split_unkilled : (v : ℕ → ℕ) → IsKilled p d d (beside r image kernel) v → ⊥
    split_unkilled v k =
        let q = sizes in
        k.nonzero (split_free v (record { at = λ i j x y. same_trans (exact (sym (beside_sum i v d q))) (k.kills i x) }) k.place (let w = k.within in omega arith))

    -- the matrix maps the image to itself
    commutes : AreSame p d d (product d a m) (product d m a)
    commutes = chain (mul_right p d d d a m (power d a e) h.is_power) (chain (power_turned p d a e) (mul_left p d d d (power d a e) m a (by h.is_power)))

    pub image_map : ℕ → ℕ → ℕ
    image_map = product d b (product d a (picks pivot))

    pub image_carried : AreSame p d r (product d a image) (product r image (product d b (product d a (picks pivot))))
    image_carried =
        let q = picks pivot in
        let aq = product d a q in
        chain (mul_right p d d r a image basis is_image) (chain (by (assoc p d d d r a m q)) (chain (mul_left p d d r (product d a m) (product d m a) q commutes) (chain (assoc p d d d r m a q)
        (chain (mul_left p d d r m (product r basis b) aq (spans p d r field b pivot h.echelon d m h.forth h.back)) (chain (assoc p d r d r basis b aq) (mul_left p d r r basis image (product d b aq) (by is_image)))))))

    -- .. and no vector of it but 0 to 0
    pub image_faithful : (x : ℕ → ℕ) → AreSame p d 1 (product d a (product r image (column x))) none → (k : ℕ) → k < r → Same p (x k) 0
    image_faithful x z =
        let v = product r (picks pivot) (column x) in
        let e1 : AreSame p d 1 (product r image (column x)) (product d m v) = chain (mul_left p d r 1 image basis (column x) is_image) (assoc p d d r 1 m (picks pivot) (column x)) in
        free_image x (chain (assoc p d d r 1 m (picks pivot) (column x)) (after v (chain (by (mul_right p d d 1 a (product r image (column x)) (product d m v) e1)) z)))

    -- all that is told of the two parts
    pub split : IsSplit p d r s a image kernel
    split = record { sizes = sizes; unkilled = split_unkilled; dies = kernel_powers; map = product d b (product d a (picks pivot)); carried = image_carried; faithful = image_faithful }

-- ---- the same over lists

module _ (p d : ℕ) (field : IsField p) (a : ℕ → ℕ → ℕ) (m : Table) (rows : List (List ℕ)) (pivots free : List ℕ) (power_of : IsHighPower p d a m) (h : IsReduction p d d (entry m) rows pivots) (f : AreFree d pivots free) where
  splitter : IsSplitter p d power_of.exponent (length rows) (length free) a (entry m) (cell rows) (λ k. get_or pivots k 0) (λ t. get_or free t 0)
  splitter = let q = h.form.sizes in record {
    high = power_of.high;
    is_power = power_of.is_power;
    echelon = h.form.echelon;
    forth = h.forth;
    back = h.back;
    within = f.within;
    apart = λ t k x y. f.apart t k x (omega arith);
    every = λ c x y. f.every c x (λ k z. y k (omega arith));
    distinct = f.distinct;
  }

  pub counts : length rows + length free ≡ d
  counts =
      let piv : ℕ → ℕ = λ k. get_or pivots k 0 in
      let fr : ℕ → ℕ = λ t. get_or free t 0 in
      sizes p d power_of.exponent (length rows) (length free) field a (entry m) (cell rows) piv fr splitter (product d (entry m) (picks piv)) (λ i t. kernel_matrix p (length rows) (cell rows) piv i (fr t))
      (itself p d (length rows) (product d (entry m) (picks piv))) (itself p d (length free) (λ i t. kernel_matrix p (length rows) (cell rows) piv i (fr t)))

  pub parts_split : (image kernel : ℕ → ℕ → ℕ) → ((i k : ℕ) → i < d → k < length rows → image i k ≡ entry m i (get_or pivots k 0))
      → ((i t : ℕ) → i < d → t < length free → Same p (kernel i t) (kernel_matrix p (length rows) (cell rows) (λ k. get_or pivots k 0) i (get_or free t 0)))
      → IsSplit p d (length rows) (length free) a image kernel
  parts_split image kernel hi hk =
      let piv : ℕ → ℕ = λ k. get_or pivots k 0 in
      let fr : ℕ → ℕ = λ t. get_or free t 0 in
      split p d power_of.exponent (length rows) (length free) field a (entry m) (cell rows) piv fr splitter image kernel
      (record { at = λ i k x y. exact (hi i k x y ∙ sym (at_pivots p d (length rows) field (cell rows) piv h.form.echelon (entry m) i k y)) })
      (record { at = λ i t x y. hk i t x y })

-- the reduction of a power by the size that it has
pub reduction_at : (p d : ℕ) (a : ℕ → ℕ → ℕ) (m : Table) (rows : List (List ℕ)) (pivots : List ℕ) → IsHighPower p d a m → IsReduction p (m.columns + 0) m.rows (beside m.columns (entry m) identity) rows pivots → IsReduction p d d (entry m) rows pivots
reduction_at p d a m rows pivots q h =
    subst (λ (x : ℕ). IsReduction p d x (entry m) rows pivots) q.has_rows (subst (λ (x : ℕ). IsReduction p x m.rows (entry m) rows pivots) q.has_columns (narrowed p m.columns m.rows (entry m) rows pivots h))
