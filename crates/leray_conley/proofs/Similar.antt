-- Leray data of similar matrices have one rank
use Rattle.std.proofs.Common.{◌≡◌, ℕ, zero, suc, ◌+◌, ◌-◌, ◌*◌, ◌<◌, refl, arith, ⊎_elim, lt-ltb, le-ltb}
use Rattle.std.proofs.lemmas.Bool.{cases_lt}
use Rattle.field_mod.specs.Modular.{IsField}
use Rattle.field_mod.proofs.Sums.{total-same}
use Rattle.field_mod.proofs.Modular.{same_trans}
use Rattle.leray_conley.proofs.Totals.{exact}
use Rattle.leray_conley.specs.Products.{product, identity, power, AreSame, none}
use Rattle.leray_conley.specs.Splitting.{beside, Splitting, IsLeraySplitting, SplittingRanksAgree}
use Rattle.leray_conley.proofs.Algebra.{plus, by, chain, add, itself, mul_left, mul_right, assoc, sum_mul, one_mul, mul_one, mul_none, none_mul}
use Rattle.leray_conley.proofs.Inverses.{right_inverses_are_left}
use Rattle.leray_conley.proofs.Existence.{total-split}
use Rattle.field_mod.proofs.Solutions.{solve}

module _ (p d : ℕ) (field : IsField p) (a : ℕ → ℕ → ℕ) (X : Splitting) (h : IsLeraySplitting p d a X) where
  abbrev r : ℕ
  r = X.rank

  abbrev pub rest : ℕ
  rest = d - X.rank

  abbrev pub bottom : ℕ → ℕ → ℕ
  bottom i j = X.split_inverse (X.rank + i) j

  pub in_blocks : AreSame p d d (plus (product r X.image X.split_inverse) (product rest X.kernel bottom)) identity
  in_blocks = record {
    at = λ i j x y.
        let f : ℕ → ℕ = λ l. beside r X.image X.kernel i l * X.split_inverse l j in
        let s : r + rest ≡ d = let q = h.fits in omega arith in
        let e1 = total-split r rest d f s in
        let e2 = total-same r f (λ l. X.image i l * X.split_inverse l j) (λ l m. rw (lt-ltb l r m) refl) in
        let e3 = total-same rest (λ l. f (r + l)) (λ l. X.kernel i l * bottom l j) (λ l m. let b = le-ltb (r + l) r (omega arith) in let c : r + l - r ≡ l = omega arith in rw (b, c) refl) in
        same_trans (exact (omega arith)) (h.splits.at i j x y);
  }

  -- the columns of the image are independent
  pub top_image : AreSame p r r (product d X.split_inverse X.image) identity
  top_image =
      let left = right_inverses_are_left p d (beside r X.image X.kernel) X.split_inverse field h.splits in
      record { at = λ i j x y. let q = h.fits in same_trans (exact (total-same d (λ l. X.split_inverse i l * X.image l j) (λ l. X.split_inverse i l * beside r X.image X.kernel l j) (λ l _. rw (lt-ltb j r y) refl))) (left.at i j (omega arith) (omega arith)) }

  pub power_image : (m : ℕ) → AreSame p d r (product d (power d a m) X.image) (product r X.image (power r X.reduced m))
  power_image zero = chain (one_mul p d r X.image) (by (mul_one p d r X.image))
  power_image (suc m) =
      let pm = power r X.reduced m in
      chain (assoc p d d d r a (power d a m) X.image) (chain (mul_right p d d r a (product d (power d a m) X.image) (product r X.image pm) (power_image m))
      (chain (by (assoc p d d r r a X.image pm)) (chain (mul_left p d r r (product d a X.image) (product r X.image X.reduced) pm h.reduces) (assoc p d r r r X.image X.reduced pm))))

  pub back : AreSame p r r (product r X.reduced_inverse X.reduced) identity
  back = right_inverses_are_left p r X.reduced X.reduced_inverse field h.inverts

  -- the reduced matrix kills nothing
  pub power_free : (m : ℕ) (x : ℕ → ℕ → ℕ) → AreSame p r 1 (product r (power r X.reduced m) x) none → AreSame p r 1 x none
  power_free zero x z = chain (by (one_mul p r 1 x)) z
  power_free (suc m) x z =
      let y = product r (power r X.reduced m) x in
      let e : AreSame p r 1 (product r X.reduced y) none = chain (by (assoc p r r r 1 X.reduced (power r X.reduced m) x)) z in
      power_free m x (chain (by (one_mul p r 1 y)) (chain (mul_left p r r 1 identity (product r X.reduced_inverse X.reduced) y (by back)) (chain (assoc p r r r 1 X.reduced_inverse X.reduced y) (chain (mul_right p r r 1 X.reduced_inverse (product r X.reduced y) none e) (mul_none p r r 1 X.reduced_inverse)))))

  -- where a power of a kills a combination of the image, it is none
  pub image_free : (m : ℕ) (x : ℕ → ℕ → ℕ) → AreSame p d 1 (product d (power d a m) (product r X.image x)) none → AreSame p r 1 x none
  image_free m x z =
      let w = product r (power r X.reduced m) x in
      let e : AreSame p d 1 (product r X.image w) none = chain (by (assoc p d r r 1 X.image (power r X.reduced m) x)) (chain (mul_left p d r 1 (product r X.image (power r X.reduced m)) (product d (power d a m) X.image) x (by (power_image m))) (chain (assoc p d d r 1 (power d a m) X.image x) z)) in
      power_free m x (chain (by (one_mul p r 1 w)) (chain (mul_left p r r 1 identity (product d X.split_inverse X.image) w (by top_image)) (chain (assoc p r d r 1 X.split_inverse X.image w) (chain (mul_right p r d 1 X.split_inverse (product r X.image w) none e) (mul_none p r d 1 X.split_inverse)))))

  -- a vector with no part along the image is killed by the power
  pub kernel_dies : (y : ℕ → ℕ → ℕ) → AreSame p r 1 (product d X.split_inverse y) none → AreSame p d 1 (product d (power d a d) y) none
  kernel_dies y z =
      let pd = power d a d in
      let n = rest in
      let by_rows = product d bottom y in
      let e : AreSame p d 1 y (product n X.kernel by_rows) =
      chain (by (one_mul p d 1 y)) (chain (mul_left p d d 1 identity (plus (product r X.image X.split_inverse) (product n X.kernel bottom)) y (by in_blocks))
      (chain (sum_mul p d d 1 (product r X.image X.split_inverse) (product n X.kernel bottom) y)
      (chain (add (chain (assoc p d r d 1 X.image X.split_inverse y) (chain (mul_right p d r 1 X.image (product d X.split_inverse y) none z) (mul_none p d r 1 X.image))) (assoc p d n d 1 X.kernel bottom y))
      (record { at = λ i j x y. exact (omega arith) })))) in
      chain (mul_right p d d 1 pd y (product n X.kernel by_rows) e) (chain (by (assoc p d d n 1 pd X.kernel by_rows)) (chain (mul_left p d n 1 (product d pd X.kernel) none by_rows h.dies) (none_mul p d n 1 by_rows)))

module _ (p d : ℕ) (field : IsField p) (a b s t : ℕ → ℕ → ℕ) (st : AreSame p d d (product d s t) identity) (move : AreSame p d d (product d a s) (product d s b)) where
  ts : AreSame p d d (product d t s) identity
  ts = right_inverses_are_left p d s t field st

  -- t a = b t
  pub turned : AreSame p d d (product d b t) (product d t a)
  turned =
      let ta = product d t a in
      let bt = product d b t in
      by (chain (by (mul_one p d d ta)) (chain (mul_right p d d d ta identity (product d s t) (by st)) (chain (by (assoc p d d d d ta s t))
      (chain (mul_left p d d d (product d ta s) b t (chain (assoc p d d d d t a s) (chain (mul_right p d d d t (product d a s) (product d s b) move) (chain (by (assoc p d d d d t s b)) (chain (mul_left p d d d (product d t s) identity b ts) (one_mul p d d b))))))
      (itself p d d bt)))))

  power_turned : (m : ℕ) → AreSame p d d (product d (power d b m) t) (product d t (power d a m))
  power_turned zero = chain (one_mul p d d t) (by (mul_one p d d t))
  power_turned (suc m) =
      let q = power d a m in
      chain (assoc p d d d d b (power d b m) t) (chain (mul_right p d d d b (product d (power d b m) t) (product d t q) (power_turned m)) (chain (by (assoc p d d d d b t q)) (chain (mul_left p d d d (product d b t) (product d t a) q turned) (assoc p d d d d t a q))))

  pub no_more : (X Y : Splitting) → IsLeraySplitting p d a X → IsLeraySplitting p d b Y → Y.rank < X.rank → ⊥
  no_more X Y hx hy l =
      let r = X.rank in
      let ti = product d t X.image in
      let sol = solve p field Y.rank r l (product d Y.split_inverse ti) in
      let x : ℕ → ℕ → ℕ = λ i j. sol.at i in
      let y = product r ti x in
      let z : AreSame p Y.rank 1 (product d Y.split_inverse y) none = chain (by (assoc p Y.rank d r 1 Y.split_inverse ti x)) (record { at = λ i j u v. same_trans (exact (total-same r (λ k. product d Y.split_inverse ti i k * sol.at k) (λ k. sol.at k * product d Y.split_inverse ti i k) (λ k _. omega arith))) (sol.solves i u) }) in
      let dies = kernel_dies p d field b Y hy y z in
      let pa = power d a d in
      let ix = product r X.image x in
      let q = product d pa ix in
      let tq : AreSame p d 1 (product d t q) none =
      chain (by (assoc p d d d 1 t pa ix)) (chain (mul_left p d d 1 (product d t pa) (product d (power d b d) t) ix (by (power_turned d))) (chain (assoc p d d d 1 (power d b d) t ix) (chain (mul_right p d d 1 (power d b d) (product d t ix) y (by (assoc p d d r 1 t X.image x))) dies))) in
      let gone : AreSame p d 1 q none = chain (by (one_mul p d 1 q)) (chain (mul_left p d d 1 identity (product d s t) q (by st)) (chain (assoc p d d d 1 s t q) (chain (mul_right p d d 1 s (product d t q) none tq) (mul_none p d d 1 s)))) in
      sol.nonzero ((image_free p d field a X hx d x gone).at sol.place 0 sol.within (omega arith))

pub splitting_ranks_agree : SplittingRanksAgree
splitting_ranks_agree p d a b s t X Y field st move hx hy =
    let u : Y.rank < X.rank → ⊥ = no_more p d field a b s t st move X Y hx hy in
    let v : X.rank < Y.rank → ⊥ = no_more p d field b a t s (right_inverses_are_left p d s t field st) (turned p d field a b s t st move) Y X hy hx in
    ⊎_elim (λ l. absurd (u l)) (λ k. ⊎_elim (λ l. absurd (v l)) (λ m. omega arith) (cases_lt X.rank Y.rank)) (cases_lt Y.rank X.rank)
