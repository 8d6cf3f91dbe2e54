-- Each matrix has a rank and one alone; rows and columns give the same, and invertible factors leave it
use Rattle.std.proofs.Common.{◌≡◌, ℕ, zero, suc, ◌+◌, ◌*◌, ◌<◌, ◌≤◌, ◌⊎◌, inl, inr, refl, ap, ◌∙◌, arith, ⊎_elim, Bool, cond, ltb, lt-ltb, le-ltb, subst}
use Rattle.std.proofs.lemmas.Bool.{cases_lt}
use Rattle.field_mod.specs.Sums.{total}
use Rattle.field_mod.specs.Modular.{Same, NonZero, IsField, minus}
use Rattle.field_mod.proofs.Sums.{total-same, total_same}
use Rattle.field_mod.proofs.Modular.{same_by, same_refl, same_sym, same_trans, same-add, same-scale, same-mul, decide_zero, neg_cancel}
use Rattle.leray_conley.specs.Products.{product, identity, transpose, none, AreSame}
use Rattle.leray_conley.specs.Kernels.{IsInKernel, IsInjective}
use Rattle.leray_conley.specs.Echelons.{along, IsEchelon}
use Rattle.leray_conley.specs.Ranks.{IsImageBasis, IsRank, RanksExist, RanksAgree, RanksOfTransposesAgree, LeftFactorsKeepRanks, RightFactorsKeepRanks}
use Rattle.leray_conley.proofs.Algebra.{by, chain, add, itself, mul_left, mul_right, assoc, sum_mul, one_mul, mul_one, mul_none, sum_none}
use Rattle.leray_conley.proofs.Echelons.{along-scale, below_cases, IsInserted, inserted_echelon, inserted_forth, inserted_back, inserted_last}
use Rattle.leray_conley.proofs.Inverses.{right_inverses_are_left}
use Rattle.leray_conley.proofs.Reduced.{column, picked, rank}
use Rattle.leray_conley.proofs.Totals.{exact}
use Rattle.field_mod.proofs.Solutions.{solve}

-- ---- existence, by elimination

-- the first of n numbers that is not 0
first_place : (p n : ℕ) (q : ℕ → ℕ) → ((j : ℕ) → j < n → Same p (q j) 0) ⊎ ((c : ℕ) × (c < n) × NonZero p (q c) × ((j : ℕ) → j < c → Same p (q j) 0))
first_place p zero q = inl (λ j l. absurd (omega arith))
first_place p (suc n) q =
    elim (decide_zero p (q 0)) [
      | inr h ↦ inr (0, (omega arith), h, (λ j l. absurd (omega arith)))
      | inl z ↦ elim (first_place p n (λ j. q (suc j))) [
        | inl hs ↦ inl (λ j. elim j as (λ i. i < suc n → Same p (q i) 0) [ zero ↦ λ l. z | suc i ↦ λ l. hs i (omega arith) ])
        | inr w ↦ inr (suc w.0, (let l = w.1 in omega arith), w.2, (λ j. elim j as (λ i. i < suc w.0 → Same p (q i) 0) [ zero ↦ λ l. z | suc i ↦ λ l. w.3 i (omega arith) ]))
      ]
    ]

record Reduction (p n m : ℕ) (a : ℕ → ℕ → ℕ) : Type 0 where
  r : ℕ
  b : ℕ → ℕ → ℕ
  pivot : ℕ → ℕ
  echelon : IsEchelon p n r b pivot
  forth : (v : ℕ → ℕ) → IsInKernel p m n a v → IsInKernel p r n b v
  back : (v : ℕ → ℕ) → IsInKernel p r n b v → IsInKernel p m n a v

module _ (p n m : ℕ) (field : IsField p) (a : ℕ → ℕ → ℕ) (h : Reduction p n m a) where
  one : 1 ≤ p
  one = let t = field.above_one in omega arith

  weights : ℕ → ℕ → ℕ
  weights i k = minus p (a m (h.pivot k))

  -- the next row, less what it has along the others
  cleared : ℕ → ℕ
  cleared j = a m j + total h.r (λ k. minus p (a m (h.pivot k)) * h.b k j)

  cleared_zero : (i : ℕ) → i < h.r → Same p (cleared (h.pivot i)) 0
  unfolding cleared
  cleared_zero i l =
      let x = a m (h.pivot i) in
      let s : Same p (total h.r (λ k. minus p (a m (h.pivot k)) * h.b k (h.pivot i))) (minus p x) =
      same_trans (total_same p h.r (λ k. minus p (a m (h.pivot k)) * h.b k (h.pivot i)) (λ k. minus p (a m (h.pivot k)) * identity k i) (λ k y. same-scale (minus p (a m (h.pivot k))) (h.echelon.unit k i y l))) (exact (picked h.r (λ k. minus p (a m (h.pivot k))) i l)) in
      let o = neg_cancel p x one in
      same_trans (same-add (same_refl p x) s) (same_by p 0 x _ _ (omega arith))

  cleared_along : (v : ℕ → ℕ) → IsInKernel p h.r n h.b v → Same p (along n cleared v) (along n (a m) v)
  unfolding cleared weights
  cleared_along v k =
      let row : ℕ → ℕ → ℕ = λ i j. a m j in
      let z : AreSame p h.r 1 (product n h.b (column v)) none = record { at = λ i j x y. k i x } in
      (chain (sum_mul p 1 n 1 row (product h.r weights h.b) (column v)) (chain (add (itself p 1 1 (product n row (column v))) (chain (assoc p 1 h.r n 1 weights h.b (column v)) (chain (mul_right p 1 h.r 1 weights (product n h.b (column v)) none z) (mul_none p 1 h.r 1 weights)))) (sum_none p 1 1 (product n row (column v))))).at 0 0 (omega arith) (omega arith)

  -- nothing is left
  passed : ((j : ℕ) → j < n → Same p (cleared j) 0) → Reduction p n (suc m) a
  passed z = record {
    r = h.r;
    b = h.b;
    pivot = h.pivot;
    echelon = h.echelon;
    forth = λ v k. h.forth v (λ i l. k i (omega arith));
    back = λ v k i l. ⊎_elim
        (λ y. h.back v k i y)
        (λ y. same_trans (exact (ap (λ (x : ℕ). total n (λ j. a x j * v j)) y)) (same_trans (same_sym (cleared_along v k)) (same_trans (total_same p n (λ j. cleared j * v j) (λ j. 0 * v j) (λ j q. same-mul (z j q) (same_refl p (v j)))) (exact (total-same n (λ j. 0 * v j) (λ j. 0) (λ j q. omega arith) ∙ zeros n)))))
        (below_cases i m (omega arith));
  }
    where
      zeros : (k : ℕ) → total k (λ j. 0) ≡ 0
      zeros zero = refl
      zeros (suc k) = omega (arith, zeros k)

  -- or it has a first place c, and w times it is 1 there
  module _ (c w : ℕ) (within : c < n) (unit : Same p (w * cleared c) 1) (first : (j : ℕ) → j < c → Same p (cleared j) 0) where
    scaled : ℕ → ℕ
    scaled j = w * cleared j

    more : ℕ → ℕ → ℕ
    more k j = cond (ltb k h.r) (h.b k j + minus p (h.b k c) * scaled j) (scaled j)

    places : ℕ → ℕ
    places k = cond (ltb k h.r) (h.pivot k) c

    inserted : IsInserted p n h.r h.b h.pivot scaled c more places
    unfolding more places
    inserted = record {
      by = λ k. minus p (h.b k c);
      clears = λ k l. let o = neg_cancel p (h.b k c) one in same_by p 0 (h.b k c) _ _ (omega arith);
      others = λ k j l y. exact (ap (λ (x : Bool). cond x (h.b k j + minus p (h.b k c) * scaled j) (scaled j)) (lt-ltb k h.r l));
      last = λ j. ap (λ (x : Bool). cond x (h.b h.r j + minus p (h.b h.r c) * scaled j) (scaled j)) (le-ltb h.r h.r (omega arith));
      pivots = λ k l. ap (λ (x : Bool). cond x (h.pivot k) c) (lt-ltb k h.r l);
      new_pivot = ap (λ (x : Bool). cond x (h.pivot h.r) c) (le-ltb h.r h.r (omega arith));
    }

    first_at : (j : ℕ) → j < c → Same p (scaled j) 0
    unfolding scaled
    first_at j l = same_trans (same-scale w (first j l)) (exact (omega arith))

    free_at : (k : ℕ) → k < h.r → Same p (scaled (h.pivot k)) 0
    unfolding scaled
    free_at k l = same_trans (same-scale w (cleared_zero k l)) (exact (omega arith))

    one_at : Same p (scaled c) 1
    unfolding scaled
    one_at = unit

    from_row : (v : ℕ → ℕ) → IsInKernel p h.r n h.b v → Same p (along n (a m) v) 0 → Same p (along n scaled v) 0
    unfolding scaled
    from_row v k z = same_trans (along-scale p n cleared (λ j. w * cleared j) v w (λ j l. same_refl p (w * cleared j))) (same_trans (same-scale w (same_trans (cleared_along v k) z)) (exact (omega arith)))

    to_row : (v : ℕ → ℕ) → IsInKernel p h.r n h.b v → Same p (along n scaled v) 0 → Same p (along n (a m) v) 0
    unfolding scaled
    to_row v k z =
        let x = cleared c in
        let y = along n cleared v in
        let e : Same p (w * y) 0 = same_trans (same_sym (along-scale p n cleared (λ j. w * cleared j) v w (λ j l. same_refl p (w * cleared j)))) z in
        let b : Same p y 0 = same_trans (same_trans (exact (omega arith)) (same_sym (same-mul unit (same_refl p y)))) (same_trans (exact (omega arith)) (same_trans (same-scale x e) (exact (omega arith)))) in
        same_trans (same_sym (cleared_along v k)) b

    taken : Reduction p n (suc m) a
    taken = record {
      r = h.r + 1;
      b = more;
      pivot = places;
      echelon = inserted_echelon p n h.r c h.b more h.pivot places scaled h.echelon inserted within one_at first_at free_at;
      forth = λ v k.
          let z = h.forth v (λ i l. k i (omega arith)) in
          inserted_forth p n h.r c h.b more h.pivot places scaled h.echelon inserted within one_at first_at free_at v z (from_row v z (k m (omega arith)));
      back = λ v k i l.
          let z = inserted_back p n h.r c h.b more h.pivot places scaled h.echelon inserted within one_at first_at free_at v k in
          ⊎_elim
          (λ y. h.back v z i y)
          (λ y. same_trans (exact (ap (λ (x : ℕ). total n (λ j. a x j * v j)) y)) (to_row v z (inserted_last p n h.r c h.b more h.pivot places scaled h.echelon inserted within one_at first_at free_at v k)))
          (below_cases i m (omega arith));
    }

reductions : (p n : ℕ) → IsField p → (m : ℕ) (a : ℕ → ℕ → ℕ) → Reduction p n m a
reductions p n field zero a = record {
  r = 0;
  b = none;
  pivot = λ k. 0;
  echelon = record { columns = λ k l. absurd (omega arith); unit = λ i k l _. absurd (omega arith); leading = λ k j l _. absurd (omega arith) };
  forth = λ v k i l. absurd (omega arith);
  back = λ v k i l. absurd (omega arith);
}
reductions p n field (suc m) a =
    let h = reductions p n field m a in
    ⊎_elim
    (λ z. passed p n m field a h z)
    (λ w. let i = field.inverse (cleared p n m field a h w.0) w.2 in taken p n m field a h w.0 i.0 w.1 i.1 w.3)
    (first_place p n (cleared p n m field a h))

pub ranks_exist : RanksExist
ranks_exist p m n a field = let h = reductions p n field m a in (h.r, rank p n h.r field h.b h.pivot h.echelon m a h.forth h.back)

-- ---- uniqueness

-- independent columns that are combinations of s columns are no more than s
fits : (p m r s : ℕ) → IsField p → (b c y : ℕ → ℕ → ℕ) → IsInjective p m r b → AreSame p m r b (product s c y) → r ≤ s
fits p m r s field b c y inj e = ⊎_elim
    (λ l.
    let q = solve p field s r l y in
    let v : ℕ → ℕ = q.at in
    let z : AreSame p s 1 (product r y (column v)) none = record { at = λ i j x _. same_trans (exact (total-same r (λ k. y i k * v k) (λ k. v k * y i k) (λ k _. omega arith))) (q.solves i x) } in
    let w : AreSame p m 1 (product r b (column v)) none = chain (mul_left p m r 1 b (product s c y) (column v) e) (chain (assoc p m s r 1 c y (column v)) (chain (mul_right p m s 1 c (product r y (column v)) none z) (mul_none p m s 1 c))) in
    absurd (q.nonzero (inj v (λ i x. w.at i 0 x (omega arith)) q.place q.within)))
    (λ l. l)
    (cases_lt s r)

not_more : (p m n r s : ℕ) → IsField p → (a b c : ℕ → ℕ → ℕ) → IsImageBasis p m n a r b → IsImageBasis p m n a s c → r ≤ s
not_more p m n r s field a b c hb hc = fits p m r s field b c (product n hc.weights hb.sources) hb.independent
    (chain hb.inside (chain (mul_left p m n r a (product s c hc.weights) hb.sources hc.spans) (assoc p m s n r c hc.weights hb.sources)))

pub ranks_agree : RanksAgree
ranks_agree p m n a r s field hr hs =
    let u = not_more p m n r s field a hr.0 hs.0 hr.1 hs.1 in
    let w = not_more p m n s r field a hs.0 hr.0 hs.1 hr.1 in
    omega arith

-- ---- transposes

turned : (p m k n : ℕ) (a b : ℕ → ℕ → ℕ) → AreSame p n m (transpose (product k a b)) (product k (transpose b) (transpose a))
turned p m k n a b = record { at = λ i j x y. exact (total-same k (λ l. a j l * b l i) (λ l. b l i * a j l) (λ l _. omega arith)) }

turn : {p m n : ℕ} {a b : ℕ → ℕ → ℕ} → AreSame p m n a b → AreSame p n m (transpose a) (transpose b)
turn h = record { at = λ i j x y. h.at j i y x }

turned_fits : (p m n r s : ℕ) → IsField p → (a b c : ℕ → ℕ → ℕ) → IsImageBasis p m n a r b → IsImageBasis p n m (transpose a) s c → s ≤ r
turned_fits p m n r s field a b c hb hc = fits p n s r field c (transpose hb.weights) (product m (transpose b) hc.sources) hc.independent
    (chain hc.inside (chain (mul_left p n m s (transpose a) (product r (transpose hb.weights) (transpose b)) hc.sources (chain (turn hb.spans) (turned p m r n b hb.weights))) (assoc p n r m s (transpose hb.weights) (transpose b) hc.sources)))

pub ranks_of_transposes_agree : RanksOfTransposesAgree
ranks_of_transposes_agree p m n a r field h =
    let k = ranks_exist p n m (transpose a) field in
    let u = turned_fits p m n r k.0 field a h.0 k.1.0 h.1 k.1.1 in
    let w = turned_fits p n m k.0 r field (transpose a) k.1.0 h.0 k.1.1 h.1 in
    let e : k.0 ≡ r = omega arith in
    subst (λ (x : ℕ). IsRank p n m (transpose a) x) e k.1

-- ---- invertible factors

pub left_factors_keep_ranks : LeftFactorsKeepRanks
left_factors_keep_ranks p m n s t a r field st h =
    let b = h.0 in
    let k = h.1 in
    let ts = right_inverses_are_left p m s t field st in (
      product m s b,
      record {
        sources = k.sources;
        inside = chain (mul_right p m m r s b (product n a k.sources) k.inside) (by (assoc p m m n r s a k.sources));
        weights = k.weights;
        spans = chain (mul_right p m m n s a (product r b k.weights) k.spans) (by (assoc p m m r n s b k.weights));
        independent = λ v z j l.
            let x : AreSame p m 1 (product r (product m s b) (column v)) none = record { at = λ i _ y _. z i y } in
            let bv = product r b (column v) in
            let y : AreSame p m 1 bv none = chain (by (one_mul p m 1 bv)) (chain (mul_left p m m 1 identity (product m t s) bv (by ts)) (chain (assoc p m m m 1 t s bv) (chain (mul_right p m m 1 t (product m s bv) none (chain (by (assoc p m m r 1 s b (column v))) x)) (mul_none p m m 1 t)))) in
            k.independent v (λ i q. y.at i 0 q (omega arith)) j l;
      },
    )

pub right_factors_keep_ranks : RightFactorsKeepRanks
right_factors_keep_ranks p m n s t a r field st h =
    let b = h.0 in
    let k = h.1 in (
      b,
      record {
        sources = product n t k.sources;
        inside = chain k.inside (chain (mul_left p m n r a (product n a identity) k.sources (by (mul_one p m n a))) (chain (mul_left p m n r (product n a identity) (product n a (product n s t)) k.sources (mul_right p m n n a identity (product n s t) (by st)))
            (chain (mul_left p m n r (product n a (product n s t)) (product n (product n a s) t) k.sources (by (assoc p m n n n a s t))) (assoc p m n n r (product n a s) t k.sources))));
        weights = product n k.weights s;
        spans = chain (mul_left p m n n a (product r b k.weights) s k.spans) (assoc p m r n n b k.weights s);
        independent = k.independent;
      },
    )
