-- Chains up to null chains.
use Rattle.std.proofs.Common.{◌≡◌, ℕ, ◌+◌, ◌-◌, ◌*◌, ◌<◌, ◌≤◌, sym, arith, ⊎_elim, true}
use Rattle.std.proofs.lemmas.Bool.{cases_lt}
use Rattle.field_mod.specs.Sums.{total}
use Rattle.field_mod.specs.Modular.{Same}
use Rattle.field_mod.proofs.Sums.{total-same, total_same, total_none}
use Rattle.field_mod.proofs.Modular.{same_by, same_refl, same_sym, same_trans, same-add, same-scale, same-mul, neg_cancel}
use Rattle.elem_cubes.proofs.Modular.{exact}
use Rattle.chains.specs.Homology.{System, IsBoundaryOperator, IsChain, IsNull, IsSpanned, combination}
use Rattle.chains.proofs.Systems.{chain-zero, chain-add, chain-scale, chain-combination, boundary-zero, boundary-add, boundary-scale}
use Rattle.leray_conley.specs.Products.{identity}
use Rattle.leray_conley.specs.Inverses.{IsInverse}
use Rattle.acyclic_values.specs.CarriedMaps.{IsSameClass}
use Rattle.acyclic_values.proofs.Sums.{total_total, total_behind}
use Rattle.algebraic_reduction.proofs.LinearMaps.{total_picked_other}

module _ {G : Type 0} (p k : ℕ) (K : System G) (op : IsBoundaryOperator p K) (one : 1 ≤ p) where
  pub class_same : (u v : G → ℕ) → ((g : G) → K.on g ≡ true → Same p (u g) (v g)) → IsSameClass p K k u v
  class_same u v e = record { filling = λ g. 0; chain = chain-zero p K (k + 1); differs = λ g o. same_trans (e g o) (same_trans (exact p (let q : v g ≡ v g + 0 = omega arith in q)) (same-add (same_refl p (v g)) (same_sym (boundary-zero p K op g o)))) }

  pub class_trans : (u v w : G → ℕ) → IsSameClass p K k u v → IsSameClass p K k v w → IsSameClass p K k u w
  class_trans u v w s t = record {
    filling = λ g. s.filling g + t.filling g;
    chain = chain-add p K (k + 1) s.filling t.filling s.chain t.chain;
    differs = λ g o.
        let a = boundary-add p K op s.filling t.filling g o in
        let x : ℕ = K.boundary s.filling g in
        let z : ℕ = K.boundary t.filling g in
        same_trans (s.differs g o) (same_trans (same-add (t.differs g o) (same_refl p x)) (same_trans (exact p (let q : w g + z + x ≡ w g + (x + z) = omega arith in q)) (same-add (same_refl p (w g)) (same_sym a))));
  }

  pub class_sym : (u v : G → ℕ) → IsSameClass p K k u v → IsSameClass p K k v u
  class_sym u v s = record {
    filling = λ g. (p - 1) * s.filling g;
    chain = chain-scale p K (k + 1) (p - 1) s.filling s.chain;
    differs = λ g o.
        let a = boundary-scale p K op (p - 1) s.filling g o in
        let x : ℕ = K.boundary s.filling g in
        let n = neg_cancel p x one in
        same_sym (same_trans (same-add (s.differs g o) a) (same_by p 0 x _ _ (omega (arith, n))));
  }

  -- a null chain is one of the class of nothing
  pub null_of : (u v : G → ℕ) → IsSameClass p K k u v → ((g : G) → K.on g ≡ true → Same p (v g) 0) → IsNull p K k u
  null_of u v s e = record { filling = s.filling; chain = s.chain; fills = λ g o. same_trans (s.differs g o) (same_trans (same-add (e g o) (same_refl p (K.boundary s.filling g))) (exact p (omega arith))) }

  pub of_null : (u : G → ℕ) → IsNull p K k u → IsSameClass p K k u (λ g. 0)
  of_null u n = record { filling = n.filling; chain = n.chain; differs = λ g o. same_trans (n.fills g o) (exact p (let q : K.boundary n.filling g ≡ 0 + K.boundary n.filling g = omega arith in q)) }

  pub of_spanned : (m : ℕ) (ws : ℕ → G → ℕ) (u : G → ℕ) → (s : IsSpanned p K k m ws u) → IsSameClass p K k u (combination m s.x ws)
  of_spanned m ws u s = record { filling = s.filling; chain = s.chain; differs = s.differs }

  -- ---- the matrix of the inclusion of chains zs among chains ws

  module _ (n m : ℕ) (zs ws : ℕ → G → ℕ) (entry : ℕ → ℕ → ℕ) (images : (j : ℕ) → j < n → IsSameClass p K k (zs j) (combination m (λ i. entry i j) ws)) where
    -- the coefficients of the image of a combination
    abbrev pub sent : (ℕ → ℕ) → ℕ → ℕ
    sent x r = total n (λ s. x s * entry r s)

    record Filled (s : ℕ) : Type 0 where
      f : G → ℕ
      chain : IsChain p K (k + 1) f
      fills : s < n → (g : G) → K.on g ≡ true → Same p (zs s g) (combination m (λ i. entry i s) ws g + K.boundary f g)

    filled : (s : ℕ) → Filled s
    filled s = ⊎_elim (λ l. let i = images s l in record { f = i.filling; chain = i.chain; fills = λ _. i.differs }) (λ l. record { f = λ g. 0; chain = chain-zero p K (k + 1); fills = λ q. absurd (omega arith) }) (cases_lt s n)

    pub sends : (x : ℕ → ℕ) → IsSameClass p K k (combination n x zs) (combination m (sent x) ws)
    sends x = record {
      filling = combination n x (λ s. (filled s).f);
      chain = chain-combination p K (k + 1) n x (λ s. (filled s).f) (λ s _. (filled s).chain);
      differs = λ g o.
          let W : ℕ → ℕ = λ s. combination m (λ i. entry i s) ws g in
          let B : ℕ → ℕ = λ s. K.boundary (filled s).f g in
          let a = total_same p n (λ s. x s * zs s g) (λ s. x s * (W s + B s)) (λ s l. same-scale (x s) ((filled s).fills l g o)) in
          let b = total_behind n x W B in
          let c = op.linear n x (λ s. (filled s).f) g o in
          let d = total_total n m x (λ s r. entry r s) (λ r. ws r g) in
          same_trans a (same_trans (exact p b) (same-add (exact p (sym d)) (same_sym c)));
    }

-- ---- a matrix with an inverse

module _ (p d : ℕ) (a b : ℕ → ℕ → ℕ) (i : IsInverse p d a b) where
  pub solved : (t : ℕ → ℕ) (r : ℕ) → r < d → Same p (total d (λ s. total d (λ q. t q * b s q) * a r s)) (t r)
  solved t r l =
      let e = total_total d d t (λ q s. b s q) (λ s. a r s) in
      let f = total_same p d (λ q. t q * total d (λ s. b s q * a r s)) (λ q. identity r q * t q) (λ q m. same_trans (same-scale (t q) (same_trans (exact p (total-same d (λ s. b s q * a r s) (λ s. a r s * b s q) (λ s _. omega arith))) (i.0.at r q l m))) (exact p (omega arith))) in
      same_trans (exact p e) (same_trans f (exact p (total_picked_other d r t l)))

  pub solved_none : (x : ℕ → ℕ) → ((r : ℕ) → r < d → Same p (total d (λ s. x s * a r s)) 0) → (s : ℕ) → s < d → Same p (x s) 0
  solved_none x z s l =
      let e = total_total d d (b s) a x in
      let f = total_same p d (λ t. identity s t * x t) (λ t. total d (λ r. b s r * a r t) * x t) (λ t m. same-mul (same_sym (i.1.at s t l m)) (same_refl p (x t))) in
      let g = total_none p d (λ r. b s r * total d (λ t. a r t * x t)) (λ r m. same_trans (same-scale (b s r) (same_trans (exact p (total-same d (λ t. a r t * x t) (λ t. x t * a r t) (λ t _. omega arith))) (z r m))) (exact p (omega arith))) in
      same_trans (exact p (sym (total_picked_other d s x l))) (same_trans f (same_trans (exact p e) g))
