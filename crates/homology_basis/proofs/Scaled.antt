-- A basis stays one where each chain is multiplied by a number that has an inverse.
use Rattle.std.proofs.Common.{ℕ, ◌*◌, ◌<◌, arith}
use Rattle.field_mod.specs.Modular.{Same}
use Rattle.field_mod.proofs.Sums.{total_same}
use Rattle.field_mod.proofs.Modular.{same_refl, same_sym, same_trans, same-add, same-scale}
use Rattle.chains.specs.Homology.{System, IsChain, IsCycle, IsBasis, IsBoundaryOperator, combination}
use Rattle.chains.proofs.Systems.{boundary-same, boundary-scale, null-same}
use Rattle.algebraic_reduction.proofs.LinearMaps.{exact}

-- x is 0 where x times a number with an inverse is 0
pub cancelled : (p x u a : ℕ) → Same p (u * a) 1 → Same p (x * u) 0 → Same p x 0
cancelled p x u a inverse nil =
    same_trans (exact p x (x * 1) (omega arith)) (same_trans (same-scale x (same_sym inverse)) (same_trans (exact p (x * (u * a)) (a * (x * u)) (omega arith)) (same_trans (same-scale a nil) (exact p (a * 0) 0 (omega arith)))))

-- y times u times a is y
pub undone : (p y u a : ℕ) → Same p (u * a) 1 → Same p (y * (u * a)) y
undone p y u a inverse = same_trans (same-scale y inverse) (exact p (y * 1) y (omega arith))

module _ {G : Type 0} (p k m : ℕ) (K : System G) (u a : ℕ → ℕ) (zs ws : ℕ → G → ℕ) (op : IsBoundaryOperator p K)
    (inverse : (i : ℕ) → i < m → Same p (u i * a i) 1) (multiple : (i : ℕ) → i < m → (g : G) → Same p (ws i g) (u i * zs i g)) where
  scaled_chain : (i : ℕ) → i < m → IsChain p K k (zs i) → IsChain p K k (ws i)
  scaled_chain i q c = record {
    on = λ g o. same_trans (multiple i q g) (same_trans (same-scale (u i) (c.on g o)) (exact p (u i * 0) 0 (omega arith)));
    of_degree = λ g f. same_trans (multiple i q g) (same_trans (same-scale (u i) (c.of_degree g f)) (exact p (u i * 0) 0 (omega arith)));
  }

  scaled_cycle : (i : ℕ) → i < m → IsCycle p K k (zs i) → IsCycle p K k (ws i)
  scaled_cycle i q c = record {
    chain = scaled_chain i q c.chain;
    closed = λ g o. same_trans (boundary-same p K op (ws i) (λ h. u i * zs i h) (multiple i q) g o) (same_trans (boundary-scale p K op (u i) (zs i) g o) (same_trans (same-scale (u i) (c.closed g o)) (exact p (u i * 0) 0 (omega arith))));
  }

  combined : (x : ℕ → ℕ) (g : G) → Same p (combination m (λ i. x i * u i) zs g) (combination m x ws g)
  combined x g = total_same p m (λ i. x i * u i * zs i g) (λ i. x i * ws i g) (λ i q. same_trans (exact p (x i * u i * zs i g) (x i * (u i * zs i g)) (omega arith)) (same-scale (x i) (same_sym (multiple i q g))))

  restored : (x : ℕ → ℕ) (g : G) → Same p (combination m x zs g) (combination m (λ i. x i * a i) ws g)
  restored x g = total_same p m (λ i. x i * zs i g) (λ i. x i * a i * ws i g) (λ i q. same_sym (same_trans (same-scale (x i * a i) (multiple i q g)) (same_trans (exact p (x i * a i * (u i * zs i g)) (x i * zs i g * (u i * a i)) (omega arith)) (undone p (x i * zs i g) (u i) (a i) (inverse i q)))))

  pub scaled_basis : IsBasis p K k m zs → IsBasis p K k m ws
  scaled_basis b = record {
    cycles = λ i q. scaled_cycle i q (b.cycles i q);
    independent = λ x nil i q. cancelled p (x i) (u i) (a i) (inverse i q) (b.independent (λ j. x j * u j) (null-same p K k (combination m x ws) (combination m (λ j. x j * u j) zs) (λ g o. combined x g) nil) i q);
    spanning = λ z cy. let s = b.spanning z cy in record {
      x = λ i. s.x i * a i;
      filling = s.filling;
      chain = s.chain;
      differs = λ g o. same_trans (s.differs g o) (same-add (restored s.x g) (same_refl p (K.boundary s.filling g)));
    };
  }
