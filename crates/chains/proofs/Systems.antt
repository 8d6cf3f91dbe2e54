-- Chains of any complex: what sums, multiples and combinations keep, and fillings of the next degree
use Rattle.std.proofs.Common.{◌≡◌, ◌≢◌, ℕ, zero, suc, ◌+◌, ◌*◌, ◌<◌, ◌%◌, refl, sym, ap, ◌∙◌, arith, ⊎_elim, true, false, cond, eqb, eq-eqb, ne_eqb}
use Rattle.std.proofs.lemmas.Bool.{cases_eq}
use Rattle.field_mod.specs.Modular.{Same}
use Rattle.field_mod.proofs.Modular.{same_by, same_refl, same_sym, same_trans, same-add, same-scale}
use Rattle.chains.specs.Homology.{System, IsChain, IsBoundaryOf, IsCycle, IsNull, combination, IsBoundaryOperator}
use Rattle.field_mod.proofs.Sums.{all_zero}

-- ---- chains of one degree

pub chain-zero : {G : Type 0} (p : ℕ) (K : System G) (k : ℕ) → IsChain p K k (λ g. 0)
chain-zero p K k = record { on = λ g h. same_refl p 0; of_degree = λ g h. same_refl p 0 }

pub chain-add : {G : Type 0} (p : ℕ) (K : System G) (k : ℕ) (c d : G → ℕ) → IsChain p K k c → IsChain p K k d → IsChain p K k (λ g. c g + d g)
chain-add p K k c d hc hd = record { on = λ g h. same-add (hc.on g h) (hd.on g h); of_degree = λ g h. same-add (hc.of_degree g h) (hd.of_degree g h) }

pub chain-scale : {G : Type 0} (p : ℕ) (K : System G) (k x : ℕ) (c : G → ℕ) → IsChain p K k c → IsChain p K k (λ g. x * c g)
chain-scale p K k x c hc = record { on = λ g h. scaled (c g) (hc.on g h); of_degree = λ g h. scaled (c g) (hc.of_degree g h) }
  where
    scaled : (n : ℕ) → Same p n 0 → Same p (x * n) 0
    scaled n s = same_trans (same-scale x s) (same_by p 0 0 _ _ (omega arith))

pub chain-combination : {G : Type 0} (p : ℕ) (K : System G) (k n : ℕ) (x : ℕ → ℕ) (cs : ℕ → G → ℕ) → ((i : ℕ) → i < n → IsChain p K k (cs i)) → IsChain p K k (combination n x cs)
chain-combination p K k n x cs h = record {
  on = λ g o. all_zero p n x (λ i. cs i g) (λ i l. (h i l).on g o);
  of_degree = λ g d. all_zero p n x (λ i. cs i g) (λ i l. (h i l).of_degree g d);
}

-- ---- boundaries

pub boundary-same : {G : Type 0} (p : ℕ) (K : System G) → IsBoundaryOperator p K → (c d : G → ℕ) → ((g : G) → Same p (c g) (d g)) → (g : G) → K.on g ≡ true → Same p (K.boundary c g) (K.boundary d g)
boundary-same p K b c d e g o = b.lowers c d g o (λ h _ _. e h)

pub boundary-zero : {G : Type 0} (p : ℕ) (K : System G) → IsBoundaryOperator p K → (g : G) → K.on g ≡ true → Same p (K.boundary (λ h. 0) g) 0
boundary-zero p K b g o = b.linear 0 (λ i. 0) (λ i h. 0) g o

-- the chain c, and then d
two : {G : Type 0} → (G → ℕ) → (G → ℕ) → ℕ → G → ℕ
two c d zero = c
two c d (suc i) = d

pub boundary-add : {G : Type 0} (p : ℕ) (K : System G) → IsBoundaryOperator p K → (c d : G → ℕ) (g : G) → K.on g ≡ true → Same p (K.boundary (λ h. c h + d h) g) (K.boundary c g + K.boundary d g)
unfolding two
boundary-add p K b c d g o =
    same_trans (boundary-same p K b (λ h. c h + d h) (combination 2 (λ i. 1) (two c d)) (λ h. same_by p 0 0 _ _ (omega arith)) g o)
    (same_trans (b.linear 2 (λ i. 1) (two c d) g o) (same_by p 0 0 _ _ (omega arith)))

pub boundary-scale : {G : Type 0} (p : ℕ) (K : System G) → IsBoundaryOperator p K → (x : ℕ) (c : G → ℕ) (g : G) → K.on g ≡ true → Same p (K.boundary (λ h. x * c h) g) (x * K.boundary c g)
boundary-scale p K b x c g o =
    same_trans (boundary-same p K b (λ h. x * c h) (combination 1 (λ i. x) (λ i. c)) (λ h. same_by p 0 0 _ _ (omega arith)) g o)
    (same_trans (b.linear 1 (λ i. x) (λ i. c) g o) (same_by p 0 0 _ _ (omega arith)))

-- ---- null chains and cycles

pub null-zero : {G : Type 0} (p : ℕ) (K : System G) (k : ℕ) → IsBoundaryOperator p K → IsNull p K k (λ g. 0)
null-zero p K k b = record { filling = λ g. 0; chain = chain-zero p K (k + 1); fills = λ g o. same_sym (boundary-zero p K b g o) }

pub null-same : {G : Type 0} (p : ℕ) (K : System G) (k : ℕ) (z w : G → ℕ) → ((g : G) → K.on g ≡ true → Same p (w g) (z g)) → IsNull p K k z → IsNull p K k w
null-same p K k z w e n = record { filling = n.filling; chain = n.chain; fills = λ g o. same_trans (e g o) (n.fills g o) }

pub null-add : {G : Type 0} (p : ℕ) (K : System G) (k : ℕ) (z w : G → ℕ) → IsBoundaryOperator p K → IsNull p K k z → IsNull p K k w → IsNull p K k (λ g. z g + w g)
null-add p K k z w b m n = record {
  filling = λ g. m.filling g + n.filling g;
  chain = chain-add p K (k + 1) m.filling n.filling m.chain n.chain;
  fills = λ g o. same_trans (same-add (m.fills g o) (n.fills g o)) (same_sym (boundary-add p K b m.filling n.filling g o));
}

pub null-scale : {G : Type 0} (p : ℕ) (K : System G) (k x : ℕ) (z : G → ℕ) → IsBoundaryOperator p K → IsNull p K k z → IsNull p K k (λ g. x * z g)
null-scale p K k x z b n = record {
  filling = λ g. x * n.filling g;
  chain = chain-scale p K (k + 1) x n.filling n.chain;
  fills = λ g o. same_trans (same-scale x (n.fills g o)) (same_sym (boundary-scale p K b x n.filling g o));
}

pub cycle-combination : {G : Type 0} (p : ℕ) (K : System G) (k n : ℕ) (x : ℕ → ℕ) (zs : ℕ → G → ℕ) → IsBoundaryOperator p K → ((i : ℕ) → i < n → IsCycle p K k (zs i)) → IsCycle p K k (combination n x zs)
cycle-combination p K k n x zs b h = record {
  chain = chain-combination p K k n x zs (λ i l. (h i l).chain);
  closed = λ g o. same_trans (b.linear n x zs g o) (all_zero p n x (λ i. K.boundary (zs i) g) (λ i l. (h i l).closed g o));
}

-- ---- a filling of the next degree

-- c at the generators of degree k that belong to the complex, 0 elsewhere
pub part : {G : Type 0} → System G → ℕ → (G → ℕ) → G → ℕ
part K k c g = cond (K.on g) (cond (eqb (K.degree g) k) (c g) 0) 0

pub part-here : {G : Type 0} (K : System G) (k : ℕ) (c : G → ℕ) (g : G) → K.on g ≡ true → K.degree g ≡ k → part K k c g ≡ c g
unfolding part
part-here K k c g o d = rw (o, eq-eqb (K.degree g) k d)

pub part-off : {G : Type 0} (K : System G) (k : ℕ) (c : G → ℕ) (g : G) → K.on g ≡ false → part K k c g ≡ 0
unfolding part
part-off K k c g o = rw o

pub part-other : {G : Type 0} (K : System G) (k : ℕ) (c : G → ℕ) (g : G) → K.degree g ≢ k → part K k c g ≡ 0
unfolding part
part-other K k c g d = rw (ne_eqb (K.degree g) k d) (elim (K.on g) as (λ v. ◌≡◌ {A = ℕ} (cond v 0 0) 0) [ true ↦ refl | false ↦ refl ])

same_of : (p a b : ℕ) → a ≡ b → Same p a b
same_of p a b e = record { same = ap (λ v. v % p) e }

pub chain-part : {G : Type 0} (p : ℕ) (K : System G) (k : ℕ) (c : G → ℕ) → IsChain p K k (part K k c)
chain-part p K k c = record { on = λ g o. same_of p _ _ (part-off K k c g o); of_degree = λ g d. same_of p _ _ (part-other K k c g d) }

-- a chain of degree k that is the boundary of anything is null
pub null_of_boundary : {G : Type 0} (p k : ℕ) (K : System G) (z c : G → ℕ) → IsBoundaryOperator p K → IsChain p K k z → IsBoundaryOf p K z c → IsNull p K k z
null_of_boundary p k K z c b hz hc = record {
  filling = part K (k + 1) c;
  chain = chain-part p K (k + 1) c;
  fills = λ g o. ⊎_elim
      (λ d. same_trans (hc g o) (b.lowers c (part K (k + 1) c) g o (λ h oh dh. same_of p _ _ (sym (part-here K (k + 1) c h oh (dh ∙ ap (λ n. n + 1) d))))))
      (λ d. same_trans (hz.of_degree g d) (same_sym (same_trans (b.lowers (part K (k + 1) c) (λ h. 0) g o (λ h oh dh. same_of p _ _ (part-other K (k + 1) c h (λ e. d (one_less (K.degree g) k (sym dh ∙ e)))))) (boundary-zero p K b g o))))
      (cases_eq (K.degree g) k);
}
  where
    one_less : (a b : ℕ) → a + 1 ≡ b + 1 → a ≡ b
    one_less a b e = omega arith
