-- Two complexes whose generators match, with equal degrees and equal boundaries: their chains, cycles, null chains and bases
-- match too
use Rattle.std.proofs.Common.{◌≡◌, ℕ, ◌+◌, ◌*◌, ◌<◌, sym, ap, ◌∙◌, ⊎_elim, true, false, cond}
use Rattle.std.proofs.lemmas.Bool.{cases_Bool}
use Rattle.field_mod.specs.Modular.{Same}
use Rattle.field_mod.proofs.Sums.{total_same}
use Rattle.field_mod.proofs.Modular.{same_sym, same_trans, same-add, same-scale}
use Rattle.chains.specs.Homology.{System, IsChain, IsCycle, IsNull, IsSpanned, IsBasis, combination}
use Rattle.elem_cubes.proofs.Modular.{exact}

-- the generators of K and L, one for one
pub record Matching {G H : Type 0} (p : ℕ) (K : System G) (L : System H) : Type 0 where
  pub there : G → H
  pub back : H → G
  pub there_on : (g : G) → K.on g ≡ true → L.on (there g) ≡ true
  pub back_on : (h : H) → L.on h ≡ true → K.on (back h) ≡ true
  pub back_there : (g : G) → K.on g ≡ true → back (there g) ≡ g
  pub there_back : (h : H) → L.on h ≡ true → there (back h) ≡ h
  pub degree : (g : G) → K.on g ≡ true → L.degree (there g) ≡ K.degree g
  pub boundary : (c : G → ℕ) (d : H → ℕ) → ((g : G) → K.on g ≡ true → Same p (c g) (d (there g))) → (g : G) → K.on g ≡ true → Same p (K.boundary c g) (L.boundary d (there g))

module _ {G H : Type 0} (p : ℕ) (K : System G) (L : System H) (M : Matching p K L) where
  -- the chains c and d match: they have the same coefficients, and d has none outside L
  pub record IsMatch (c : G → ℕ) (d : H → ℕ) : Type 0 where
    pub on : (g : G) → K.on g ≡ true → Same p (c g) (d (M.there g))
    pub off : (h : H) → L.on h ≡ false → Same p (d h) 0

  -- the chain of L that matches a chain of K
  abbrev pub carried : (G → ℕ) → H → ℕ
  carried c h = cond (L.on h) (c (M.back h)) 0

  pub carried_matches : (c : G → ℕ) → IsMatch c (carried c)
  carried_matches c = record {
    on = λ g e. exact p (sym (ap (λ b. cond b (c (M.back (M.there g))) 0) (M.there_on g e) ∙ ap c (M.back_there g e)));
    off = λ h e. exact p (ap (λ b. cond b (c (M.back h)) 0) e);
  }

  -- the coefficient at a generator of L
  pub at_back : (c : G → ℕ) (d : H → ℕ) → IsMatch c d → (h : H) → L.on h ≡ true → Same p (c (M.back h)) (d h)
  at_back c d m h e = same_trans (m.on (M.back h) (M.back_on h e)) (exact p (ap d (M.there_back h e)))

  pub boundary_matches : (c : G → ℕ) (d : H → ℕ) → IsMatch c d → (h : H) → L.on h ≡ true → Same p (K.boundary c (M.back h)) (L.boundary d h)
  boundary_matches c d m h e = same_trans (M.boundary c d m.on (M.back h) (M.back_on h e)) (exact p (ap (L.boundary d) (M.there_back h e)))

  pub chain_matches : (k : ℕ) (c : G → ℕ) (d : H → ℕ) → IsMatch c d → IsChain p K k c → IsChain p L k d
  chain_matches k c d m chain = record {
    on = m.off;
    of_degree = λ h n. ⊎_elim
        (λ e. same_trans (same_sym (at_back c d m h e)) (chain.of_degree (M.back h) (λ q. n (ap L.degree (sym (M.there_back h e)) ∙ M.degree (M.back h) (M.back_on h e) ∙ q))))
        (λ e. m.off h e)
        (cases_Bool (L.on h));
  }

  pub cycle_matches : (k : ℕ) (c : G → ℕ) (d : H → ℕ) → IsMatch c d → IsCycle p K k c → IsCycle p L k d
  cycle_matches k c d m cycle = record {
    chain = chain_matches k c d m cycle.chain;
    closed = λ h e. same_trans (same_sym (boundary_matches c d m h e)) (cycle.closed (M.back h) (M.back_on h e));
  }

  pub null_matches : (k : ℕ) (c : G → ℕ) (d : H → ℕ) → ((g : G) → K.on g ≡ true → Same p (c g) (d (M.there g))) → IsNull p K k c → IsNull p L k d
  null_matches k c d on null = record {
    filling = carried null.filling;
    chain = chain_matches (k + 1) null.filling (carried null.filling) (carried_matches null.filling) null.chain;
    fills = λ h e.
        same_trans (same_sym (same_trans (on (M.back h) (M.back_on h e)) (exact p (ap d (M.there_back h e)))))
        (same_trans (null.fills (M.back h) (M.back_on h e)) (boundary_matches null.filling (carried null.filling) (carried_matches null.filling) h e));
  }

  pub combination_matches : (n : ℕ) (x : ℕ → ℕ) (zs : ℕ → G → ℕ) (ws : ℕ → H → ℕ) → ((i : ℕ) → i < n → IsMatch (zs i) (ws i)) → (g : G) → K.on g ≡ true → Same p (combination n x zs g) (combination n x ws (M.there g))
  combination_matches n x zs ws m g e = total_same p n (λ i. x i * zs i g) (λ i. x i * ws i (M.there g)) (λ i l. same-scale (x i) ((m i l).on g e))

  pub combination_back : (n : ℕ) (x : ℕ → ℕ) (zs : ℕ → G → ℕ) (ws : ℕ → H → ℕ) → ((i : ℕ) → i < n → IsMatch (zs i) (ws i)) → (h : H) → L.on h ≡ true → Same p (combination n x zs (M.back h)) (combination n x ws h)
  combination_back n x zs ws m h e = same_trans (combination_matches n x zs ws m (M.back h) (M.back_on h e)) (exact p (ap (combination n x ws) (M.there_back h e)))

-- a matching, seen from the other side
abbrev pub turned : {G H : Type 0} (p : ℕ) (K : System G) (L : System H) → Matching p K L → Matching p L K
turned {G} {H} p K L M = record {
  there = M.back;
  back = M.there;
  there_on = M.back_on;
  back_on = M.there_on;
  back_there = M.there_back;
  there_back = M.back_there;
  degree = λ h e. sym (M.degree (M.back h) (M.back_on h e)) ∙ ap L.degree (M.there_back h e);
  boundary = λ d c m h e. same_sym (same_trans (M.boundary c d (λ g on. same_sym (same_trans (m (M.there g) (M.there_on g on)) (exact p (ap c (M.back_there g on))))) (M.back h) (M.back_on h e)) (exact p (ap (L.boundary d) (M.there_back h e))));
}

pub basis_matches : {G H : Type 0} (p : ℕ) (K : System G) (L : System H) (M : Matching p K L) (k n : ℕ) (zs : ℕ → G → ℕ) (ws : ℕ → H → ℕ)
    → ((i : ℕ) → i < n → IsMatch p K L M (zs i) (ws i)) → IsBasis p K k n zs → IsBasis p L k n ws
basis_matches {G} {H} p K L M k n zs ws m basis = record {
  cycles = λ i l. cycle_matches p K L M k (zs i) (ws i) (m i l) (basis.cycles i l);
  independent = λ x null. basis.independent x (null_matches p L K (turned p K L M) k (combination n x ws) (combination n x zs) (λ h e. same_sym (combination_back p K L M n x zs ws m h e)) null);
  spanning = λ w cycle. spanned w cycle;
}
  where
    spanned : (w : H → ℕ) → IsCycle p L k w → IsSpanned p L k n ws w
    spanned w cycle =
        let T : Matching p L K = turned p K L M in
        let z : G → ℕ = carried p L K T w in
        let s : IsSpanned p K k n zs z = basis.spanning z (cycle_matches p L K T k w z (carried_matches p L K T w) cycle) in
        let f : IsMatch p K L M s.filling (carried p K L M s.filling) = carried_matches p K L M s.filling in
        record {
          x = s.x;
          filling = carried p K L M s.filling;
          chain = chain_matches p K L M (k + 1) s.filling (carried p K L M s.filling) f s.chain;
          differs = λ h e.
              same_trans ((carried_matches p L K T w).on h e)
              (same_trans (s.differs (M.back h) (M.back_on h e)) (same-add (combination_back p K L M n s.x zs ws m h e) (boundary_matches p K L M s.filling (carried p K L M s.filling) f h e)));
        }
