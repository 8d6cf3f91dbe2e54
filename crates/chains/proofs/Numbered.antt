-- The boundary of a numbered complex: linear, and of generators of one degree more
use Rattle.std.proofs.Common.{◌≡◌, ℕ, ◌+◌, ◌*◌, ◌<◌, sym, ap, ◌∙◌, arith, ⊎_elim, List, length, get_or, false, true≢false}
use Rattle.std.specs.Prelude.{nat_lt}
use Rattle.std.proofs.lemmas.Bool.{cases_eq, cases_lt, lt-ltb}
use Rattle.field_mod.specs.Sums.{total}
use Rattle.field_mod.specs.Modular.{Same, IsField}
use Rattle.field_mod.proofs.Sums.{total-same, total-zero, total-scale, total-swap, total_same, all_zero}
use Rattle.field_mod.proofs.Modular.{same_by, same_refl, same_trans, same-mul}
use Rattle.chains.specs.Homology.{IsChain, IsNull, IsCycle, IsBoundaryOperator}
use Rattle.chains.specs.ChainComplex.{ChainComplex, IsComplex, IsBasisOf, incidence, boundary, system}
use Rattle.chains.proofs.Exchange.{one_length}

-- the boundary is linear, not only modulo p
pub boundary-combination : (bs : List (List (ℕ × ℕ))) (n : ℕ) (y : ℕ → ℕ) (c : ℕ → ℕ → ℕ) (g : ℕ) → boundary bs (λ h. total n (λ j. y j * c j h)) g ≡ total n (λ j. y j * boundary bs (c j) g)
boundary-combination bs n y c g =
    total-same (length bs) (λ h. total n (λ j. y j * c j h) * incidence bs h g) (λ h. total n (λ j. y j * (c j h * incidence bs h g))) (λ h l. let e = total-scale n (incidence bs h g) (λ j. y j * c j h) in let e2 = total-same n (λ j. incidence bs h g * (y j * c j h)) (λ j. y j * (c j h * incidence bs h g)) (λ j l. omega arith) in omega arith)
    ∙ total-swap (length bs) n (λ h j. y j * (c j h * incidence bs h g))
    ∙ total-same n (λ j. total (length bs) (λ h. y j * (c j h * incidence bs h g))) (λ j. y j * boundary bs (c j) g) (λ j l. total-scale (length bs) (y j) (λ h. c j h * incidence bs h g))

-- where the boundary of h has a term at g, the degree of h is one more than that of g
pub degree_above : (p : ℕ) (K : ChainComplex) → IsComplex p K → (h g : ℕ) → h < length K.boundaries → (incidence K.boundaries h g ≡ 0 → ⊥) → (g < length K.degrees) × (get_or K.degrees h 0 ≡ get_or K.degrees g 0 + 1)
degree_above p K c h g l n =
    ⊎_elim
    (λ inside. ⊎_elim
    (λ e. (inside, sym e))
    (λ e. absurd (c.lowers h g (record { generator = l; misplaced = record { named = n; degree = λ w. e w.1 } })))
    (cases_eq (get_or K.degrees g 0 + 1) (get_or K.degrees h 0)))
    (λ past. absurd (c.lowers h g (record { generator = l; misplaced = record { named = n; degree = λ w. let q = w.0 in omega arith } })))
    (cases_lt g (length K.degrees))

pub is_boundary_operator : (p : ℕ) (K : ChainComplex) → IsComplex p K → IsBoundaryOperator p (system K)
is_boundary_operator p K c = record {
  linear = λ n x cs g o. same_by p 0 0 _ _ (ap (λ v. v + p * 0) (boundary-combination K.boundaries n x cs g));
  lowers = λ a b g o same. total_same p (length K.boundaries) (λ h. a h * incidence K.boundaries h g) (λ h. b h * incidence K.boundaries h g) (λ h l. ⊎_elim
      (λ z. same_by p 0 0 _ _ (rw z (omega arith)))
      (λ n. same-mul (same h (lt-ltb h (length K.boundaries) l) (degree_above p K c h g l n).1) (same_refl p (incidence K.boundaries h g)))
      (cases_eq (incidence K.boundaries h g) 0));
}

pub one_length_numbered : (p k : ℕ) (K : ChainComplex) (zs ws : List (List (ℕ × ℕ))) → IsField p → IsComplex p K → IsBasisOf p K k zs → IsBasisOf p K k ws → length zs ≡ length ws
one_length_numbered p k K zs ws field c bz bw = one_length p k _ _ (system K) _ _ field (is_boundary_operator p K c) bz bw

-- ---- boundaries of chains and of boundaries

-- the boundary of a chain of degree k + 1 is a chain of degree k
pub chain-boundary : (p k : ℕ) (K : ChainComplex) (c : ℕ → ℕ) → IsComplex p K → IsChain p (system K) (k + 1) c → IsChain p (system K) k (boundary K.boundaries c)
chain-boundary p k K c b h = record {
  on = λ g off. zero_at g (λ j l n. let q = (degree_above p K b j g l n).0 in absurd (off_is_past g off (omega (arith, b.sizes))));
  of_degree = λ g d. zero_at g (λ j l n. h.of_degree j (λ e. d (one_less _ k (sym (degree_above p K b j g l n).1 ∙ e))));
}
  where
    zero_at : (g : ℕ) → ((j : ℕ) → j < length K.boundaries → (incidence K.boundaries j g ≡ 0 → ⊥) → Same p (c j) 0) → Same p (boundary K.boundaries c g) 0
    zero_at g z = same_trans
        (total_same p (length K.boundaries) (λ j. c j * incidence K.boundaries j g) (λ j. 0) (λ j l. ⊎_elim
        (λ e. same_by p 0 0 _ _ (rw e (omega arith)))
        (λ n. same_trans (same-mul (z j l n) (same_refl p (incidence K.boundaries j g))) (same_by p 0 0 _ _ (omega arith)))
        (cases_eq (incidence K.boundaries j g) 0)))
        (same_by p 0 0 _ _ (omega (arith, total-zero (length K.boundaries))))

    off_is_past : (g : ℕ) → nat_lt g (length K.boundaries) ≡ false → g < length K.boundaries → ⊥
    off_is_past g off l = true≢false (sym (lt-ltb g (length K.boundaries) l) ∙ off)

    one_less : (a b : ℕ) → a + 1 ≡ b + 1 → a ≡ b
    one_less a b e = omega arith

-- the boundary of a boundary is 0
pub boundary-boundary : (p : ℕ) (K : ChainComplex) (c : ℕ → ℕ) (g : ℕ) → IsComplex p K → Same p (boundary K.boundaries (boundary K.boundaries c) g) 0
boundary-boundary p K c g b = same_trans
    (same_by p 0 0 _ _ (ap (λ v. v + p * 0) (boundary-combination K.boundaries (length K.boundaries) c (incidence K.boundaries) g)))
    (all_zero p (length K.boundaries) c (λ h. boundary K.boundaries (incidence K.boundaries h) g) (λ h l. b.squares_to_zero h g l))

-- a chain of degree k that is null is a cycle
pub cycle_of_null : (p k : ℕ) (K : ChainComplex) (z : ℕ → ℕ) → IsComplex p K → IsChain p (system K) k z → IsNull p (system K) k z → IsCycle p (system K) k z
cycle_of_null p k K z b h n = record {
  chain = h;
  closed = λ g o. same_trans ((is_boundary_operator p K b).lowers z (boundary K.boundaries n.filling) g o (λ j oj _. n.fills j oj)) (boundary-boundary p K n.filling g b);
}
