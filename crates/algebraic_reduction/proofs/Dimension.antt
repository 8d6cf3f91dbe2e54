-- The number of the generators that are left is the dimension; a generator that is left, as a chain.
use Rattle.std.proofs.Common.{◌≡◌, ◌≢◌, ℕ, ◌+◌, ◌*◌, ◌≤◌, ◌%◌, ap, ◌∙◌, cond, ne_eqb, List, [], ◌∷◌}
use native.Mathlib.Nat.{zero-mod}
use Rattle.field_mod.specs.Modular.{Same, NonZero}
use Rattle.field_mod.proofs.Modular.{same_by, same_trans}
use Rattle.chains.specs.Terms.{coefficient, IsNormal}
use Rattle.chains.specs.ChainComplex.{system}
use Rattle.chains.proofs.Exchange.{one_length}
use Rattle.chains.proofs.Numbered.{is_boundary_operator}
use Rattle.algebraic_reduction.specs.Reduction.{single, Step, IsUnpaired, IsOnLeft}
use Rattle.algebraic_reduction.specs.Laws.{include_of, LeftGeneratorsAreDimension}
use Rattle.algebraic_reduction.proofs.LeftBasis.{left_generators}
use Rattle.algebraic_reduction.proofs.Residues.{number_below, same_zero}

pub left_dimension : LeftGeneratorsAreDimension
left_dimension p k m n K ss at ws field c l done lf b = one_length p k n m (system K) ws (λ i. include_of p K ss (single (at i))) field (is_boundary_operator p K c) b (left_generators p k m K ss at field.above_one c l done lf)

-- the chain of one generator that is in no step is one of what is left
pub generator_on_left : (p g : ℕ) (ss : List Step) (chain : List (ℕ × ℕ)) → IsUnpaired ss g → ((h : ℕ) → coefficient chain h ≡ coefficient ((g, 1) ∷ []) h % p) → IsOnLeft p ss (coefficient chain)
generator_on_left p g [] chain u e = tt
generator_on_left p g (s ∷ ss) chain u e = (record { at_a = none s.a (λ q. u.0 q); at_b = none s.b (λ q. u.1 q) }, generator_on_left p g ss chain u.2 e)
  where
    none : (h : ℕ) → g ≢ h → Same p (coefficient chain h) 0
    none h f = same_by p 0 0 _ _ (ap (λ v. v + p * 0) (e h ∙ ap (λ v. (cond v 1 0 + 0) % p) (ne_eqb g h f) ∙ zero-mod p))

-- a coefficient that was read and is not 0 is none modulo p
pub read_nonzero : (p n g x : ℕ) (ts : List (ℕ × ℕ)) → 2 ≤ p → IsNormal p ts → n ≡ coefficient ts g → n ≢ 0 → Same p (coefficient ts g) x → NonZero p x
read_nonzero p n g x ts two normal e f s z = f (same_zero p n (number_below p n g ts two normal e) (same_trans (same_by p 0 0 _ _ (ap (λ v. v + p * 0) e)) (same_trans s z)))
