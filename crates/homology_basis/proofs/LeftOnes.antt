-- Generators as chains, and chains on the generators of one degree that the steps leave.
use Rattle.std.proofs.Common.{◌≡◌, ◌≢◌, ℕ, zero, suc, ◌*◌, ◌<◌, ◌⊎◌, inl, inr, sym, ap, ◌∙◌, arith, ⊎_elim, cond, eqb, eq-eqb, ne_eqb, List, length, get_or, subst}
use Rattle.std.proofs.lemmas.Bool.{cases_eq, cases_lt, le-ltb}
use Rattle.field_mod.specs.Sums.{total}
use Rattle.field_mod.specs.Modular.{Same}
use Rattle.field_mod.proofs.Sums.{total-same, total-zero, total-single}
use Rattle.field_mod.proofs.Modular.{same_trans}
use Rattle.chains.specs.Homology.{IsChain}
use Rattle.chains.specs.ChainComplex.{ChainComplex, system}
use Rattle.algebraic_reduction.specs.Reduction.{single, Step, IsOnLeft}
use Rattle.algebraic_reduction.specs.Laws.{IsLeft}
use Rattle.algebraic_reduction.proofs.LeftBasis.{off_paired}
use Rattle.algebraic_reduction.proofs.LinearMaps.{exact, single-other}

not_at : (m : ℕ) (at : ℕ → ℕ) (h : ℕ) → at 0 ≢ h → ((i : ℕ) → i < m → at (suc i) ≢ h) → (i : ℕ) → i < suc m → at i ≢ h
not_at m at h f none zero q = f
not_at m at h f none (suc i) q = none i (omega arith)

-- h stands among the first m numbers, or not
pub found : (m : ℕ) (at : ℕ → ℕ) (h : ℕ) → ((i : ℕ) × (i < m) × (at i ≡ h)) ⊎ ((i : ℕ) → i < m → at i ≢ h)
found zero at h = inr (λ i q. absurd (omega arith))
found (suc m) at h = ⊎_elim
    (λ e. inl (0, (omega arith), e))
    (λ f. ⊎_elim
    (λ w. inl (suc w.0, (let q = w.1 in omega arith), w.2))
    (λ none. inr (not_at m at h f none))
    (found m (λ i. at (suc i)) h))
    (cases_eq (at 0) h)

module _ (p k m : ℕ) (K : ChainComplex) (ss : List Step) (at : ℕ → ℕ) (lf : IsLeft K k ss m at) where
  -- a sum over the generators that are left with one of them picked
  pub sums_at : (x : ℕ → ℕ) (j : ℕ) → j < m → total m (λ i. x i * single (at i) (at j)) ≡ x j
  sums_at x j q = total-same m (λ i. x i * single (at i) (at j)) (λ i. cond (eqb j i) 1 0 * x i) (λ i r. each i r) ∙ total-single m j 1 x q ∙ omega arith
    where
      each : (i : ℕ) → i < m → x i * single (at i) (at j) ≡ cond (eqb j i) 1 0 * x i
      each i r = ⊎_elim
          (λ e. rw (eq-eqb j i e, eq-eqb (at j) (at i) (ap at e)) (omega arith))
          (λ f. let a = ne_eqb j i f in let b = ne_eqb (at j) (at i) (λ e. f (lf.once j i q r e)) in rw a (rw b (omega arith)))
          (cases_eq j i)

  -- a chain of degree k on what is left has nothing but at the generators that are left
  gone : (y : ℕ → ℕ) → IsChain p (system K) k y → IsOnLeft p ss y → (h : ℕ) → ((i : ℕ) → i < m → at i ≢ h) → Same p (y h) 0
  gone y c off h none = ⊎_elim
      (λ q. ⊎_elim
      (λ e. off_paired p ss y h off (λ u. let w = lf.all h q e u in none w.0 w.1 w.2))
      (λ f. c.of_degree h f)
      (cases_eq (get_or K.degrees h 0) k))
      (λ l. c.on h (le-ltb h (length K.boundaries) l))
      (cases_lt h (length K.boundaries))

  -- and so it is their sum
  pub expanded : (y : ℕ → ℕ) → IsChain p (system K) k y → IsOnLeft p ss y → (h : ℕ) → Same p (y h) (total m (λ i. y (at i) * single (at i) h))
  expanded y c off h = ⊎_elim
      (λ w. subst (λ (g : ℕ). Same p (y g) (total m (λ i. y (at i) * single (at i) g))) w.2 (exact p _ _ (sym (sums_at (λ i. y (at i)) w.0 w.1))))
      (λ none. same_trans (gone y c off h none) (exact p 0 _ (sym (total-same m (λ i. y (at i) * single (at i) h) (λ i. 0) (λ i q. ap (λ v. y (at i) * v) (single-other (at i) h (λ e. none i q (sym e))) ∙ omega arith) ∙ total-zero m))))
      (found m at h)
