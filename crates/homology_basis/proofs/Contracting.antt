-- The contraction to the cycles of a basis.
use Rattle.std.proofs.Common.{◌≡◌, ℕ, ◌+◌, ◌*◌, ◌<◌, arith, List, length, get_or, subst}
use Rattle.field_mod.specs.Sums.{total}
use Rattle.field_mod.specs.Modular.{Same}
use Rattle.field_mod.proofs.Sums.{total_same}
use Rattle.field_mod.proofs.Modular.{same_refl, same_sym, same_trans, same-add, same-mul}
use Rattle.chains.specs.Homology.{IsChain}
use Rattle.chains.specs.ChainComplex.{ChainComplex, IsComplex, system, incidence, boundary}
use Rattle.algebraic_reduction.specs.Reduction.{single, Step}
use Rattle.algebraic_reduction.specs.Laws.{IsReduction, IsLeft, include_of, project_of, homotopy_of}
use Rattle.algebraic_reduction.proofs.LinearMaps.{exact, through, of_generators}
use Rattle.homology_basis.proofs.Scaled.{undone}
use Rattle.algebraic_reduction.proofs.Singles.{single_chain, incidence_off, boundary_single}
use Rattle.homology_basis.proofs.LeftOnes.{expanded}

module _ (p k m : ℕ) (K : ChainComplex) (ss : List Step) (at : ℕ → ℕ) (cx : IsComplex p K) (r : IsReduction p K ss) (lf : IsLeft K k ss m at) where
  -- the inclusion of the projection of a generator of degree k
  included : (s g : ℕ) → s < length K.boundaries → get_or K.degrees s 0 ≡ k
      → Same p (include_of p K ss (project_of p K ss (single s)) g) (total m (λ i. project_of p K ss (single s) (at i) * include_of p K ss (single (at i)) g))
  included s g q e =
      let y : ℕ → ℕ = project_of p K ss (single s) in
      let c : IsChain p (system K) k y = r.project_degree k (single s) (subst (λ (d : ℕ). IsChain p (system K) d (single s)) e (single_chain p K s q)) in
      same_trans (r.include_same y (λ h. total m (λ i. y (at i) * single (at i) h)) (expanded p k m K ss at lf y c (r.project_on_left (single s))) g)
      (through p (include_of p K ss) r.include_linear r.include_same m (λ i. y (at i)) (λ i. single (at i)) g)

  -- h of the boundary of a generator
  pub homotopy_boundary : (s g : ℕ) → s < length K.boundaries
      → Same p (homotopy_of p K ss (boundary K.boundaries (single s)) g) (total (length K.boundaries) (λ t. incidence K.boundaries s t * homotopy_of p K ss (single t) g))
  homotopy_boundary s g q =
      same_trans (r.homotopy_same (boundary K.boundaries (single s)) (incidence K.boundaries s) (λ t. exact p _ _ (boundary_single K.boundaries s t q)) g)
      (of_generators p (homotopy_of p K ss) r.homotopy_linear r.homotopy_same (length K.boundaries) (incidence K.boundaries s) (λ t l. exact p _ 0 (incidence_off p K cx s t q l)) g)

  -- s, less the cycles times their cocycles' values, is what the homotopy and the boundary give
  pub contracts : (zs cs : ℕ → ℕ → ℕ) (u a : ℕ → ℕ) (s g : ℕ) → s < length K.boundaries → get_or K.degrees s 0 ≡ k
      → ((i : ℕ) → i < m → Same p (u i * a i) 1)
      → ((i : ℕ) → i < m → Same p (zs i g) (u i * include_of p K ss (single (at i)) g))
      → ((i : ℕ) → i < m → Same p (cs i s) (a i * project_of p K ss (single s) (at i)))
      → Same p (total m (λ i. cs i s * zs i g) + (boundary K.boundaries (homotopy_of p K ss (single s)) g + total (length K.boundaries) (λ t. incidence K.boundaries s t * homotopy_of p K ss (single t) g))) (single s g)
  contracts zs cs u a s g q e inverse cycles cocycles =
      let y : ℕ → ℕ = project_of p K ss (single s) in
      let each : (i : ℕ) → i < m → Same p (cs i s * zs i g) (y (at i) * include_of p K ss (single (at i)) g) =
      λ i l. same_trans (same-mul (cocycles i l) (cycles i l)) (same_trans (exact p (a i * y (at i) * (u i * include_of p K ss (single (at i)) g)) (y (at i) * include_of p K ss (single (at i)) g * (u i * a i)) (omega arith)) (undone p (y (at i) * include_of p K ss (single (at i)) g) (u i) (a i) (inverse i l))) in
      same_trans
      (same-add (same_trans (total_same p m (λ i. cs i s * zs i g) (λ i. y (at i) * include_of p K ss (single (at i)) g) each) (same_sym (included s g q e)))
      (same-add (same_refl p (boundary K.boundaries (homotopy_of p K ss (single s)) g)) (same_sym (homotopy_boundary s g q))))
      (r.identity (single s) g)
