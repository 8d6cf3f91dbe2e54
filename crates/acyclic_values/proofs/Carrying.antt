-- Values at cells: closed sets of cells of the range that grow with the cells of the domain.
use Rattle.std.proofs.Common.{◌≡◌, ℕ, refl, sym, ◌∙◌, ⊎_elim, List, Bool, true, false}
use Rattle.std.proofs.lemmas.Bool.{true≢false, cases_Bool}
use Rattle.field_mod.specs.Modular.{Same}
use Rattle.field_mod.proofs.Modular.{same_sym, same_trans}
use Rattle.elem_cubes.specs.Cells.{Factor, dimension_of}
use Rattle.elem_cubes.specs.Faces.{IsFace}
use Rattle.elem_cubes.specs.Boundary.{boundary_at}
use Rattle.elem_cubes.proofs.Modular.{exact}
use Rattle.elem_cubes.proofs.Boundaries.{boundary_same, boundary-none}
use Rattle.chains.specs.Homology.{IsChain, IsCycle, IsNull}
use Rattle.cell_complex.specs.RelativeComplex.{complex_on, restriction_to, IsClosed}
use Rattle.cell_complex.specs.Numbering.{IsListing}
use Rattle.cell_complex.proofs.Squares.{restriction-on, restriction-off}
use Rattle.cell_complex.specs.Acyclic.{sum_over}

pub false_below : {a b : Bool} → (a ≡ true → b ≡ true) → b ≡ false → a ≡ false
false_below {a} {b} h f = elim a as (λ v. (v ≡ true → b ≡ true) → v ≡ false) [ true ↦ λ k. absurd (true≢false (sym (k refl) ∙ f)) | false ↦ λ k. refl ] h

-- ---- chains on a set of cells that is closed under faces

module _ (p : ℕ) (V : List Factor → Bool) (closed : IsClosed V) where
  -- a chain on it is its own restriction
  pub plain : (c : List Factor → ℕ) → ((g : List Factor) → V g ≡ false → Same p (c g) 0) → (r : List Factor) → Same p (boundary_at p r (restriction_to V c)) (boundary_at p r c)
  plain c on r = boundary_same p r (restriction_to V c) c (λ s f. ⊎_elim (λ e. exact p (restriction-on V c s e)) (λ e. same_trans (exact p (restriction-off V c s e)) (same_sym (on s e))) (cases_Bool (V s)))

  -- and has its boundary there
  pub outside : (c : List Factor → ℕ) → ((g : List Factor) → V g ≡ false → Same p (c g) 0) → (r : List Factor) → V r ≡ false → Same p (boundary_at p r c) 0
  outside c on r out = same_trans (boundary_same p r c (λ s. 0) (λ s f. on s (false_below (closed s r f) out))) (exact p (boundary-none p r))

  pub cycle_of : (k : ℕ) (z : List Factor → ℕ) → IsChain p (complex_on p V) k z → ((r : List Factor) → Same p (boundary_at p r z) 0) → IsCycle p (complex_on p V) k z
  cycle_of k z chain zero = record { chain = chain; closed = λ g _. same_trans (plain z chain.on g) (zero g) }

  pub filled : (k : ℕ) (z : List Factor → ℕ) → IsChain p (complex_on p V) k z → (n : IsNull p (complex_on p V) k z) → (r : List Factor) → Same p (z r) (boundary_at p r n.filling)
  filled k z chain n r = ⊎_elim
      (λ e. same_trans (n.fills r e) (plain n.filling n.chain.on r))
      (λ e. same_trans (chain.on r e) (same_sym (outside n.filling n.chain.on r e)))
      (cases_Bool (V r))

-- ---- a cycle, in degree 0 of augmentation 0 by the cells of a list, and what is acyclic

pub record IsReducedOn (p : ℕ) (cells : List (List Factor)) (V : List Factor → Bool) (k : ℕ) (z : List Factor → ℕ) : Type 0 where
  pub cycle : IsCycle p (complex_on p V) k z
  pub augmentation : k ≡ 0 → Same p (sum_over cells z) 0

pub record IsAcyclicOn (p : ℕ) (cells : List (List Factor)) (V : List Factor → Bool) : Type 0 where
  pub vertex : List Factor
  pub here : V vertex ≡ true
  pub lowest : dimension_of vertex ≡ 0
  pub null : (k : ℕ) (z : List Factor → ℕ) → IsReducedOn p cells V k z → IsNull p (complex_on p V) k z

-- the values V at the cells ds of the domain, within the cells rs of the range
pub record IsCarrying (p : ℕ) (D R : List Factor → Bool) (ds rs : List (List Factor)) (V : List Factor → List Factor → Bool) : Type 0 where
  pub domain : IsListing D ds
  pub range : IsListing R rs
  pub domain_closed : IsClosed D
  pub inside : (s g : List Factor) → D s ≡ true → V s g ≡ true → R g ≡ true
  pub closed : (s : List Factor) → D s ≡ true → IsClosed (V s)
  pub grows : (s r g : List Factor) → D s ≡ true → IsFace s r → V r g ≡ true → V s g ≡ true
  pub acyclic : (s : List Factor) → D s ≡ true → IsAcyclicOn p rs (V s)
