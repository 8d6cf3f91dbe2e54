-- Tables of a section meet the laws that it meets.
use Rattle.std.proofs.Common.{◌≡◌, ℕ, ◌+◌, ◌-◌, ◌*◌, ◌<◌, ◌≤◌, ap, arith, ⊎_elim, List, [], ◌∷◌, length, Bool, true, false, cond}
use Rattle.std.proofs.lemmas.Bool.{cases_Bool, cases_eq}
use Rattle.field_mod.specs.Sums.{total}
use Rattle.field_mod.specs.Modular.{Same, NonZero}
use Rattle.field_mod.proofs.Sums.{total_same}
use Rattle.field_mod.proofs.Modular.{same_refl, same_trans, same-add, same-scale, same-mul}
use Rattle.elem_cubes.specs.Cells.{Factor, dimension_of}
use Rattle.elem_cubes.specs.Boundary.{boundary_coefficient}
use Rattle.elem_cubes.specs.Laws.{cell_at}
use Rattle.elem_cubes.proofs.Boundaries.{boundary_same}
use Rattle.elem_cubes.proofs.Modular.{exact}
use Rattle.chains.specs.Homology.{IsChain}
use Rattle.cell_complex.specs.RelativeComplex.{is_relative, relative_complex, restriction_to}
use Rattle.cell_complex.proofs.Numbering.{listed, number_at}
use Rattle.homology_basis.specs.Bases.{in_degree}
use Rattle.witness_laws.specs.Inputs.{all_cells, relative_cells}
use Rattle.witness_laws.specs.Parts.{NameCells, chain_of, nth}
use Rattle.witness_laws.specs.Sections.{Section, IsSection, IsClosedAt, IsDualAt, IsCocycleAt, ContractsAt}
use Rattle.witness_laws.specs.Tables.{PairTables, section_of}
use Rattle.witness_parts.specs.Tables.{AreTablesOf, HasAtMost}

pub names_of : (cells : List (List Factor)) (P Q : List Factor → Type 0) → ((q : List Factor) → P q → Q q) → (ts : List (ℕ × ℕ)) → NameCells cells P ts → NameCells cells Q ts
names_of cells P Q f [] w = tt
names_of cells P Q f (t ∷ ts) w = (w.0, w.1, f (cell_at cells (t.0 - 1)) w.2, names_of cells P Q f ts w.3)

module _ (p : ℕ) (x a : List (List Factor)) where
  -- where a chain is not 0, the cell is of its kind
  pub kind_of : (k : ℕ) (c : List Factor → ℕ) → IsChain p (relative_complex p x a) k c → (q : List Factor) → NonZero p (c q) → (is_relative x a q ≡ true) × (dimension_of q ≡ k)
  kind_of k c w q nz = (
    ⊎_elim (λ e. e) (λ e. absurd (nz (w.on q e))) (cases_Bool (is_relative x a q)),
    ⊎_elim (λ e. e) (λ e. absurd (nz (w.of_degree q e))) (cases_eq (dimension_of q) k),
  )

  restricted : (c d : List Factor → ℕ) (s : List Factor) → Same p (c s) (d s) → (v : Bool) → Same p (cond v (c s) 0) (cond v (d s) 0)
  restricted c d s h true = h
  restricted c d s h false = same_refl p 0

  pub boundary_alike : (c d : List Factor → ℕ) → ((q : List Factor) → Same p (c q) (d q)) → (q : List Factor) → Same p ((relative_complex p x a).boundary c q) ((relative_complex p x a).boundary d q)
  boundary_alike c d h q = boundary_same p q (restriction_to (is_relative x a) c) (restriction_to (is_relative x a) d) (λ s _. restricted c d s (h s) (is_relative x a s))

module _ (p top : ℕ) (x a : List (List Factor)) (S : Section) (T : PairTables) (w : IsSection p x a (relative_cells x a) S) (most : HasAtMost top x a) (t : AreTablesOf p top x a S T) where
  abbrev rel : List (List Factor)
  rel = relative_cells x a

  abbrev n : ℕ
  n = length rel

  abbrev at : ℕ → List Factor
  at = cell_at rel

  abbrev U : Section
  U = section_of x a T

  size : (k : ℕ) → k ≤ top → U.size k ≡ S.size k
  size k l = (t.cycles k l).count

  cycle_same : (k i : ℕ) → k ≤ top → i < S.size k → (q : List Factor) → Same p (U.cycle k i q) (S.cycle k i q)
  cycle_same k i l m q = ((t.cycles k l).at i m).same q

  cocycle_same : (k i : ℕ) → k ≤ top → i < S.size k → (q : List Factor) → Same p (U.cocycle k i q) (S.cocycle k i q)
  cocycle_same k i l m q = ((t.cocycles k l).at i m).same q

  homotopy_same : (s : ℕ) → s < n → (q : List Factor) → Same p (U.homotopy (at s) q) (S.homotopy (at s) q)
  homotopy_same s l q =
      same_trans (exact p (ap (λ (i : ℕ). chain_of (all_cells x a) (nth T.homotopies i) q) (number_at (is_relative x a) rel w.listing s l))) ((t.homotopies.at s l).same q)

  pub closed_alike : (k i : ℕ) → k ≤ top → i < S.size k → IsClosedAt p x a (U.cycle k i)
  closed_alike k i l m q e = same_trans (boundary_alike p x a (U.cycle k i) (S.cycle k i) (cycle_same k i l m) q) (w.closed k i m q e)

  pub dual_alike : (k i : ℕ) → k ≤ top → i < S.size k → IsDualAt p rel U k i
  dual_alike k i l m j r =
      let e : U.size k ≡ S.size k = size k l in
      let r' : j < S.size k = omega (arith, e, r) in
      same_trans (total_same p n (λ g. U.cocycle k i (at g) * U.cycle k j (at g)) (λ g. S.cocycle k i (at g) * S.cycle k j (at g))
      (λ g _. same-mul (cocycle_same k i l m (at g)) (cycle_same k j l r' (at g)))) (w.dual k i m j r')

  pub coclosed_alike : (k i : ℕ) → k ≤ top → i < S.size k → IsCocycleAt p x a rel (U.cocycle k i)
  coclosed_alike k i l m s e =
      same_trans (total_same p n (λ g. boundary_coefficient p s (at g) * U.cocycle k i (at g)) (λ g. boundary_coefficient p s (at g) * S.cocycle k i (at g))
      (λ g _. same-scale (boundary_coefficient p s (at g)) (cocycle_same k i l m (at g)))) (w.coclosed k i m s e)

  pub contracts_alike : (s : ℕ) → s < n → ContractsAt p x a rel U (at s)
  contracts_alike s l q e =
      let on = listed (is_relative x a) rel w.listing s l in
      let d : ℕ = dimension_of (at s) in
      let low : d ≤ top = most (at s) on in
      let first : Same p (total (U.size d) (λ i. U.cocycle d i (at s) * U.cycle d i q)) (total (S.size d) (λ i. S.cocycle d i (at s) * S.cycle d i q)) =
      same_trans (exact p (ap (λ (m : ℕ). total m (λ i. U.cocycle d i (at s) * U.cycle d i q)) (size d low)))
      (total_same p (S.size d) (λ i. U.cocycle d i (at s) * U.cycle d i q) (λ i. S.cocycle d i (at s) * S.cycle d i q) (λ i m. same-mul (cocycle_same d i low m (at s)) (cycle_same d i low m q))) in
      let second = boundary_alike p x a (U.homotopy (at s)) (S.homotopy (at s)) (homotopy_same s l) q in
      let third = total_same p n (λ i. boundary_coefficient p (at s) (at i) * U.homotopy (at i) q) (λ i. boundary_coefficient p (at s) (at i) * S.homotopy (at i) q)
      (λ i m. same-scale (boundary_coefficient p (at s) (at i)) (homotopy_same i m q)) in
      same_trans (same-add first (same-add second third)) (w.contracts (at s) on q e)

  -- ---- the cells that are named

  pub cycle_names : (k i : ℕ) → k ≤ top → i < S.size k → NameCells (all_cells x a) (λ q. (is_relative x a q ≡ true) × (dimension_of q ≡ k)) (nth (in_degree T.cycles k) i)
  cycle_names k i l m = names_of (all_cells x a) (λ q. NonZero p (S.cycle k i q)) (λ q. (is_relative x a q ≡ true) × (dimension_of q ≡ k)) (kind_of p x a k (S.cycle k i) (w.cycle_cells k i m)) (nth (in_degree T.cycles k) i) ((t.cycles k l).at i m).names

  pub cocycle_names : (k i : ℕ) → k ≤ top → i < S.size k → IsChain p (relative_complex p x a) k (S.cocycle k i) → NameCells (all_cells x a) (λ q. (is_relative x a q ≡ true) × (dimension_of q ≡ k)) (nth (in_degree T.cocycles k) i)
  cocycle_names k i l m c = names_of (all_cells x a) (λ q. NonZero p (S.cocycle k i q)) (λ q. (is_relative x a q ≡ true) × (dimension_of q ≡ k)) (kind_of p x a k (S.cocycle k i) c) (nth (in_degree T.cocycles k) i) ((t.cocycles k l).at i m).names

  pub homotopy_names : (s : ℕ) → s < n → NameCells (all_cells x a) (λ q. (is_relative x a q ≡ true) × (dimension_of q ≡ dimension_of (at s) + 1)) (nth T.homotopies s)
  homotopy_names s l =
      names_of (all_cells x a) (λ q. NonZero p (S.homotopy (at s) q)) (λ q. (is_relative x a q ≡ true) × (dimension_of q ≡ dimension_of (at s) + 1))
      (kind_of p x a (dimension_of (at s) + 1) (S.homotopy (at s)) (w.homotopy_cells (at s) (listed (is_relative x a) rel w.listing s l))) (nth T.homotopies s) (t.homotopies.at s l).names
