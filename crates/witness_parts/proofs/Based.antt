-- What a basis has is a section.
use Rattle.std.proofs.Common.{◌≡◌, ℕ, ◌+◌, ◌*◌, ◌<◌, ◌≤◌, sym, ap, ◌∙◌, arith, ⊎_elim, List, [], length, get_or, true, cond, eqb, eq-eqb, ne_eqb, subst}
use Rattle.std.proofs.lemmas.Bool.{cases_eq, lt-ltb}
use Rattle.std.proofs.lemmas.List.{get_or-map}
use Rattle.std.specs.Prelude.{nat_lt}
use Rattle.field_mod.specs.Sums.{total}
use Rattle.field_mod.specs.Modular.{Same}
use Rattle.field_mod.proofs.Sums.{total-same, total_same}
use Rattle.field_mod.proofs.Modular.{same_sym, same_trans, same-add, same-mul}
use Rattle.elem_cubes.specs.Cells.{Factor, dimension_of, same_cell}
use Rattle.elem_cubes.specs.Boundary.{boundary_coefficient}
use Rattle.elem_cubes.specs.Laws.{cell_at}
use Rattle.elem_cubes.specs.OrderLemmas.{cell_refl, cell_cases}
use Rattle.elem_cubes.proofs.Modular.{exact}
use Rattle.chains.specs.Terms.{nth_chain}
use Rattle.chains.specs.Homology.{IsChain, IsBasis, combination}
use Rattle.chains.specs.ChainComplex.{ChainComplex, system, incidence, boundary}
use Rattle.cell_complex.specs.Boundaries.{unit_at}
use Rattle.cell_complex.specs.RelativeComplex.{is_relative, relative_complex}
use Rattle.cell_complex.specs.Numbering.{IsRelativeComplex, by_cell, number_of}
use Rattle.cell_complex.proofs.Numbering.{listed, found, number_at}
use Rattle.cell_complex.proofs.Matching.{boundary_matches}
use Rattle.cell_complex.proofs.ByCell.{matching, by_cell_matches, bases_are_by_number_or_cell}
use Rattle.algebraic_reduction.specs.Reduction.{single}
use Rattle.homology_basis.specs.Bases.{BasisOfLog, IsBasisWithContraction, in_degree, homotopy_in}
use Rattle.witness_laws.specs.Sections.{IsSection}
use Rattle.witness_parts.specs.Tables.{section_by}
use Rattle.witness_parts.proofs.Products.{product_total, none_past, bounded}

module _ (p : ℕ) (x a cells : List (List Factor)) (b : BasisOfLog) (one : 1 ≤ p) (R : IsRelativeComplex p x a cells b.log.complex) (w : IsBasisWithContraction p b) where
  abbrev K : ChainComplex
  K = b.log.complex

  abbrev n : ℕ
  n = length cells

  abbrev at : ℕ → List Factor
  at = cell_at cells

  abbrev count : ℕ → ℕ
  count k = length (in_degree b.cycles k)

  abbrev zs : ℕ → ℕ → ℕ → ℕ
  zs k = nth_chain (in_degree b.cycles k)

  abbrev cs : ℕ → ℕ → ℕ → ℕ
  cs k = nth_chain (in_degree b.cocycles k)

  abbrev hs : ℕ → ℕ → ℕ
  hs = homotopy_in p b

  inside : (g : ℕ) → g < n → g < length K.boundaries
  inside g l = let e = R.complex.count in omega (arith, e, l)

  -- the cycles are a basis
  based : (k : ℕ) → IsBasis p (relative_complex p x a) k (count k) (λ i. by_cell cells (zs k i))
  based k = (bases_are_by_number_or_cell p x a cells K one R).basis_by_cell k (count k) (zs k) (w.cycles k)

  -- a chain of numbers at a cell of the list
  pub by_cell_here : (c : ℕ → ℕ) (i : ℕ) → i < n → by_cell cells c (at i) ≡ c i
  by_cell_here c i l = ap (λ m. cond (nat_lt m n) (c m) 0) (number_at (is_relative x a) cells R.listing i l) ∙ ap (λ v. cond v (c i) 0) (lt-ltb i n l)

  degree_here : (s : ℕ) → s < n → get_or K.degrees s 0 ≡ dimension_of (at s)
  degree_here s l = ap (λ ds. get_or ds s 0) R.complex.degrees ∙ get_or-map dimension_of cells s [] 0 l

  at_count : (k i : ℕ) → i < count k → i < length (in_degree b.cocycles k)
  at_count k i l = let e = (w.cocycles k).count in omega (arith, e, l)

  picked : (k i j : ℕ) → i < count k → j < count k → Same p (total n (λ g. by_cell cells (cs k i) (at g) * by_cell cells (zs k j) (at g))) (cond (eqb i j) 1 0)
  picked k i j q r =
      let e : total n (λ g. by_cell cells (cs k i) (at g) * by_cell cells (zs k j) (at g)) ≡ total n (λ g. cs k i g * zs k j g) =
      total-same n (λ g. by_cell cells (cs k i) (at g) * by_cell cells (zs k j) (at g)) (λ g. cs k i g * zs k j g) (λ g l.
      ap (λ y. y * by_cell cells (zs k j) (at g)) (by_cell_here (cs k i) g l) ∙ ap (λ y. cs k i g * y) (by_cell_here (zs k j) g l)) in
      let past : (g : ℕ) → n ≤ g → zs k j g ≡ 0 = λ g l. none_past p k K (get_or (in_degree b.cycles k) j []) one (w.normal k j r) ((w.cycles k).cycles j r).chain g (let f = R.complex.count in omega (arith, f, l)) in
      let m = product_total n (get_or (in_degree b.cocycles k) i []) (get_or (in_degree b.cycles k) j []) past in
      same_trans (exact p (e ∙ sym m)) ((w.cocycles k).dual i j (at_count k i q) r)

  -- the cocycles are 0 on the boundary of each cell
  off_boundaries : (k i s : ℕ) → i < count k → s < n → Same p (total n (λ g. boundary_coefficient p (at s) (at g) * by_cell cells (cs k i) (at g))) 0
  off_boundaries k i s q l =
      let e = total_same p n (λ g. boundary_coefficient p (at s) (at g) * by_cell cells (cs k i) (at g)) (λ g. cs k i g * incidence K.boundaries s g) (λ g m. same_trans
      (same-mul (same_sym (R.complex.incidences s g l)) (exact p (by_cell_here (cs k i) g m))) (exact p (let k : incidence K.boundaries s g * cs k i g ≡ cs k i g * incidence K.boundaries s g = omega arith in k))) in
      let past : (g : ℕ) → n ≤ g → nth_chain K.boundaries s g ≡ 0 = λ g m. bounded p K w.complex s (inside s l) g (let f = R.complex.count in omega (arith, f, m)) in
      let m = product_total n (get_or (in_degree b.cocycles k) i []) (get_or K.boundaries s []) past in
      same_trans e (same_trans (exact p (sym m)) ((w.cocycles k).closed i s (at_count k i q) (inside s l)))

  unit_here : (s g : ℕ) → s < n → g < n → unit_at (at s) (at g) ≡ single s g
  unit_here s g l m = ⊎_elim
      (λ e. ap (λ v. cond v 1 0) (ap (λ t. same_cell (at t) (at s)) e ∙ cell_refl (at s)) ∙ sym (ap (λ v. cond v 1 0) (eq-eqb g s e)))
      (λ f. ap (λ v. cond v 1 0) (⊎_elim (λ e. absurd (f (R.listing.once g s m l e))) (λ h. h) (cell_cases (at g) (at s))) ∙ sym (ap (λ v. cond v 1 0) (ne_eqb g s f)))
      (cases_eq g s)

  contracted : (s g : ℕ) → s < n → g < n
      → Same p (combination (count (dimension_of (at s))) (λ i. by_cell cells (cs (dimension_of (at s)) i) (at s)) (λ i. by_cell cells (zs (dimension_of (at s)) i)) (at g)
      + ((relative_complex p x a).boundary (by_cell cells (hs s)) (at g) + total n (λ t. boundary_coefficient p (at s) (at t) * by_cell cells (hs (number_of cells (at t))) (at g)))) (unit_at (at s) (at g))
  contracted s g l m =
      let k : ℕ = dimension_of (at s) in
      let law = w.contraction.identity s k (inside s l) (degree_here s l) g in
      let first : combination (count k) (λ i. by_cell cells (cs k i) (at s)) (λ i. by_cell cells (zs k i)) (at g) ≡ combination (count k) (λ i. cs k i s) (zs k) g =
      total-same (count k) (λ i. by_cell cells (cs k i) (at s) * by_cell cells (zs k i) (at g)) (λ i. cs k i s * zs k i g) (λ i _. ap (λ y. y * by_cell cells (zs k i) (at g)) (by_cell_here (cs k i) s l) ∙ ap (λ y. cs k i s * y) (by_cell_here (zs k i) g m)) in
      let M = matching p x a cells K R in
      let on = listed (is_relative x a) cells R.listing g m in
      let bd : Same p (boundary K.boundaries (hs s) (number_of cells (at g))) ((relative_complex p x a).boundary (by_cell cells (hs s)) (at g)) = boundary_matches p (system K) (relative_complex p x a) M (hs s) (by_cell cells (hs s)) (by_cell_matches p x a cells K R (hs s)) (at g) on in
      let second : Same p ((relative_complex p x a).boundary (by_cell cells (hs s)) (at g)) (boundary K.boundaries (hs s) g) = same_trans (same_sym bd) (exact p (ap (boundary K.boundaries (hs s)) (number_at (is_relative x a) cells R.listing g m))) in
      let third : Same p (total n (λ t. boundary_coefficient p (at s) (at t) * by_cell cells (hs (number_of cells (at t))) (at g))) (total (length K.boundaries) (λ t. incidence K.boundaries s t * hs t g)) =
      same_trans (total_same p n (λ t. boundary_coefficient p (at s) (at t) * by_cell cells (hs (number_of cells (at t))) (at g)) (λ t. incidence K.boundaries s t * hs t g) (λ t q. same-mul (same_sym (R.complex.incidences s t l))
      (exact p (ap (λ u. by_cell cells (hs u) (at g)) (number_at (is_relative x a) cells R.listing t q) ∙ by_cell_here (hs t) g m))))
      (exact p (ap (λ (t : ℕ). total t (λ h. incidence K.boundaries s h * hs h g)) (sym R.complex.count))) in
      same_trans (same-add (exact p first) (same-add second third)) (same_trans law (exact p (sym (unit_here s g l m))))

  place : (q : List Factor) → is_relative x a q ≡ true → (i : ℕ) × (i < n) × (at i ≡ q)
  place = found (is_relative x a) cells R.listing

  raised : (s : ℕ) → s < n → IsChain p (relative_complex p x a) (dimension_of (at s) + 1) (by_cell cells (hs s))
  raised s l = (bases_are_by_number_or_cell p x a cells K one R).chain_by_cell (dimension_of (at s) + 1) (hs s)
      (subst (λ (d : ℕ). IsChain p (system K) (d + 1) (hs s)) (degree_here s l) (w.contraction.raises s (inside s l)))

  pub based_section : IsSection p x a cells (section_by p cells b)
  based_section = record {
    listing = R.listing;
    cycle_cells = λ k i l. ((based k).cycles i l).chain;
    homotopy_cells = λ s e. let i = place s e in
        subst (λ (q : List Factor). IsChain p (relative_complex p x a) (dimension_of q + 1) (by_cell cells (hs (number_of cells q)))) i.2
        (subst (λ (t : ℕ). IsChain p (relative_complex p x a) (dimension_of (at i.0) + 1) (by_cell cells (hs t))) (sym (number_at (is_relative x a) cells R.listing i.0 i.1)) (raised i.0 i.1));
    closed = λ k i l. ((based k).cycles i l).closed;
    dual = λ k i l j m. picked k i j l m;
    coclosed = λ k i l s e. let t = place s e in subst (λ (q : List Factor). Same p (total n (λ g. boundary_coefficient p q (at g) * by_cell cells (cs k i) (at g))) 0) t.2 (off_boundaries k i t.0 l t.1);
    contracts = λ s e q f. let t = place s e in let h = place q f in
        subst (λ (r : List Factor). Same p (combination (count (dimension_of s)) (λ i. by_cell cells (cs (dimension_of s) i) s) (λ i. by_cell cells (zs (dimension_of s) i)) r
        + ((relative_complex p x a).boundary (by_cell cells (hs (number_of cells s))) r + total n (λ c. boundary_coefficient p s (at c) * by_cell cells (hs (number_of cells (at c))) r))) (unit_at s r)) h.2
        (subst (λ (r : List Factor). Same p (combination (count (dimension_of r)) (λ i. by_cell cells (cs (dimension_of r) i) r) (λ i. by_cell cells (zs (dimension_of r) i)) (at h.0)
        + ((relative_complex p x a).boundary (by_cell cells (hs (number_of cells r))) (at h.0) + total n (λ c. boundary_coefficient p r (at c) * by_cell cells (hs (number_of cells (at c))) (at h.0)))) (unit_at r (at h.0))) t.2
        (subst (λ (u : ℕ). Same p (combination (count (dimension_of (at t.0))) (λ i. by_cell cells (cs (dimension_of (at t.0)) i) (at t.0)) (λ i. by_cell cells (zs (dimension_of (at t.0)) i)) (at h.0)
        + ((relative_complex p x a).boundary (by_cell cells (hs u)) (at h.0) + total n (λ c. boundary_coefficient p (at t.0) (at c) * by_cell cells (hs (number_of cells (at c))) (at h.0)))) (unit_at (at t.0) (at h.0)))
        (sym (number_at (is_relative x a) cells R.listing t.0 t.1)) (contracted t.0 h.0 t.1 h.1)));
  }

  pub based_cochains : (k i : ℕ) → i < count k → IsChain p (relative_complex p x a) k (by_cell cells (cs k i))
  based_cochains k i l = (bases_are_by_number_or_cell p x a cells K one R).chain_by_cell k (cs k i) ((w.cocycles k).cochains i (at_count k i l))
