-- The image of a cell: a chain on its value that fills the image of its boundary.
use Rattle.std.proofs.Common.{◌≡◌, ℕ, ◌+◌, ◌*◌, ◌<◌, ◌≤◌, sym, ap, ◌∙◌, subst, arith, ⊎_elim, List, length, Bool, true, false}
use Rattle.std.proofs.lemmas.Bool.{true≢false, cases_Bool, cases_lt}
use Rattle.field_mod.specs.Modular.{Same, NonZero}
use Rattle.field_mod.proofs.Sums.{total_same}
use Rattle.field_mod.proofs.Modular.{same_refl, same_sym, same_trans, same-mul}
use Rattle.elem_cubes.specs.Cells.{Factor, dimension_of}
use Rattle.elem_cubes.specs.Boundary.{boundary_at, boundary_coefficient}
use Rattle.elem_cubes.specs.Laws.{cell_at}
use Rattle.elem_cubes.proofs.Modular.{exact}
use Rattle.elem_cubes.proofs.Boundaries.{boundary_same}
use Rattle.chains.specs.Terms.{coefficient}
use Rattle.chains.specs.Homology.{IsCycle, IsNull}
use Rattle.chains.proofs.Systems.{boundary-same, null-same}
use Rattle.cube_sets.specs.Closures.{is_cell_of, cells_of}
use Rattle.cell_complex.specs.Boundaries.{IsBoundaryAmong}
use Rattle.cell_complex.specs.RelativeComplex.{complex_on}
use Rattle.cell_complex.specs.Numbering.{by_cell, number_of}
use Rattle.cell_complex.specs.Acyclic.{complex_of_set, IsReducedCycle}
use Rattle.cell_complex.proofs.Squares.{operator}
use Rattle.cell_complex.proofs.Deciding.{closed}
use Rattle.cell_complex.proofs.Numbering.{listed, number_within, at_number}
use Rattle.acyclic_values.specs.Values.{in_value, IsValueAt}
use Rattle.acyclic_values.specs.CarriedMaps.{image, IsCarriedAt}
use Rattle.acyclic_values.specs.Contractions.{IsCellList}
use Rattle.acyclic_values.proofs.Sums.{face_of_nonzero}
use Rattle.acyclic_values.proofs.Cells.{cells_listing, sum_within}
use Rattle.acyclic_values.proofs.Values.{values_carry}
use Rattle.acyclic_values.proofs.Carrying.{false_below, IsCarrying, IsReducedOn, filled}
use Rattle.acyclic_values.proofs.Existence.{image_of_boundary}
use Rattle.acyclic_values.proofs.Contracting.{listing, place, by_cell_at, by_cell_off}
use Rattle.chain_selector.specs.Selections.{Selection, IsSelection, IsImageOf, domain_cells, range_cells, kept_image}
use Rattle.chain_selector.specs.Renumbered.{IsRenumbered}
use Rattle.chain_selector.specs.Fillings.{IsFilling, FillsIfNull}
use Rattle.chain_selector.specs.Right.{HasKeptFaces, IsRightImage}
use Rattle.chain_selector.proofs.OtherNumbers.{by_cell-at, by_cell-past}
use Rattle.chain_selector.proofs.OtherNumbers as numbered
use Rattle.chain_selector.proofs.Summing.{number_is}
use Rattle.chain_selector.proofs.Values.{cell_list, acyclic_value, same_test, same_tests, in_range}

module _ (p : ℕ) (s : Selection) (sel : IsSelection p s) (one : 1 ≤ p) (q : List Factor) (at : is_cell_of s.carrying.domain q ≡ true) (V : List (List Factor)) (v : IsValueAt s.carrying.map s.carrying.domain q V) where
  abbrev ds : List (List Factor)
  ds = domain_cells s

  abbrev rs : List (List Factor)
  rs = range_cells s

  abbrev T : List Factor → Bool
  T = in_value s.carrying.map s.carrying.domain q

  ca : IsCarrying p (is_cell_of s.carrying.domain) (is_cell_of s.carrying.range) ds rs (in_value s.carrying.map s.carrying.domain)
  ca = values_carry p s.carrying.map s.carrying.domain s.carrying.range sel.carrier.acyclic

  abbrev R : List Factor → Bool
  R = is_cell_of s.carrying.range

  cl : IsCellList V
  cl = cell_list p s.carrying sel.carrier q at V v

  into : (g : List Factor) → is_cell_of V g ≡ true → R g ≡ true
  into = in_range p s.carrying sel.carrier q at V v

  tests : (g : List Factor) → is_cell_of V g ≡ T g
  tests = same_test p s.carrying sel.carrier q at V v

  -- a chain of numbers of the range has nothing off its cells
  off : (c : ℕ → ℕ) (x : List Factor) → R x ≡ false → by_cell rs c x ≡ 0
  off c x e = ⊎_elim
      (λ l. absurd (true≢false (sym (subst (λ (y : List Factor). R y ≡ true) (numbered.at_number rs x l) (listed R rs (cells_listing s.carrying.range) (number_of rs x) l)) ∙ e)))
      (λ past. by_cell-past rs c x past)
      (cases_lt (number_of rs x) (length rs))

  -- a chain of places of the value, by numbers of the range: the same chain of cells
  pub renumbered_same : (fl ts : List (ℕ × ℕ)) → IsRenumbered p V rs fl ts → (x : List Factor) → Same p (by_cell rs (coefficient ts) x) (by_cell V (coefficient fl) x)
  renumbered_same fl ts r x = ⊎_elim
      (λ e.
      let l = number_within R rs (cells_listing s.carrying.range) x e in
      let a = at_number R rs (cells_listing s.carrying.range) x e in
      same_trans (exact p (by_cell-at rs (coefficient ts) x l)) (same_trans (r.at (number_of rs x) l) (exact p (ap (by_cell V (coefficient fl)) a))))
      (λ e. exact p (off (coefficient ts) x e ∙ sym (by_cell_off V cl (coefficient fl) x (false_below (into x) e))))
      (cases_Bool (R x))

  pub by_cell_same : (c d : ℕ → ℕ) (x : List Factor) → ((h : ℕ) → Same p (c h) (d h)) → Same p (by_cell V c x) (by_cell V d x)
  by_cell_same c d x h = ⊎_elim
      (λ l. same_trans (exact p (by_cell-at V c x l)) (same_trans (h (number_of V x)) (exact p (sym (by_cell-at V d x l)))))
      (λ past. exact p (by_cell-past V c x past ∙ sym (by_cell-past V d x past)))
      (cases_lt (number_of V x) (length V))

  module _ (k : ℕ) (higher : k + 1 ≡ dimension_of q) (kept : HasKeptFaces s q (dimension_of q)) (bd im cyc : List (ℕ × ℕ)) (b : IsBoundaryAmong p ds q bd) (i : IsImageOf p s bd im) (r : IsRenumbered p rs V im cyc) where
    -- the image of the boundary, a cycle on the value
    abbrev w : List Factor → ℕ
    w = image ds (kept_image s) (boundary_coefficient p q)

    images : (r : List Factor) → NonZero p (boundary_coefficient p q r) → IsCarriedAt p ds rs (in_value s.carrying.map s.carrying.domain r) (kept_image s) r
    images r z = let f = face_of_nonzero p q r z in sel.right r (kept r f.0 (omega (arith, f.1)))

    around : IsReducedOn p rs T k w
    around = image_of_boundary p (is_cell_of s.carrying.domain) R ds rs (in_value s.carrying.map s.carrying.domain) one ca (kept_image s) q k at higher images

    cy : IsReducedCycle p V k w
    cy = record {
      cycle = subst (λ (t : List Factor → Bool). IsCycle p (complex_on p t) k w) (sym (same_tests p s.carrying sel.carrier q at V v)) around.cycle;
      augmentation = λ o. same_trans (same_sym (sum_within p (is_cell_of V) R (cells_of V) rs (cells_listing V) (cells_listing s.carrying.range) into w (λ x e. around.cycle.chain.on x (sym (tests x) ∙ e)))) (around.augmentation o);
    }

    -- what the program makes of it, a chain of places, is the same
    image_same : (x : List Factor) → Same p (image ds (kept_image s) (by_cell ds (coefficient bd)) x) (w x)
    image_same x = total_same p (length ds) (λ i. by_cell ds (coefficient bd) (cell_at ds i) * kept_image s (cell_at ds i) x) (λ i. boundary_coefficient p q (cell_at ds i) * kept_image s (cell_at ds i) x) (λ i l.
        let m = number_is s i l in
        same-mul (same_trans (exact p (by_cell-at ds (coefficient bd) (cell_at ds i) (omega (arith, m)) ∙ ap (coefficient bd) m)) (b.coefficients i)) (same_refl p (kept_image s (cell_at ds i) x)))

    cycle_at : (m : ℕ) → m < length V → Same p (coefficient cyc m) (w (cell_at V m))
    cycle_at m l =
        let x : List Factor = cell_at V m in
        let e = into x (listed (is_cell_of V) V (listing V cl) m l) in
        let n = number_within R rs (cells_listing s.carrying.range) x e in
        let a = at_number R rs (cells_listing s.carrying.range) x e in
        same_trans (r.at m l) (same_trans (exact p (by_cell-at rs (coefficient im) x n)) (same_trans (i.value (number_of rs x) n) (same_trans (exact p (ap (image ds (kept_image s) (by_cell ds (coefficient bd))) a)) (image_same x))))

    abbrev c : List Factor → ℕ
    c = by_cell V (coefficient cyc)

    cycle_same : (x : List Factor) → Same p (c x) (w x)
    cycle_same x = ⊎_elim
        (λ e. let n = place V cl x e in same_trans (exact p (ap c (sym n.2) ∙ by_cell_at V cl (coefficient cyc) n.0 n.1)) (same_trans (cycle_at n.0 n.1) (exact p (ap w n.2))))
        (λ e. same_trans (exact p (by_cell_off V cl (coefficient cyc) x e)) (same_sym (cy.cycle.chain.on x e)))
        (cases_Bool (is_cell_of V x))

    is_cycle : IsCycle p (complex_of_set p V) k c
    is_cycle = record {
      chain = record { on = λ x e. same_trans (cycle_same x) (cy.cycle.chain.on x e); of_degree = λ x f. same_trans (cycle_same x) (cy.cycle.chain.of_degree x f) };
      closed = λ x e. same_trans (boundary-same p (complex_of_set p V) (operator p (is_cell_of V)) c w cycle_same x e) (cy.cycle.closed x e);
    }

    is_null : IsNull p (complex_of_set p V) k c
    is_null = null-same p (complex_of_set p V) k w c (λ x _. cycle_same x) ((acyclic_value p s.carrying sel.carrier q at V v).null k w cy)

    pub filling_is : (fl : List (ℕ × ℕ)) → FillsIfNull p V cyc fl → IsFilling p V k cyc fl
    filling_is fl f = f k is_cycle is_null

    pub right_filling : (fl ts : List (ℕ × ℕ)) → FillsIfNull p V cyc fl → IsRenumbered p V rs fl ts → IsRightImage p s q ts
    right_filling fl ts f t = record {
      within = t.within;
      chain = record {
        on = λ g e. same_trans (same g) ((filling_is fl f).chain.on g (tests g ∙ e));
        of_degree = λ g ne. same_trans (same g) ((filling_is fl f).chain.of_degree g (λ d. ne (d ∙ higher)));
      };
      commutes = λ x. same_trans (boundary_same p x (by_cell rs (coefficient ts)) (by_cell V (coefficient fl)) (λ y _. same y)) (same_trans (same_sym (filled_by x)) (cycle_same x));
      augmentation = λ z. absurd (omega (arith, higher, z));
    }
      where
        same : (x : List Factor) → Same p (by_cell rs (coefficient ts) x) (by_cell V (coefficient fl) x)
        same x = renumbered_same fl ts t x

        filled_by : (x : List Factor) → Same p (c x) (boundary_at p x (by_cell V (coefficient fl)))
        filled_by x = filled p (is_cell_of V) (closed V) k c is_cycle.chain (record { filling = by_cell V (coefficient fl); chain = (filling_is fl f).chain; fills = (filling_is fl f).fills }) x
