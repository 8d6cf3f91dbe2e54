-- The image of a vertex: a vertex of its value.
use Rattle.std.proofs.Common.{◌≡◌, ℕ, ◌+◌, ◌*◌, ◌%◌, ◌<◌, ◌≤◌, inl, refl, sym, ap, ◌∙◌, arith, ⊎_elim, List, [], ◌∷◌, length, cond, eq-eqb, ne_eqb, true}
use Rattle.std.proofs.lemmas.Bool.{true≢false, cases_lt}
use native.Mathlib.Nat.{mod-mod}
use Rattle.field_mod.specs.Modular.{Same}
use Rattle.field_mod.proofs.Sums.{total-same, total_same}
use Rattle.field_mod.proofs.Modular.{same_sym, same_trans}
use Rattle.elem_cubes.specs.Cells.{Factor, dimension_of, same_cell}
use Rattle.elem_cubes.specs.Boundary.{boundary_coefficient}
use Rattle.elem_cubes.specs.Laws.{cell_at}
use Rattle.elem_cubes.specs.OrderLemmas.{cell_cases, cell_refl}
use Rattle.elem_cubes.proofs.Modular.{exact}
use Rattle.elem_cubes.proofs.Boundaries.{boundary_same, at_cell, spread}
use Rattle.chains.specs.Terms.{coefficient}
use Rattle.cube_sets.specs.Closures.{is_cell_of}
use Rattle.cell_complex.specs.Numbering.{by_cell, number_of}
use Rattle.cell_complex.specs.Acyclic.{sum_over}
use Rattle.cell_complex.proofs.Deciding.{same_cell_sym}
use Rattle.cell_complex.proofs.Numbering.{listed, found, number_at}
use Rattle.acyclic_values.specs.Values.{IsValueAt}
use Rattle.acyclic_values.specs.Contractions.{IsCellList}
use Rattle.acyclic_values.proofs.Sums.{face_of_nonzero, none_by_terms}
use Rattle.acyclic_values.proofs.Cells.{cells_listing}
use Rattle.acyclic_values.proofs.Existence.{vertex_boundary}
use Rattle.acyclic_values.proofs.Contracting.{listing}
use Rattle.chain_selector.specs.Selections.{Selection, IsSelection, domain_cells, range_cells, kept_image}
use Rattle.chain_selector.specs.Renumbered.{IsRenumbered}
use Rattle.chain_selector.specs.Right.{IsRightImage}
use Rattle.chain_selector.proofs.OtherNumbers.{by_cell-at, by_cell-past, at_number}
use Rattle.chain_selector.proofs.Values.{cell_list, same_test, in_range}
use Rattle.chain_selector.proofs.Fillings.{renumbered_same, by_cell_same}

-- the chain of one place names no place past the list
pub vertex_past : (p i n : ℕ) (vt : List (ℕ × ℕ)) → i < n → ((g : ℕ) → coefficient vt g ≡ coefficient ((i, 1) ∷ []) g % p) → (g : ℕ) → n ≤ g → coefficient vt g ≡ 0
vertex_past p i n vt l e g past = e g ∙ ap (λ b. (cond b 1 0 + 0) % p) (ne_eqb i g (λ q. absurd (omega (arith, q, l, past)))) ∙ none_of p
  where
    none_of : (m : ℕ) → (0 + 0) % m ≡ 0
    none_of m = omega arith

module _ (p : ℕ) (s : Selection) (sel : IsSelection p s) (one : 1 ≤ p) (q : List Factor) (at : is_cell_of s.carrying.domain q ≡ true) (V : List (List Factor)) (v : IsValueAt s.carrying.map s.carrying.domain q V) where
  abbrev ds : List (List Factor)
  ds = domain_cells s

  abbrev rs : List (List Factor)
  rs = range_cells s

  cl : IsCellList V
  cl = cell_list p s.carrying sel.carrier q at V v

  module _ (i : ℕ) (l : i < length V) (lowest : dimension_of (cell_at V i) ≡ 0) (flat : dimension_of q ≡ 0) where
    abbrev u : List Factor
    u = cell_at V i

    here : is_cell_of V u ≡ true
    here = listed (is_cell_of V) V (listing V cl) i l

    -- the chain of the place i alone
    at_place : (x : List Factor) → by_cell V (coefficient ((i, 1) ∷ [])) x ≡ at_cell u x
    at_place x = ⊎_elim
        (λ e.
        let n : number_of V x ≡ i = ap (number_of V) e ∙ number_at (is_cell_of V) V (listing V cl) i l in
        by_cell-at V (coefficient ((i, 1) ∷ [])) x (omega (arith, n)) ∙ ap (coefficient ((i, 1) ∷ [])) n ∙ ap (λ b. cond b 1 0 + 0) (eq-eqb i i refl) ∙ (let z : 1 + 0 ≡ 1 = omega arith in z) ∙ sym (ap (λ b. cond b 1 0) (ap (λ (y : List Factor). same_cell y u) e ∙ cell_refl u)))
        (λ f. ⊎_elim
        (λ m. by_cell-at V (coefficient ((i, 1) ∷ [])) x m ∙ ap (λ b. cond b 1 0 + 0) (ne_eqb i (number_of V x) (λ e. true≢false (sym (ap (λ (y : List Factor). same_cell y u) (sym (at_number V x m) ∙ ap (cell_at V) (sym e)) ∙ cell_refl u) ∙ f))) ∙ sym (ap (λ b. cond b 1 0) f))
        (λ past. by_cell-past V (coefficient ((i, 1) ∷ [])) x past ∙ sym (ap (λ b. cond b 1 0) f))
        (cases_lt (number_of V x) (length V)))
        (cell_cases x u)

    one_at : sum_over rs (at_cell u) ≡ 1
    one_at =
        total-same (length rs) (λ j. at_cell u (cell_at rs j)) (λ j. 1 * at_cell (cell_at rs j) u) (λ j _. ap (λ b. cond b 1 0) (same_cell_sym (cell_at rs j) u) ∙ omega arith)
        ∙ spread (length rs) (cell_at rs) (λ _. 1) u (cells_listing s.carrying.range).once (inl (found (is_cell_of s.carrying.range) rs (cells_listing s.carrying.range) u (in_range p s.carrying sel.carrier q at V v u here)))

    pub right_vertex : (vt ts : List (ℕ × ℕ)) → ((g : ℕ) → coefficient vt g ≡ coefficient ((i, 1) ∷ []) g % p) → IsRenumbered p V rs vt ts → IsRightImage p s q ts
    right_vertex vt ts e t = record {
      within = t.within;
      chain = record {
        on = λ g f. same_trans (same g) (⊎_elim (λ c. absurd (true≢false (sym here ∙ ap (is_cell_of V) (sym c) ∙ same_test p s.carrying sel.carrier q at V v g ∙ f))) (λ c. exact p (ap (λ b. cond b 1 0) c)) (cell_cases g u));
        of_degree = λ g ne. same_trans (same g) (⊎_elim (λ c. absurd (ne (ap dimension_of c ∙ lowest ∙ sym flat))) (λ c. exact p (ap (λ b. cond b 1 0) c)) (cell_cases g u));
      };
      commutes = λ r. same_trans (boundary_same p r (by_cell rs (coefficient ts)) (at_cell u) (λ x _. same x))
          (same_trans (vertex_boundary p u r lowest) (same_sym (none_by_terms p (length ds) (λ j. boundary_coefficient p q (cell_at ds j)) (λ j. kept_image s (cell_at ds j) r) (λ j _ z. absurd (omega (arith, face_of_nonzero p q (cell_at ds j) z))))));
      augmentation = λ _. same_trans (total_same p (length rs) (λ j. by_cell rs (coefficient ts) (cell_at rs j)) (λ j. at_cell u (cell_at rs j)) (λ j _. same (cell_at rs j))) (exact p one_at);
    }
      where
        place_same : (x : List Factor) → Same p (by_cell V (coefficient vt) x) (by_cell V (coefficient ((i, 1) ∷ [])) x)
        place_same x = by_cell_same p s sel one q at V v (coefficient vt) (coefficient ((i, 1) ∷ [])) x (λ h. record { same = ap (λ n. n % p) (e h) ∙ mod-mod (coefficient ((i, 1) ∷ []) h) p })

        same : (x : List Factor) → Same p (by_cell rs (coefficient ts) x) (at_cell u x)
        same x = same_trans (renumbered_same p s sel one q at V v vt ts t x) (same_trans (place_same x) (exact p (at_place x)))
