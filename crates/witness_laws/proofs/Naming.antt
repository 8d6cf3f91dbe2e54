-- Chains whose terms name cells of some kind are chains on cells of that kind.
use Rattle.std.proofs.Common.{◌≡◌, ◌⊎◌, ℕ, ◌+◌, ◌-◌, inl, inr, refl, sym, ap, ◌∙◌, arith, ⊎_elim, List, [], ◌∷◌, Bool, true, cond, subst}
use Rattle.std.proofs.lemmas.Bool.{true≢false, cases_Bool}
use Rattle.elem_cubes.specs.Cells.{Factor, dimension_of, same_cell}
use Rattle.elem_cubes.specs.Laws.{cell_at}
use Rattle.elem_cubes.proofs.Modular.{exact}
use Rattle.elem_cubes.proofs.Members.{In-from, from-In}
use Rattle.chains.specs.Homology.{IsChain}
use Rattle.cube_sets.proofs.Spreads.{union_In, In_union}
use Rattle.cell_complex.specs.RelativeComplex.{is_relative, complex_on}
use Rattle.cell_complex.specs.Numbering.{IsListing}
use Rattle.cell_complex.proofs.Deciding.{cell_true}
use Rattle.cell_complex.proofs.Sorting.{apart}
use Rattle.acyclic_values.specs.CarriedMaps.{IsTogether}
use Rattle.map_checks.specs.Faults.{together}
use Rattle.acyclic_values.proofs.Cells.{cells_listing, filter_In, In_filter}
use Rattle.acyclic_values.proofs.Values.{relative_cell}
use Rattle.cube_sets.proofs.Covering.{cells_are_faces}
use Rattle.std.proofs.lemmas.List.Kept.{IsStrictlySortedBy-filter}
use Rattle.elem_cubes.specs.Order.{cell_cmp}
use Rattle.witness_laws.specs.Inputs.{all_cells, relative_cells}
use Rattle.witness_laws.specs.Parts.{NameCells, chain_of}

-- a cell has no coefficient, or it is of the kind
pub none_or : (cells : List (List Factor)) (P : List Factor → Type 0) (ts : List (ℕ × ℕ)) (g : List Factor) → NameCells cells P ts → (chain_of cells ts g ≡ 0) ⊎ P g
none_or cells P [] g w = inl refl
none_or cells P (t ∷ ts) g w =
    let c : List Factor = cell_at cells (t.0 - 1) in
    ⊎_elim
    (λ e. inr (subst P (cell_true c g e) w.2))
    (λ e. ⊎_elim (λ z. inl (ap (λ b. cond b t.1 0 + chain_of cells ts g) e ∙ (let k : 0 + chain_of cells ts g ≡ 0 = omega (arith, z) in k))) (λ h. inr h) (none_or cells P ts g w.3))
    (cases_Bool (same_cell c g))

pub is_chain : (p k : ℕ) (cells : List (List Factor)) (on : List Factor → Bool) (ts : List (ℕ × ℕ)) → NameCells cells (λ q. (on q ≡ true) × (dimension_of q ≡ k)) ts → IsChain p (complex_on p on) k (chain_of cells ts)
is_chain p k cells on ts w = record {
  on = λ g e. ⊎_elim (λ z. exact p z) (λ h. absurd (true≢false (sym h.0 ∙ e))) (none_or cells (λ q. (on q ≡ true) × (dimension_of q ≡ k)) ts g w);
  of_degree = λ g f. ⊎_elim (λ z. exact p z) (λ h. absurd (f h.1)) (none_or cells (λ q. (on q ≡ true) × (dimension_of q ≡ k)) ts g w);
}

pub is_together : (x a : List (List Factor)) → IsTogether (together x a) x a
is_together x a q = (
  λ w. ⊎_elim (λ h. inl (from-In x q h)) (λ h. inr (from-In a q h)) (union_In x a q (In-from (together x a) q w)),
  λ w. from-In (together x a) q (In_union x a q (⊎_elim (λ h. inl (In-from x q h)) (λ h. inr (In-from a q h)) w)),
)

-- the relative cells, in order
pub relative_listing : (x a : List (List Factor)) → IsListing (is_relative x a) (relative_cells x a)
relative_listing x a = record {
  members = λ q. (
    λ e. from-In (relative_cells x a) q (In_filter (is_relative x a) (all_cells x a) q (In-from (all_cells x a) q (((cells_listing (together x a)).members q).0 (relative_cell (together x a) x a (is_together x a) q e))) e),
    λ w. (filter_In (is_relative x a) (all_cells x a) q (In-from (relative_cells x a) q w)).1,
  );
  once = apart (relative_cells x a) (IsStrictlySortedBy-filter cell_cmp (is_relative x a) (all_cells x a) (cells_are_faces.sorted (together x a)));
}
