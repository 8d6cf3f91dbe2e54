-- Cycles as they are printed are the numbered ones, as chains of cells.
use Rattle.std.proofs.Common.{◌≡◌, ℕ, zero, suc, ◌<◌, refl, arith, List, [], ◌∷◌, length, get_or, map, Bool}
use mathlib.Core.Path.{fun_ext}
use Rattle.elem_cubes.specs.Cells.{Factor}
use Rattle.cell_complex.specs.Numbering.{IsListing, cell_terms}
use Rattle.basis_reports.proofs.Terms as terms
use Rattle.induced_map.specs.Pairs.{nth_by_cell}
use Rattle.index_part.specs.Right.{nth_cycle}

module _ (test : List Factor → Bool) (cells : List (List Factor)) (l : IsListing test cells) where
  -- no coefficient stands past the cells
  abbrev IsInside : List (ℕ × ℕ) → Type 0
  IsInside = terms.IsInside test cells l

  -- the chains of a list, with their cells
  pub cycles_by_cell : (zs : List (List (ℕ × ℕ))) → ((j : ℕ) → j < length zs → IsInside (get_or zs j [])) → nth_cycle (map (cell_terms cells) zs) ≡ nth_by_cell cells zs
  cycles_by_cell zs none = fun_ext (λ j. fun_ext (λ q. at zs j q none))
    where
      at : (zs : List (List (ℕ × ℕ))) (j : ℕ) (q : List Factor) → ((j : ℕ) → j < length zs → IsInside (get_or zs j [])) → nth_cycle (map (cell_terms cells) zs) j q ≡ nth_by_cell cells zs j q
      at [] j q none = terms.terms_by_cell test cells l [] (λ g m. refl) q
      at (z ∷ zs) zero q none = terms.terms_by_cell test cells l z (none 0 (omega arith)) q
      at (z ∷ zs) (suc j) q none = at zs j q (λ i m. none (suc i) (omega (arith, m)))
