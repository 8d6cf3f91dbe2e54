-- The kept images are those of one carried map.
use Rattle.std.proofs.Common.{◌≡◌, ◌≢◌, ℕ, suc, ◌+◌, ◌*◌, ◌<◌, refl, sym, ap, ◌∙◌, arith, ⊎_elim, List, [], ◌∷◌, length, get_or, cond, ltb, ne_eqb}
use Rattle.std.proofs.lemmas.Bool.{cases_eq, lt-ltb}
use Rattle.field_mod.proofs.Sums.{total-same}
use Rattle.elem_cubes.specs.Cells.{Factor}
use Rattle.elem_cubes.specs.Laws.{cell_at}
use Rattle.chains.specs.Terms.{coefficient}
use Rattle.cube_sets.specs.Closures.{is_cell_of, cells_of}
use Rattle.cell_complex.specs.Numbering.{by_cell}
use Rattle.cell_complex.proofs.Numbering.{number_at}
use Rattle.acyclic_values.proofs.Carried.{carried_maps_extend}
use Rattle.acyclic_values.proofs.Cells.{cells_listing}
use Rattle.chain_selector.specs.Selections.{kept_image, is_kept}
use Rattle.chain_selector.specs.Laws.{SelectionsAreOfOneMap, SumsAreOfOneMap}

pub selections_are_of_one_map : SelectionsAreOfOneMap
selections_are_of_one_map p s one sel =
    let w = carried_maps_extend p s.carrying.map s.carrying.domain s.carrying.range (is_kept s) (kept_image s) one sel.carrier.acyclic sel.closed sel.within sel.right in
    record { map = w.0; carried = w.1; kept = w.2 }

-- a generator with a coefficient stands among the terms
named : (ts : List (ℕ × ℕ)) (g : ℕ) → coefficient ts g ≢ 0 → (k : ℕ) × (k < length ts) × ((get_or ts k (0, 0)).0 ≡ g)
named [] g f = absurd (f refl)
named (t ∷ ts) g f = ⊎_elim
    (λ e. (0, omega arith, e))
    (λ n. let w = named ts g (λ z. f (ap (λ b. cond b t.1 0 + coefficient ts g) (ne_eqb t.0 g n) ∙ ap (λ v. 0 + v) z)) in (suc w.0, omega (arith, w.1), w.2))
    (cases_eq t.0 g)

pub sums_are_of_one_map : SumsAreOfOneMap
sums_are_of_one_map p s m c r sel normal kept =
    let ds : List (List Factor) = cells_of s.carrying.domain in
    total-same (length ds) (λ i. by_cell ds (coefficient c) (cell_at ds i) * m.map (cell_at ds i) r) (λ i. by_cell ds (coefficient c) (cell_at ds i) * kept_image s (cell_at ds i) r) (λ i l. ⊎_elim
    (λ z. ap (λ v. v * m.map (cell_at ds i) r) (at i l ∙ z) ∙ zero_both (m.map (cell_at ds i) r) (kept_image s (cell_at ds i) r) ∙ sym (ap (λ v. v * kept_image s (cell_at ds i) r) (at i l ∙ z)))
    (λ nz. let w = named c i nz in ap (λ (f : List Factor → ℕ). by_cell ds (coefficient c) (cell_at ds i) * f r) (m.kept (cell_at ds i) (ap (λ g. is_kept s (cell_at ds g)) (sym w.2) ∙ kept w.0 w.1)))
    (cases_eq (coefficient c i) 0))
  where
    zero_both : (a b : ℕ) → 0 * a ≡ 0 * b
    zero_both a b = omega arith

    at : (i : ℕ) → i < length (cells_of s.carrying.domain) → by_cell (cells_of s.carrying.domain) (coefficient c) (cell_at (cells_of s.carrying.domain) i) ≡ coefficient c i
    at i l =
        let ds : List (List Factor) = cells_of s.carrying.domain in
        ap (λ n. cond (ltb n (length ds)) (coefficient c n) 0) (number_at (is_cell_of s.carrying.domain) ds (cells_listing s.carrying.domain) i l) ∙ ap (λ b. cond b (coefficient c i) 0) (lt-ltb i (length ds) l)
