-- Contractions of values, by the numbers of a file, meet the laws of their lines.
use Rattle.std.proofs.Common.{◌≡◌, ℕ, ◌+◌, ◌-◌, ◌*◌, ◌<◌, sym, ap, ◌∙◌, arith, ⊎_elim, List, [], length, get_or, cond, subst}
use Rattle.std.specs.List.{Contains}
use Rattle.std.proofs.lemmas.Bool.{cases_Bool, lt-ltb}
use Rattle.std.proofs.lemmas.List.Elements.{Contains-get_or}
use Rattle.field_mod.specs.Modular.{Same, NonZero}
use Rattle.field_mod.proofs.Sums.{total_same}
use Rattle.field_mod.proofs.Modular.{same_refl, same_trans, same-add, same-scale, same-mul}
use Rattle.elem_cubes.specs.Cells.{Factor, dimension_of}
use Rattle.elem_cubes.specs.Laws.{cell_at}
use Rattle.elem_cubes.proofs.Modular.{exact}
use Rattle.cube_sets.specs.Closures.{is_cell_of}
use Rattle.cell_complex.specs.Numbering.{by_cell, number_of}
use Rattle.cell_complex.proofs.Numbering.{number_at, at_number}
use Rattle.cell_complex.proofs.Sorting.{number_below}
use Rattle.algebraic_reduction.specs.Reduction.{single}
use Rattle.acyclic_values.specs.Values.{in_value}
use Rattle.acyclic_values.specs.Contractions.{IsCellList, incidence_at, augmentation_at}
use Rattle.acyclic_values.proofs.Cells.{cells_listing}
use Rattle.acyclic_values.proofs.Contracting.{listing, member, place, by_cell_at, by_cell_off}
use Rattle.map_checks.specs.Faults.{together}
use Rattle.witness_laws.specs.Inputs.{Given, Target, target_of, all_cells, IsWithoutFault}
use Rattle.witness_laws.specs.Parts.{NameCells, NamesVertex, chain_of, nth, cell_of, value_at, range_cells, vertex_of}
use Rattle.witness_laws.specs.Tables.{MapTables, ValueContractsAt, filling_of}
use Rattle.witness_laws.proofs.Mapping.{value_list}
use Rattle.witness_writing.proofs.Counting.{in_filtered}
use Rattle.witness_parts.proofs.Alike.{names_of}
use Rattle.map_parts.specs.Values.{IsFiledContraction}

module _ (p : ℕ) (G : Given) (M : MapTables) (nf : IsWithoutFault G (target_of G)) (i : ℕ) (l : i < length (all_cells G.x G.a))
    (w : IsFiledContraction p (range_cells G) (value_at G i) (get_or M.vertices i 0) (get_or M.fillings i [])) where
  abbrev T : Target
  T = target_of G

  abbrev R : List (List Factor)
  R = together T.y T.b

  abbrev rs : List (List Factor)
  rs = range_cells G

  abbrev V : List (List Factor)
  V = value_at G i

  abbrev c : List Factor
  c = cell_at V w.at

  abbrev zs : List (List (ℕ × ℕ))
  zs = get_or M.fillings i []

  cl : IsCellList V
  cl = value_list G nf i l

  inside : (q : List Factor) → Contains V q → Contains rs q
  inside q h = in_filtered (in_value T.map (together G.x G.a) (cell_of G i)) rs q h

  there : Contains V c
  there = Contains-get_or V w.at [] w.contracts.inside

  cell_there : cell_at rs (get_or M.vertices i 0 - 1) ≡ c
  cell_there =
      let e : get_or M.vertices i 0 - 1 ≡ number_of rs c = omega (arith, w.named) in
      ap (cell_at rs) e ∙ at_number (is_cell_of R) rs (cells_listing R) c (((cells_listing R).members c).1 (inside c there))

  pub vertex_names : NamesVertex G M.vertices i
  vertex_names = (
    (omega (arith, w.named)),
    (let b = number_below rs c (inside c there) in omega (arith, b, w.named)),
    subst (λ (q : List Factor). Contains V q × (dimension_of q ≡ 0)) (sym cell_there) (there, w.contracts.lowest),
    tt,
  )

  vertex_is : vertex_of G M.vertices i ≡ w.at
  vertex_is = ap (number_of V) cell_there ∙ number_at (is_cell_of V) V (listing V cl) w.at w.contracts.inside

  at_place : (m : ℕ) → m < length V → (s : ℕ) → s < length V → Same p (filling_of G M i m s) (w.chains m s)
  at_place m k s q =
      same_trans (exact p (ap (λ b. cond b (chain_of rs (nth zs m) (cell_at V s)) 0) (lt-ltb s (length V) q)))
      (same_trans ((w.filed.at m k).same (cell_at V s)) (exact p (by_cell_at V cl (w.chains m) s q)))

  kind : (m : ℕ) → m < length V → (q : List Factor) → NonZero p (by_cell V (w.chains m) q) → Contains V q × (dimension_of q ≡ dimension_of (cell_at V m) + 1)
  kind m k q nz = ⊎_elim
      (λ e.
      let s = place V cl q e in
      let here : NonZero p (w.chains m s.0) = subst (NonZero p) (ap (by_cell V (w.chains m)) (sym s.2) ∙ by_cell_at V cl (w.chains m) s.0 s.1) nz in
      ((member V cl q).0 e, ap dimension_of (sym s.2) ∙ (w.contracts.raises m s.0 k here).1))
      (λ e. absurd (nz (exact p (by_cell_off V cl (w.chains m) q e))))
      (cases_Bool (is_cell_of V q))

  pub filling_names : (m : ℕ) → m < length V → NameCells rs (λ q. Contains V q × (dimension_of q ≡ dimension_of (cell_at V m) + 1)) (nth zs m)
  filling_names m k =
      names_of rs (λ q. NonZero p (by_cell V (w.chains m) q)) (λ q. Contains V q × (dimension_of q ≡ dimension_of (cell_at V m) + 1)) (kind m k) (nth zs m) (w.filed.at m k).names

  pub value_contracts : (m : ℕ) → m < length V → ValueContractsAt p V (vertex_of G M.vertices i) (filling_of G M i) m
  value_contracts m k s q =
      let d : ℕ = length V in
      let first : augmentation_at V m * single (vertex_of G M.vertices i) s ≡ augmentation_at V m * single w.at s = ap (λ (v : ℕ). augmentation_at V m * single v s) vertex_is in
      let second = total_same p d (λ t. filling_of G M i m t * incidence_at p V t s) (λ t. w.chains m t * incidence_at p V t s)
      (λ t r. same-mul (at_place m k t r) (same_refl p (incidence_at p V t s))) in
      let third = total_same p d (λ t. incidence_at p V m t * filling_of G M i t s) (λ t. incidence_at p V m t * w.chains t s) (λ t r. same-scale (incidence_at p V m t) (at_place t r s q)) in
      same_trans (same-add (exact p first) (same-add second third)) (w.contracts.identity m s k q)
