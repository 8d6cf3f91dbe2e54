-- The restricted image of one chain.
use Rattle.std.proofs.Common.{◌≡◌, ℕ, ◌*◌, ◌<◌, ◌≤◌, sym, ap, ◌∙◌, subst, arith, ⊎_elim, List, [], length, get_or}
use Rattle.std.specs.Prelude.{◌^◌}
use Rattle.std.proofs.lemmas.Bool.{cases_lt, le-ltb}
use Rattle.field_mod.proofs.Sums.{total_same}
use Rattle.field_mod.proofs.Modular.{same_refl, same_trans, same-mul}
use Rattle.elem_cubes.specs.Cells.{Factor}
use Rattle.elem_cubes.specs.Laws.{cell_at}
use Rattle.elem_cubes.proofs.Modular.{exact}
use Rattle.chains.specs.Terms.{coefficient}
use Rattle.chains.proofs.TermLists.{coefficient-lt, named_at}
use Rattle.algebraic_reduction.proofs.Residues.{same_zero}
use Rattle.cube_sets.specs.Closures.{is_cell_of, cells_of}
use Rattle.cell_complex.specs.Numbering.{by_cell, number_of}
use Rattle.cell_complex.proofs.Numbering.{number_at, number_within, at_number}
use Rattle.acyclic_values.specs.CarriedMaps.{image}
use Rattle.acyclic_values.proofs.Cells.{cells_listing}
use Rattle.homology_basis.specs.Bases.{CyclesOfLog, in_degree, IsBasisByCycles}
use Rattle.map_checks.specs.Carriers.{Carrying}
use Rattle.chain_selector.specs.Selections.{Selection, IsSelection, IsOfOneMap, IsImageOf, IsInDomain, AreKept, Extends, domain_cells, range_cells, kept_image}
use Rattle.chain_selector.specs.Renumbered.{IsRenumbered}
use Rattle.chain_selector.proofs.OtherNumbers.{by_cell-at}
use Rattle.chain_selector.proofs.OneMap.{sums_are_of_one_map}
use Rattle.induced_map.specs.Within.{AreCellsOf, AreWithin}
use Rattle.induced_map.specs.Images.{IsRestrictedImage}

-- ---- one chain

module _ (p : ℕ) (s : Selection) (sel : IsSelection p s) where
  abbrev ds : List (List Factor)
  ds = domain_cells s

  abbrev rs : List (List Factor)
  rs = range_cells s

  -- the chain cs by numbers of dc, the same by those of the domain, its image, and the restriction
  -- of that to the cells rc
  pub restricted : (dc rc : List (List Factor)) (cs cycle im ts : List (ℕ × ℕ)) → IsOfOneMap p s → AreKept s cycle → AreCellsOf s.carrying.range rc
      → IsRenumbered p dc ds cs cycle → IsImageOf p s cycle im → IsRenumbered p rs rc im ts → IsRestrictedImage p s.carrying dc rc cs ts
  restricted dc rc cs cycle im ts m kept inside r i t = record {
    map = m.map;
    carried = m.carried;
    normal = t.normal;
    within = t.within;
    value = λ g l.
        let x : List Factor = cell_at rc g in
        let n = number_within (is_cell_of s.carrying.range) rs (cells_listing s.carrying.range) x (inside g l) in
        let a = at_number (is_cell_of s.carrying.range) rs (cells_listing s.carrying.range) x (inside g l) in
        same_trans (t.at g l)
        (same_trans (exact p (by_cell-at rs (coefficient im) x n))
        (same_trans (i.value (number_of rs x) n)
        (same_trans (exact p (ap (image ds (kept_image s) (by_cell ds (coefficient cycle))) a ∙ sym (sums_are_of_one_map p s m cycle x sel r.normal kept)))
        (total_same p (length ds) (λ h. by_cell ds (coefficient cycle) (cell_at ds h) * m.map (cell_at ds h) x) (λ h. by_cell dc (coefficient cs) (cell_at ds h) * m.map (cell_at ds h) x) (λ h q.
        let number : number_of ds (cell_at ds h) ≡ h = number_at (is_cell_of s.carrying.domain) ds (cells_listing s.carrying.domain) h q in
        same-mul (same_trans (exact p (by_cell-at ds (coefficient cycle) (cell_at ds h) (omega (arith, number)) ∙ ap (coefficient cycle) number)) (r.at h q)) (same_refl p (m.map (cell_at ds h) x)))))));
  }

  -- the same where the first two steps were taken by what was kept before, and the chains are by numbers of lists that are those
  pub restricted_by : (t : Selection) (dc rc from to : List (List Factor)) (cs cycle im ts : List (ℕ × ℕ)) → Extends t s → IsOfOneMap p s → AreKept s cycle → AreCellsOf t.carrying.range rc → from ≡ domain_cells t → to ≡ range_cells s
      → IsRenumbered p dc from cs cycle → IsImageOf p s cycle im → IsRenumbered p to rc im ts → IsRestrictedImage p t.carrying dc rc cs ts
  restricted_by t dc rc from to cs cycle im ts e m kept inside ef et r i u =
      let back : t.carrying ≡ s.carrying = sym e.carrying in
      subst (λ (c : Carrying). IsRestrictedImage p c dc rc cs ts) e.carrying
      (restricted dc rc cs cycle im ts m kept (subst (λ (c : Carrying). AreCellsOf c.range rc) back inside)
      (subst (λ (cells : List (List Factor)). IsRenumbered p dc cells cs cycle) (ef ∙ ap (λ (c : Carrying). cells_of c.domain) back) r) i
      (subst (λ (cells : List (List Factor)). IsRenumbered p cells rc im ts) et u))

-- a chain by the numbers of the cells of the domain names cells of it
pub in_domain : (p : ℕ) (s : Selection) (dc from : List (List Factor)) (cs ts : List (ℕ × ℕ)) → from ≡ domain_cells s → IsRenumbered p dc from cs ts → IsInDomain s ts
in_domain p s dc from cs ts is r k l = ⊎_elim
    (λ lt. lt)
    (λ past. let n = named_at p 0 (2 ^ 32) ts k r.normal l in let z = r.within (get_or ts k (0, 0)).0 (omega (arith, past, ap length is)) in absurd (omega (arith, n.1, n.2, z)))
    (cases_lt (get_or ts k (0, 0)).0 (length (domain_cells s)))

-- a cycle of a basis names no number past the cells
pub cycle_within : (p k j : ℕ) (A : CyclesOfLog) (cells : List (List Factor)) → 1 ≤ p → IsBasisByCycles p A → length A.log.complex.boundaries ≡ length cells → j < length (in_degree A.cycles k)
    → AreWithin cells (get_or (in_degree A.cycles k) j [])
cycle_within p k j A cells one ba count l g past =
    same_zero p (coefficient (get_or (in_degree A.cycles k) j []) g) (coefficient-lt p 0 (2 ^ 32) (get_or (in_degree A.cycles k) j []) g one (ba.normal k j l))
    (((ba.cycles k).cycles j l).chain.on g (le-ltb g (length A.log.complex.boundaries) (omega arith)))
