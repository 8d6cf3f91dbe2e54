-- Maps of pairs are refused in one way, or not at all.
use Rattle.std.proofs.Common.{◌≡◌, ◌≢◌, ◌⊎◌, inl, inr, ⊎_elim, ℕ, ◌<◌, ◌^◌, refl, sym, ap, ◌∙◌, arith, length}
use Rattle.std.proofs.lemmas.Bool.{cases_lt}
use Rattle.field_mod.specs.Modular.{IsField}
use Rattle.cube_sets.specs.Closures.{cells_of}
use Rattle.cell_complex.specs.CellCount.{cell_count}
use Rattle.faults.specs.declared.fault.Fault.{Fault}
use Rattle.faults.specs.declared.fault.Fault.TheVariants.{Limit}
use Rattle.faults.specs.declared.limit_name.LimitName.TheVariants.{Cells}
use Rattle.faults.specs.Statuses.{status_of, without_chain}
use Rattle.faults.specs.declared.status.Status.TheVariants as statuses
use Rattle.loading.specs.Jobs.{IsAllowed}
use Rattle.pair_maps.specs.declared.inputs.PairMap.{PairMap}
use Rattle.pair_maps.specs.Inputs.{domain_of, range_of}
use Rattle.pair_maps.specs.Refusals.{most_cells, HasTooMany, HasFew, RefusesPairMap}
use Rattle.pair_maps.proofs.Refusing.{refusal_or_none, refusals_alike, refusal_status}
use Rattle.pair_maps.proofs.Cells.{cells_counted, first_few}
use Rattle.pair_maps.proofs.Refused.{never_both, allowed}

limit_never_writes : statuses.Limit ≡ statuses.Write → ⊥
limit_never_writes e = cc

map_never_writes : statuses.MapRefused ≡ statuses.Write → ⊥
map_never_writes e = cc

many_or_few : (m : PairMap) → HasTooMany m ⊎ HasFew m
many_or_few m = ⊎_elim
    (λ more. inl (inl more))
    (λ few. ⊎_elim (λ more. inl (inr more)) (λ also. inr (record { domain = few; range = also })) (cases_lt most_cells (cell_count (range_of m))))
    (cases_lt most_cells (cell_count (domain_of m)))

-- a map that nothing refuses has few cells
pub few_of : (p : ℕ) (m : PairMap) → IsAllowed (RefusesPairMap p) m → HasFew m
few_of p m none = ⊎_elim (λ more. absurd (none (Limit Cells most_cells) (inl (more, refl)))) (λ few. few) (many_or_few m)

pub few_domain : (m : PairMap) → HasFew m → length (cells_of m.x.cells) < 2 ^ 32
few_domain m few = omega (arith, first_few m.x.cells m.a.cells, few.domain)

pub few_range : (m : PairMap) → HasFew m → length (cells_of m.y.cells) < 2 ^ 32
few_range m few = omega (arith, first_few m.y.cells m.b.cells, few.range)

module _ (p : ℕ) (field : IsField p) where
  pub found : (m : PairMap) → ((fault : Fault) × RefusesPairMap p m fault) ⊎ IsAllowed (RefusesPairMap p) m
  found m = ⊎_elim
      (λ more. inl (Limit Cells most_cells, inl (more, refl)))
      (λ few. ⊎_elim
      (λ (fault, r). inl (fault, inr (few, r)))
      (λ none. inr (allowed p m few none))
      (refusal_or_none p m.map.named m.x.cells m.a.cells m.y.cells m.b.cells field (omega (arith, cells_counted (range_of m), few.range))))
      (many_or_few m)

  pub alike : (m : PairMap) (f g : Fault) → RefusesPairMap p m f → RefusesPairMap p m g → without_chain f ≡ without_chain g
  alike m f g (inl r) (inl s) = ap without_chain (r.1 ∙ sym s.1)
  alike m f g (inl r) (inr s) = absurd (never_both m r.0 s.0)
  alike m f g (inr r) (inl s) = absurd (never_both m s.0 r.0)
  alike m f g (inr r) (inr s) = refusals_alike p m.map.named m.x.cells m.a.cells m.y.cells m.b.cells field.above_one f g r.1 s.1

  pub before : (m : PairMap) (fault : Fault) → RefusesPairMap p m fault → status_of fault ≢ statuses.Write
  before m fault (inl r) e = limit_never_writes (sym (ap status_of r.1) ∙ e)
  before m fault (inr r) e = map_never_writes (sym (refusal_status p m.map.named m.x.cells m.a.cells m.y.cells m.b.cells fault r.1) ∙ e)
