-- The jobs of this crate are judged in one way.
use Rattle.std.proofs.Common.{◌≡◌, ◌≢◌, ◌⊎◌, inl, inr, ⊎_elim, ℕ, List, refl, sym, ap, ◌∙◌, arith, Bool}
use Rattle.std.proofs.lemmas.Bool.{cases_lt}
use Rattle.field_mod.specs.Moduli.{IsModulus}
use Rattle.field_mod.proofs.Table.{is_field}
use Rattle.faults.specs.declared.fault.Fault.{Fault}
use Rattle.faults.specs.declared.fault.Fault.TheVariants.{Limit}
use Rattle.faults.specs.declared.limit_name.LimitName.TheVariants.{Cells, WitnessCells, CarrierSize}
use Rattle.faults.specs.Statuses.{status_of, without_chain}
use Rattle.faults.specs.declared.status.Status.TheVariants as statuses
use Rattle.loading.specs.Jobs.{IsAllowed, HasOneJudgement}
use Rattle.loading.proofs.Judging.{judged_once}
use Rattle.pair_maps.specs.declared.inputs.PairMap.{PairMap}
use Rattle.pair_maps.specs.Moduli.{modulus_of}
use Rattle.pair_maps.specs.Refusals.{most_cells}
use Rattle.pair_maps.proofs.Files.{map_of_files}
use Rattle.pair_maps.proofs.Judging as pairs
use Rattle.pair_maps.proofs.Moduli.{modulus_listed}
use Rattle.map_homology.specs.declared.map_job.MapJob.{MapJob}
use Rattle.map_homology.proofs.Judging as homologies
use Rattle.witness_limits.specs.Limits.{most_witness_cells, most_carried, domain_count, range_count, carrier_size, HasTooMany}
use Rattle.witness_limits.specs.Maps.{given_of_map}
use Rattle.map_witness.specs.Refusals.{IsHuge, IsPossible, IsSmall, RefusesCells, RefusesLimits, IsWithinLimits, RefusesMapWitness}
use Rattle.map_witness.specs.Jobs.{map_witness_task}
use Rattle.map_witness.proofs.Limiting.{no_cells_refuse, no_limits_refuse, witness_allowed}

limit_never_writes : statuses.Limit ≡ statuses.Write → ⊥
limit_never_writes e = cc

huge_or_possible : (m : PairMap) → IsHuge m ⊎ IsPossible m
huge_or_possible m = ⊎_elim
    (λ more. inl (inl more))
    (λ few. ⊎_elim (λ more. inl (inr more)) (λ also. inr (record { domain = few; range = also })) (cases_lt most_cells (range_count (given_of_map m))))
    (cases_lt most_cells (domain_count (given_of_map m)))

many_or_few : (m : PairMap) → HasTooMany (given_of_map m) ⊎ IsSmall m
many_or_few m = ⊎_elim
    (λ more. inl (inl more))
    (λ few. ⊎_elim (λ more. inl (inr more)) (λ also. inr (record { domain = few; range = also })) (cases_lt most_witness_cells (range_count (given_of_map m))))
    (cases_lt most_witness_cells (domain_count (given_of_map m)))

never_both : (m : PairMap) → IsHuge m → IsPossible m → ⊥
never_both m (inl more) few = omega (arith, more, few.domain)
never_both m (inr more) few = omega (arith, more, few.range)

cells_found : (m : PairMap) → ((fault : Fault) × RefusesCells m fault) ⊎ IsSmall m
cells_found m = ⊎_elim
    (λ more. inl (Limit Cells most_cells, inl (more, refl)))
    (λ few. ⊎_elim
    (λ more. inl (Limit WitnessCells most_witness_cells, inr (few, more, refl)))
    (λ small. inr small)
    (many_or_few m))
    (huge_or_possible m)

cells_alike : (m : PairMap) (f g : Fault) → RefusesCells m f → RefusesCells m g → without_chain f ≡ without_chain g
cells_alike m f g (inl r) (inl s) = ap without_chain (r.1 ∙ sym s.1)
cells_alike m f g (inl r) (inr s) = absurd (never_both m r.0 s.0)
cells_alike m f g (inr r) (inl s) = absurd (never_both m s.0 r.0)
cells_alike m f g (inr r) (inr s) = ap without_chain (r.2 ∙ sym s.2)

cells_before : (m : PairMap) (fault : Fault) → RefusesCells m fault → status_of fault ≢ statuses.Write
cells_before m fault (inl r) e = limit_never_writes (sym (ap status_of r.1) ∙ e)
cells_before m fault (inr r) e = limit_never_writes (sym (ap status_of r.2) ∙ e)

module _ (p : ℕ) (is_modulus : IsModulus p) where
  limits_found : (m : PairMap) → ((fault : Fault) × RefusesLimits p m fault) ⊎ IsWithinLimits p m
  limits_found m = ⊎_elim
      (λ (fault, r). inl (fault, inl r))
      (λ small. ⊎_elim
      (λ (fault, r). inl (fault, inr (inl (small, r))))
      (λ none. ⊎_elim
      (λ more. inl (Limit CarrierSize most_carried, inr (inr (small, record { allowed = none; more = more }, refl))))
      (λ few. inr (record { small = small; allowed = none; size = few }))
      (cases_lt most_carried (carrier_size (given_of_map m))))
      (pairs.found p (is_field p is_modulus) m))
      (cells_found m)

  limits_alike : (m : PairMap) (f g : Fault) → RefusesLimits p m f → RefusesLimits p m g → without_chain f ≡ without_chain g
  limits_alike m f g (inl r) (inl s) = cells_alike m f g r s
  limits_alike m f g (inl r) (inr (inl s)) = absurd (no_cells_refuse m s.0 f r)
  limits_alike m f g (inl r) (inr (inr s)) = absurd (no_cells_refuse m s.0 f r)
  limits_alike m f g (inr (inl r)) (inl s) = absurd (no_cells_refuse m r.0 g s)
  limits_alike m f g (inr (inr r)) (inl s) = absurd (no_cells_refuse m r.0 g s)
  limits_alike m f g (inr (inl r)) (inr (inl s)) = pairs.alike p (is_field p is_modulus) m f g r.1 s.1
  limits_alike m f g (inr (inl r)) (inr (inr (t, large, e))) = absurd (large.allowed f r.1)
  limits_alike m f g (inr (inr (t, large, e))) (inr (inl s)) = absurd (large.allowed g s.1)
  limits_alike m f g (inr (inr r)) (inr (inr s)) = ap without_chain (r.2 ∙ sym s.2)

  limits_before : (m : PairMap) (fault : Fault) → RefusesLimits p m fault → status_of fault ≢ statuses.Write
  limits_before m fault (inl r) e = cells_before m fault r e
  limits_before m fault (inr (inl r)) e = pairs.before p (is_field p is_modulus) m fault r.1 e
  limits_before m fault (inr (inr r)) e = limit_never_writes (sym (ap status_of r.2) ∙ e)

  module _ (wanted : Bool) where
    found : (m : PairMap) → ((fault : Fault) × RefusesMapWitness p wanted m fault) ⊎ IsAllowed (RefusesMapWitness p wanted) m
    found m = ⊎_elim
        (λ (fault, r). inl (fault, inl r))
        (λ within. ⊎_elim
        (λ (fault, r). inl (fault, inr (within, r)))
        (λ none. inr (witness_allowed p m within wanted none))
        (homologies.found p is_modulus wanted m))
        (limits_found m)

    alike : (m : PairMap) (f g : Fault) → RefusesMapWitness p wanted m f → RefusesMapWitness p wanted m g → without_chain f ≡ without_chain g
    alike m f g (inl r) (inl s) = limits_alike m f g r s
    alike m f g (inl r) (inr s) = absurd (no_limits_refuse p m s.0 f r)
    alike m f g (inr r) (inl s) = absurd (no_limits_refuse p m r.0 g s)
    alike m f g (inr r) (inr s) = homologies.alike p is_modulus wanted m f g r.1 s.1

    before : (m : PairMap) (fault : Fault) → RefusesMapWitness p wanted m fault → status_of fault ≢ statuses.Write
    before m fault (inl r) = limits_before m fault r
    before m fault (inr r) = homologies.before p is_modulus wanted m fault r.1

pub map_witness_once : (job : MapJob) (file : List ℕ) → HasOneJudgement (map_witness_task job file).job
unfolding map_witness_task
map_witness_once job file = judged_once (map_witness_task job file).job (record {
  files = map_of_files job.files;
  found = found (modulus_of job.modulus) (modulus_listed job.modulus) job.index;
  alike = alike (modulus_of job.modulus) (modulus_listed job.modulus) job.index;
  before = before (modulus_of job.modulus) (modulus_listed job.modulus) job.index;
})
