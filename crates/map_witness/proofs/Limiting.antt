-- What refuses a map within the limits of a witness, step by step.
use Rattle.std.proofs.Common.{◌≡◌, ◌<◌, ◌≤◌, ◌⊎◌, inl, inr, ℕ, List, ◌++◌, length, arith, Bool}
use Rattle.elem_cubes.specs.Cells.{Factor}
use Rattle.cell_complex.specs.CellCount.{cell_count}
use Rattle.faults.specs.declared.fault.Fault.{Fault}
use Rattle.faults.specs.declared.fault.Fault.TheVariants.{Limit, OutOfMemory}
use Rattle.faults.specs.declared.limit_name.LimitName.TheVariants.{CarrierSize}
use Rattle.loading.specs.Jobs.{IsAllowed}
use Rattle.map_checks.specs.Faults.{together}
use Rattle.pair_maps.specs.declared.inputs.PairMap.{PairMap}
use Rattle.pair_maps.specs.Refusals.{most_cells, RefusesPairMap}
use Rattle.pair_maps.proofs.Cells.{cells_counted, count_together}
use Rattle.witness_laws.specs.Inputs.{all_cells}
use Rattle.witness_limits.specs.Limits.{most_witness_cells, most_carried, carrier_size, HasTooMany}
use Rattle.witness_limits.specs.Maps.{given_of_map}
use Rattle.map_homology.specs.Refusals.{RefusesMapHomology}
use Rattle.map_witness.specs.Refusals.{IsHuge, IsSmall, RefusesCells, RefusesLimits, IsWithinLimits, RefusesMapWitness}

-- all cells, as they are counted of both sets
pub counted_few : (x a : List (List Factor)) → length (all_cells x a) ≤ most_witness_cells → cell_count (x ++ a) ≤ most_cells
counted_few x a l = omega (arith, cells_counted (together x a), count_together x a, l)

-- ---- the limits, one after the other

module _ (p : ℕ) (m : PairMap) (fault : Fault) where
  pub cells_refused : RefusesCells m fault ⊎ (fault ≡ OutOfMemory) → RefusesLimits p m fault ⊎ (fault ≡ OutOfMemory)
  cells_refused (inl r) = inl (inl r)
  cells_refused (inr e) = inr e

  pub values_refused : IsSmall m → RefusesPairMap p m fault ⊎ (fault ≡ OutOfMemory) → RefusesLimits p m fault ⊎ (fault ≡ OutOfMemory)
  values_refused small (inl r) = inl (inr (inl (small, r)))
  values_refused small (inr e) = inr e

  pub size_refused : IsSmall m → IsAllowed (RefusesPairMap p) m → ((most_carried < carrier_size (given_of_map m)) × (fault ≡ Limit CarrierSize most_carried)) ⊎ (fault ≡ OutOfMemory)
      → RefusesLimits p m fault ⊎ (fault ≡ OutOfMemory)
  size_refused small none (inl r) = inl (inr (inr (small, record { allowed = none; more = r.0 }, r.1)))
  size_refused small none (inr e) = inr e

pub limits_refused : (p : ℕ) (wanted : Bool) (m : PairMap) (fault : Fault) → RefusesLimits p m fault ⊎ (fault ≡ OutOfMemory) → RefusesMapWitness p wanted m fault ⊎ (fault ≡ OutOfMemory)
limits_refused p wanted m fault (inl r) = inl (inl r)
limits_refused p wanted m fault (inr e) = inr e

-- ---- a map within the limits

never_huge : (m : PairMap) → IsSmall m → IsHuge m → ⊥
never_huge m small (inl more) = omega (arith, small.domain, more)
never_huge m small (inr more) = omega (arith, small.range, more)

never_many : (m : PairMap) → IsSmall m → HasTooMany (given_of_map m) → ⊥
never_many m small (inl more) = omega (arith, small.domain, more)
never_many m small (inr more) = omega (arith, small.range, more)

pub no_cells_refuse : (m : PairMap) → IsSmall m → IsAllowed RefusesCells m
no_cells_refuse m small fault (inl r) = never_huge m small r.0
no_cells_refuse m small fault (inr r) = never_many m small r.1

module _ (p : ℕ) (m : PairMap) (w : IsWithinLimits p m) where
  pub no_limits_refuse : IsAllowed (RefusesLimits p) m
  no_limits_refuse fault (inl r) = no_cells_refuse m w.small fault r
  no_limits_refuse fault (inr (inl r)) = w.allowed fault r.1
  no_limits_refuse fault (inr (inr (s, large, e))) = omega (arith, large.more, w.size)

  -- what is left to refuse it is what refuses its homology
  module _ (wanted : Bool) where
    pub homology_refused : (fault : Fault) → RefusesMapHomology p wanted m fault ⊎ (fault ≡ OutOfMemory) → RefusesMapWitness p wanted m fault ⊎ (fault ≡ OutOfMemory)
    homology_refused fault (inl r) = inl (inr (w, r))
    homology_refused fault (inr e) = inr e

    pub witness_allowed : IsAllowed (RefusesMapHomology p wanted) m → IsAllowed (RefusesMapWitness p wanted) m
    witness_allowed none fault (inl r) = no_limits_refuse fault r
    witness_allowed none fault (inr r) = none fault r.1
