-- What refuses a map of pairs whose witness is wanted.
use Rattle.std.specs.Prelude.{◌≡◌, ◌⊎◌, ◌<◌, ◌≤◌, ℕ, Bool}
use Rattle.faults.specs.declared.fault.Fault.{Fault}
use Rattle.faults.specs.declared.fault.Fault.TheVariants.{Limit}
use Rattle.faults.specs.declared.limit_name.LimitName.TheVariants.{Cells, WitnessCells, CarrierSize}
use Rattle.loading.specs.Jobs.{IsAllowed}
use Rattle.pair_maps.specs.declared.inputs.PairMap.{PairMap}
use Rattle.pair_maps.specs.Refusals.{most_cells, RefusesPairMap}
use Rattle.map_homology.specs.Refusals.{RefusesMapHomology}
use Rattle.witness_limits.specs.Limits.{most_witness_cells, most_carried, domain_count, range_count, carrier_size, HasTooMany, HasFew}
use Rattle.witness_limits.specs.Maps.{given_of_map}

-- ---- cells

-- the domain or the range has more cells than any map may have
abbrev pub IsHuge : PairMap → Type 0
IsHuge m = (most_cells < domain_count (given_of_map m)) ⊎ (most_cells < range_count (given_of_map m))

pub record IsPossible (m : PairMap) : Type 0 where
  pub domain : domain_count (given_of_map m) ≤ most_cells
  pub range : range_count (given_of_map m) ≤ most_cells

-- neither has more cells than those whose chains a witness names
abbrev pub IsSmall : PairMap → Type 0
IsSmall m = HasFew (given_of_map m)

-- too many cells, as without a witness, and then too many for a witness
abbrev pub RefusesCells : PairMap → Fault → Type 0
RefusesCells m fault = (IsHuge m × (fault ≡ Limit Cells most_cells))
    ⊎ (IsPossible m × HasTooMany (given_of_map m)
    × (fault ≡ Limit WitnessCells most_witness_cells))

-- ---- values

-- nothing refuses the map as one of pairs, and its values are too large
pub record IsTooLarge (p : ℕ) (m : PairMap) : Type 0 where
  pub allowed : IsAllowed (RefusesPairMap p) m
  pub more : most_carried < carrier_size (given_of_map m)

-- ---- all of them, in order

-- the cells; then what refuses the map as one of pairs; and then the size of its values
abbrev pub RefusesLimits : ℕ → PairMap → Fault → Type 0
RefusesLimits p m fault = RefusesCells m fault
    ⊎ (IsSmall m × RefusesPairMap p m fault)
    ⊎ (IsSmall m × IsTooLarge p m × (fault ≡ Limit CarrierSize most_carried))

-- the limits of a witness are kept, and nothing refuses the map as one of pairs
pub record IsWithinLimits (p : ℕ) (m : PairMap) : Type 0 where
  pub small : IsSmall m
  pub allowed : IsAllowed (RefusesPairMap p) m
  pub size : carrier_size (given_of_map m) ≤ most_carried

-- .. and then what refuses the matrices, and the index part where it is wanted
abbrev pub RefusesMapWitness : ℕ → Bool → PairMap → Fault → Type 0
RefusesMapWitness p wanted m fault = RefusesLimits p m fault
    ⊎ (IsWithinLimits p m × RefusesMapHomology p wanted m fault)
