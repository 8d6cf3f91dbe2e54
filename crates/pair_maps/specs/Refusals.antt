-- What refuses a map of pairs: too many cells, or a fault of the map.
use Rattle.std.specs.Prelude.{◌≡◌, ◌<◌, ◌≤◌, ◌⊎◌, ℕ}
use Rattle.cell_complex.specs.CellCount.{cell_count}
use Rattle.map_checks.specs.Carriers.{Carrying, IsCarrier}
use Rattle.map_checks.specs.Faults.{HasNoSetFault}
use Rattle.faults.specs.declared.fault.Fault.{Fault}
use Rattle.faults.specs.declared.fault.Fault.TheVariants.{Limit}
use Rattle.faults.specs.declared.limit_name.LimitName.TheVariants.{Cells}
use Rattle.pair_maps.specs.declared.inputs.PairMap.{PairMap}
use Rattle.pair_maps.specs.Inputs.{domain_of, range_of, dimension_of_map}
use Rattle.pair_maps.specs.MapRefusals.{RefusesMap}

-- the most cells of the domain, and of the range
abbrev pub most_cells : ℕ
most_cells = 4194304

-- the domain or the range has more cells than there may be
abbrev pub HasTooMany : PairMap → Type 0
HasTooMany m = (most_cells < cell_count (domain_of m)) ⊎ (most_cells < cell_count (range_of m))

pub record HasFew (m : PairMap) : Type 0 where
  pub domain : cell_count (domain_of m) ≤ most_cells
  pub range : cell_count (range_of m) ≤ most_cells

-- the map is refused
abbrev pub RefusesMapOf : ℕ → PairMap → Fault → Type 0
RefusesMapOf p m = RefusesMap p m.map.named m.x.cells m.a.cells m.y.cells m.b.cells

-- too many cells of the domain or of the range, and then what refuses the map
abbrev pub RefusesPairMap : ℕ → PairMap → Fault → Type 0
RefusesPairMap p m fault = (HasTooMany m × (fault ≡ Limit Cells most_cells))
    ⊎ (HasFew m × RefusesMapOf p m fault)

-- c is the map with its whole domain and its whole range; nothing refuses it, and it has few cells
pub record IsCarrierOf (p : ℕ) (m : PairMap) (c : Carrying) : Type 0 where
  pub map : c.map ≡ m.map.named
  pub domain : c.domain ≡ domain_of m
  pub range : c.range ≡ range_of m
  pub dimension : c.dimension ≡ dimension_of_map m
  pub carrier : IsCarrier p c
  pub sets : HasNoSetFault m.map.named m.x.cells m.a.cells m.y.cells m.b.cells
  pub few : HasFew m
