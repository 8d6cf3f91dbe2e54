-- What is promised of a report on a map of pairs.
use Rattle.std.specs.Prelude.{◌≡◌, ◌⊎◌, ℕ, Bool, Result, Ok, Err}
use Rattle.faults.specs.declared.fault.Fault.{Fault}
use Rattle.faults.specs.declared.fault.Fault.TheVariants.{OutOfMemory}
use Rattle.loading.specs.Jobs.{IsAllowed}
use Rattle.report.specs.declared.map_report.MapReport.{MapReport}
use Rattle.pair_maps.specs.declared.inputs.PairMap.{PairMap}
use Rattle.map_homology.specs.Right.{IsRightMap}
use Rattle.map_homology.specs.Refusals.{RefusesMapHomology}

-- a right report, where nothing refuses the map; else what refuses it, or that memory ran out
abbrev pub IsReported : ℕ → Bool → PairMap → Result MapReport Fault → Type 0
IsReported p wanted m (Ok report) =
    IsRightMap p wanted m report × IsAllowed (RefusesMapHomology p wanted) m
IsReported p wanted m (Err fault) = RefusesMapHomology p wanted m fault ⊎ (fault ≡ OutOfMemory)
