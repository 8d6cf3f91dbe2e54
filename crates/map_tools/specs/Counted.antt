-- What is promised of the test of the values of a map.
use Rattle.std.specs.Prelude.{◌≡◌, ◌⊎◌, ℕ, Result, Ok, Err}
use Rattle.cell_complex.specs.CellCount.{cell_count}
use Rattle.faults.specs.declared.fault.Fault.{Fault}
use Rattle.faults.specs.declared.fault.Fault.TheVariants.{OutOfMemory}
use Rattle.loading.specs.Jobs.{IsAllowed}
use Rattle.pair_maps.specs.declared.inputs.PairMap.{PairMap}
use Rattle.pair_maps.specs.Inputs.{domain_of}
use Rattle.pair_maps.specs.Refusals.{RefusesPairMap}

-- how many cells the domain has, where nothing refuses the map; else what refuses it, or that
-- memory ran out
abbrev pub IsCounted : ℕ → PairMap → Result ℕ Fault → Type 0
IsCounted p m (Ok count) = (count ≡ cell_count (domain_of m)) × IsAllowed (RefusesPairMap p) m
IsCounted p m (Err fault) = RefusesPairMap p m fault ⊎ (fault ≡ OutOfMemory)
