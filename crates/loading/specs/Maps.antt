-- Maps of files.
use Rattle.std.specs.Prelude.{◌≡◌, ℕ, List, Option, None, Some, Result, Ok, Err}
use Rattle.cube_maps.specs.CubeMaps.{Mapping}
use Rattle.map_files.specs.MapFile.{HasValue, IsRefusedAt}
use Rattle.grid_files.specs.declared.fault.TextCause.{TextCause}
use Rattle.faults.specs.declared.cause.Cause.{Cause}
use Rattle.faults.specs.declared.fault.Fault.{Fault}
use Rattle.faults.specs.declared.fault.Fault.TheVariants.{BadText, Limit}
use Rattle.faults.specs.declared.limit_name.LimitName.TheVariants.{MapPairs}
use Rattle.loading.specs.Steps.{Then}
use Rattle.loading.specs.Readings.{Reading, Finds, file_bytes}
use Rattle.loading.specs.Sets.{told_cause}

abbrev pub most_pairs : ℕ
most_pairs = 1048576

abbrev pub at_map_place : List ℕ → ℕ → Option Cause → Fault
at_map_place name place (Some cause) = BadText name place cause
at_map_place name place None = Limit MapPairs most_pairs

-- the refusal of a text: its place and cause, but too many cubes or pairs are told as the limit
-- that they pass
abbrev pub map_fault : List ℕ → ℕ → TextCause → Fault
map_fault name place cause = at_map_place name place (told_cause cause)

-- the map of a text, by the grammar of map files
abbrev pub IsMapOf : List ℕ → List ℕ → Result Mapping Fault → Type 0
IsMapOf name text (Ok map) = HasValue text map
IsMapOf name text (Err fault) =
    (place : ℕ) × (cause : TextCause) × IsRefusedAt text place cause
    × (fault ≡ map_fault name place cause)

-- the map of a file: its reading, and then its text
abbrev pub IsMapIn : List ℕ → Reading → Result Mapping Fault → Type 0
IsMapIn name read = Then (Finds read file_bytes name) (IsMapOf name)
