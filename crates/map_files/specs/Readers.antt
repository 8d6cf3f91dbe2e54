-- What a reader of map files keeps of a reading, and what its calls do.
use Rattle.std.specs.Prelude.{◌≡◌, Option, None, Some, Result, Ok, Err}
use Rattle.cube_maps.specs.CubeMaps.{Mapping, IsCubeMap}
use Rattle.grid_files.specs.declared.fault.TextCause.{TextCause}
use Rattle.map_files.specs.Kept.{IsKept}
use Rattle.map_files.specs.declared.gathered.Gathered.{Gathered}
use Rattle.map_files.specs.declared.gathered.Refusal.{Refusal}
use Rattle.map_files.specs.declared.gathered.Refusal.TheVariants as refusals

-- these are the dimension, the cubes and the pairs of the map
pub record IsGathered (gathered : Gathered) (m : Mapping) : Type 0 where
  pub dimension : gathered.dimension ≡ m.dimension
  pub kept : IsKept gathered.parts m.named
  pub is_map : IsCubeMap m

-- the map is changed as told, or refused with the cause
abbrev pub Joins : Option TextCause → Mapping → Gathered → Result (Unit {0}) Refusal → Type 0
Joins why m now (Ok _) = (why ≡ None) × IsGathered now m
Joins why m now (Err (refusals.Cause cause)) = why ≡ Some cause
Joins why m now (Err refusals.NoMemory) = Unit {0}
