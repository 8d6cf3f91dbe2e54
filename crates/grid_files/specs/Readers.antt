-- What a reader of set files keeps of a reading, and what its calls do.
use Rattle.std.specs.Prelude.{◌≡◌, ◌≤◌, List, length, Option, None, Some, Result, Ok, Err}
use Rattle.elem_cubes.specs.Cells.{Factor}
use Rattle.elem_cubes.specs.Order.{cell_cmp}
use Rattle.cube_sets.specs.Sorted.{has}
use Rattle.cube_sets.specs.Sets.{Members, IsCubeSet}
use Rattle.grid_files.specs.declared.fault.TextCause.{TextCause}
use Rattle.cube_sets.specs.declared.fault.TheConstants.{CUBES}
use Rattle.grid_files.specs.declared.gathered.Gathered.{Gathered}
use Rattle.grid_files.specs.declared.gathered.Refusal.{Refusal}
use Rattle.grid_files.specs.declared.gathered.Refusal.TheVariants as refusals

-- these are the dimension and the members of the set, in some order, and maybe more than once
pub record IsGathered (gathered : Gathered) (set : Members) : Type 0 where
  pub dimension : gathered.dimension ≡ set.dimension
  pub members : (c : List Factor) → has cell_cmp gathered.cells c ≡ has cell_cmp set.cells c
  pub is_set : IsCubeSet set
  pub few : length set.cells ≤ CUBES

-- the set is changed as told, or refused with the cause
abbrev pub Joins : Option TextCause → Members → Gathered → Result (Unit {0}) Refusal → Type 0
Joins why set now (Ok _) = (why ≡ None) × IsGathered now set
Joins why set now (Err (refusals.Cause cause)) = why ≡ Some cause
Joins why set now (Err refusals.NoMemory) = Unit {0}
