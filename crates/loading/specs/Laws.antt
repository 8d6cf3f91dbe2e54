-- What the numbers of refusals are, in every run, also where files tell nothing.
use Rattle.std.specs.Prelude.{◌≡◌, ◌⊎◌, ℕ, List, Option, Ok, Err, false}
use Rattle.cube_sets.specs.Sets.{Members, dimensions_agree}
use Rattle.grid_files.specs.declared.fault.Kind.{Kind}
use Rattle.grid_files.specs.declared.fault.Kind.TheVariants.{Any}
use Rattle.faults.specs.declared.fault.Fault.TheVariants.{Dimension, Limit}
use Rattle.faults.specs.declared.limit_name.LimitName.{LimitName}
use Rattle.faults.specs.declared.limit_name.LimitName.TheVariants.{FileBytes, Cubes}
use Rattle.loading.specs.Readings.{Reading, file_bytes}
use Rattle.loading.specs.Sets.{IsSetIn, IsSubsetIn, most_cubes}
use Rattle.loading.specs.TwoSets.{second_name, AreTwoSetsIn}

-- a limit that a file of a set passes is that of its bytes or that of its members, with its number
abbrev pub LimitsOfSets : Type 0
LimitsOfSets = (kind : Kind) (name : List ℕ) (read : Reading) (count : LimitName) (number : ℕ)
    → IsSetIn kind name read (Err (Limit count number))
    → ((count ≡ FileBytes) × (number ≡ file_bytes)) ⊎ ((count ≡ Cubes) × (number ≡ most_cubes))

-- a dimension that is refused is that of a set of the second file beside that of a set of the
-- first, from which it differs
abbrev pub DimensionsOfSets : Type 0
DimensionsOfSets =
    (x : List ℕ) (y : Option (List ℕ)) (read : Reading) (name : List ℕ) (found before : ℕ)
    → AreTwoSetsIn x y read (Err (Dimension name found before))
    → (name ≡ second_name x y) × (s : Members) × (t : Members) × IsSetIn Any x read (Ok s)
    × IsSubsetIn Any y read (Ok t)
    × (found ≡ t.dimension) × (before ≡ s.dimension) × (dimensions_agree before found ≡ false)
