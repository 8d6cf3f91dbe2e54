-- Sets of cells of one embedding dimension.
use Rattle.std.specs.Prelude.{◌≡◌, ℕ, ◌<◌, ◌≤◌, ◌^◌, List, [], length, Bool, true, ◌==◌, ◌&&◌, ◌||◌}
use Rattle.std.specs.List.{list_all}
use Rattle.std.specs.List.Sorted.{IsStrictlySortedBy}
use Rattle.elem_cubes.specs.Range.{most_factors}
use Rattle.elem_cubes.specs.Cells.{Factor, is_file_factor}
use Rattle.elem_cubes.specs.Order.{cell_cmp}
use Rattle.cube_sets.specs.Sorted.{has}
use Rattle.cube_sets.specs.declared.fault.TheConstants.{CUBES}

-- a set as callers see it: its dimension, 0 where that is unknown, and its members in order
pub record Members : Type 0 where
  pub dimension : ℕ
  pub cells : List (List Factor)

-- a member of a set of this dimension: as many factors, each within the range of the files
abbrev pub is_member : ℕ → List Factor → Bool
is_member dimension q = length q == dimension && list_all is_file_factor q

-- the members are sorted, distinct, of the set's dimension, and not too many; a set of unknown
-- dimension is empty
pub record IsCubeSet (set : Members) : Type 0 where
  pub axes : set.dimension ≤ most_factors
  pub unknown : set.dimension ≡ 0 → set.cells ≡ []
  pub alike : list_all (is_member set.dimension) set.cells ≡ true
  pub sorted : IsStrictlySortedBy cell_cmp set.cells
  pub few : length set.cells < 2 ^ 32

-- the cell is a member
abbrev pub holds : Members → List Factor → Bool
holds set c = has cell_cmp set.cells c

-- the members of either set, and of both
abbrev pub IsUnion : Members → Members → Members → Type 0
IsUnion a b all = (c : List Factor) → holds all c ≡ (holds a c || holds b c)

abbrev pub IsIntersection : Members → Members → Members → Type 0
IsIntersection a b both = (c : List Factor) → holds both c ≡ (holds a c && holds b c)

-- the most distinct members of a set file, and of what a set tool gives
abbrev pub most_members : ℕ
most_members = 1048576

-- the program's limit is that number
abbrev pub LimitIsOfTheFormats : Type 0
LimitIsOfTheFormats = CUBES ≡ most_members

-- two dimensions are equal, or one of them is unknown
abbrev pub dimensions_agree : ℕ → ℕ → Bool
dimensions_agree a b = a == b || a == 0 || b == 0
