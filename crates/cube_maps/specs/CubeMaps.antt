-- Maps that send full cubes to sets of full cubes: combinatorial multivalued maps. (Kaczynski,
-- Mischaikow, Mrozek:
-- Computational Homology, Springer 2004, section 5.4)
use Rattle.std.specs.Prelude.{◌≡◌, ℕ, ◌≤◌, List, [], ◌∷◌, length, map, Bool, true, false, ◌||◌, ◌&&◌, if◌then◌else◌}
use Rattle.std.specs.List.{list_all, flat_map, AllByRecursion}
use Rattle.std.specs.List.Sorted.{IsStrictlySortedBy}
use Rattle.elem_cubes.specs.Range.{most_factors}
use Rattle.elem_cubes.specs.Cells.{Factor, is_wide, same_cell}
use Rattle.elem_cubes.specs.Order.{cell_cmp}
use Rattle.cube_sets.specs.Sets.{is_member}
use Rattle.cube_maps.specs.declared.parts.TheConstants.{MAP_PAIRS}

-- a named cube and its value
pub record Naming : Type 0 where
  pub cube : List Factor
  pub value : List (List Factor)

-- a map as callers see it: its dimension, 0 where that is unknown, and the named cubes in order,
-- each with its value in order
pub record Mapping : Type 0 where
  pub dimension : ℕ
  pub named : List Naming

-- the map names the cube
abbrev pub names : List Naming → List Factor → Bool
names [] q = false
names (e ∷ es) q = same_cell e.cube q || names es q

-- the value of a cube; it is empty where the map does not name the cube
abbrev pub value_of : List Naming → List Factor → List (List Factor)
value_of [] q = []
value_of (e ∷ es) q = if same_cell e.cube q then e.value else value_of es q

-- the named cubes, and all values one after the other: one for each pair of a cube and a cube of
-- its value
abbrev pub cubes_of : List Naming → List (List Factor)
cubes_of named = map (λ e. e.cube) named

abbrev pub pairs_of : List Naming → List (List Factor)
pairs_of named = flat_map (λ e. e.value) named

-- the full cubes of this dimension in the range of the files
abbrev pub is_full_member : ℕ → List Factor → Bool
is_full_member dimension q = is_member dimension q && list_all is_wide q

abbrev pub is_naming : ℕ → Naming → Bool
is_naming dimension e =
    is_full_member dimension e.cube && list_all (is_full_member dimension) e.value

-- the most named cubes of a map, and the most pairs of a cube and a cube of its value
abbrev pub most_pairs : ℕ
most_pairs = 1048576

-- the program's limit is that number
abbrev pub LimitIsOfTheFormats : Type 0
LimitIsOfTheFormats = MAP_PAIRS ≡ most_pairs

-- named cubes and value cubes are full, of the dimension of the map and in the range of files;
-- named cubes are distinct and in order, and so are those of each value; there are not too many of
-- either
pub record IsCubeMap (m : Mapping) : Type 0 where
  pub axes : m.dimension ≤ most_factors
  pub unknown : m.dimension ≡ 0 → m.named ≡ []
  pub alike : list_all (is_naming m.dimension) m.named ≡ true
  pub sorted : IsStrictlySortedBy cell_cmp (cubes_of m.named)
  pub sorted_values : AllByRecursion (λ (e : Naming). IsStrictlySortedBy cell_cmp e.value) m.named
  pub few : length m.named ≤ most_pairs
  pub few_pairs : length (pairs_of m.named) ≤ most_pairs
