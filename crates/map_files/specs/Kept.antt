-- The distinct cubes and pairs of a map while it is read, in the order in which they came.
use Rattle.std.specs.Prelude.{◌≡◌, List, [], ◌∷◌, ◌++◌, length, Bool, ◌&&◌, if◌then◌else◌}
use Rattle.std.specs.List.{list_any, AllByRecursion}
use Rattle.std.specs.List.Sorted.{IsStrictlySortedBy}
use Rattle.elem_cubes.specs.Cells.{Factor, same_cell}
use Rattle.elem_cubes.specs.Order.{cell_cmp}
use Rattle.cube_sets.specs.Sorted.{has}
use Rattle.cube_maps.specs.CubeMaps.{Naming, value_of, cubes_of, pairs_of}
use Rattle.cube_maps.specs.Parts.{is_pair}
use Rattle.cube_maps.specs.declared.pair.Pair.{Pair}

-- the cubes, and the pairs of a cube and a cube of its value
pub record MapParts : Type 0 where
  pub cubes : List (List Factor)
  pub pairs : List Pair

abbrev pub same_pair : Pair → Pair → Bool
same_pair p x = same_cell p.cube x.cube && same_cell p.value x.value

-- one more cube, or pair, where it is not there
abbrev pub with_cube : List Factor → List (List Factor) → List (List Factor)
with_cube q cubes = if list_any (same_cell q) cubes then cubes else cubes ++ q ∷ []

abbrev pub with_pair : Pair → List Pair → List Pair
with_pair p pairs = if list_any (same_pair p) pairs then pairs else pairs ++ p ∷ []

-- these are the named cubes and their pairs, in some order
pub record IsKept (parts : MapParts) (named : List Naming) : Type 0 where
  pub cubes : (c : List Factor) → has cell_cmp parts.cubes c ≡ has cell_cmp (cubes_of named) c
  pub pairs : (c w : List Factor) → is_pair parts.pairs c w ≡ has cell_cmp (value_of named c) w
  pub count : length parts.cubes ≡ length named
  pub pair_count : length parts.pairs ≡ length (pairs_of named)
  pub sorted : IsStrictlySortedBy cell_cmp (cubes_of named)
  pub sorted_values : AllByRecursion (λ (e : Naming). IsStrictlySortedBy cell_cmp e.value) named
