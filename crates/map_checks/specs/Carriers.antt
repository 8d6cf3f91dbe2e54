-- A map with acyclic values on a domain, as it is kept; and of one dimension.
use Rattle.std.specs.Prelude.{◌≡◌, ℕ, List, length, true, ◌&&◌}
use Rattle.std.specs.List.{Contains}
use Rattle.std.specs.List.Sorted.{IsStrictlySortedBy}
use Rattle.elem_cubes.specs.Cells.{Factor}
use Rattle.elem_cubes.specs.Order.{cell_cmp}
use Rattle.cube_sets.specs.Sets.{Members, dimensions_agree}
use Rattle.cube_sets.specs.Closures.{cells_of}
use Rattle.cube_sets.specs.Neighbours.{are_full}
use Rattle.cell_complex.specs.Sorted.{IsSortedCells}
use Rattle.cube_maps.specs.CubeMaps.{Naming, Mapping}
use Rattle.acyclic_values.specs.CarriedMaps.{IsAcyclicMap}
use Rattle.map_checks.specs.Faults.{AreNamed}

-- a map, the cubes of its domain and of its range in order, and the dimension of all three
pub record Carrying : Type 0 where
  pub dimension : ℕ
  pub map : List Naming
  pub domain : List (List Factor)
  pub range : List (List Factor)

-- the map names the cubes of the domain, goes into the range, and has acyclic values; the cells of
-- both are in order, and few
pub record IsCarrier (p : ℕ) (c : Carrying) : Type 0 where
  pub acyclic : IsAcyclicMap p c.map c.domain c.range
  pub named : AreNamed c.map c.domain
  pub domain : IsStrictlySortedBy cell_cmp c.domain
  pub domain_cells : IsSortedCells (cells_of c.domain)
  pub range_cells : IsSortedCells (cells_of c.range)
  pub dimension : (q : List Factor) → Contains c.domain q → length q ≡ c.dimension
  pub range_dimension : (q : List Factor) → Contains c.range q → length q ≡ c.dimension

-- all cubes of the sets are full, and all known dimensions of the map and of the sets are equal
pub record AreOfOneDimension (map : Mapping) (x a y b : Members) : Type 0 where
  pub full : (are_full x.cells && are_full a.cells && are_full y.cells && are_full b.cells) ≡ true
  pub map_x : dimensions_agree map.dimension x.dimension ≡ true
  pub map_a : dimensions_agree map.dimension a.dimension ≡ true
  pub map_y : dimensions_agree map.dimension y.dimension ≡ true
  pub map_b : dimensions_agree map.dimension b.dimension ≡ true
  pub x_a : dimensions_agree x.dimension a.dimension ≡ true
  pub x_y : dimensions_agree x.dimension y.dimension ≡ true
  pub x_b : dimensions_agree x.dimension b.dimension ≡ true
  pub a_y : dimensions_agree a.dimension y.dimension ≡ true
  pub a_b : dimensions_agree a.dimension b.dimension ≡ true
  pub y_b : dimensions_agree y.dimension b.dimension ≡ true
