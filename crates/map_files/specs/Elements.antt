-- What a map becomes by an element, a cube with some values.
use Rattle.std.specs.Prelude.{List, [], ◌∷◌, length}
use Rattle.elem_cubes.specs.Cells.{Factor}
use Rattle.elem_cubes.specs.Order.{cell_cmp}
use Rattle.cube_sets.specs.Sorted.{by_order, inserted}
use Rattle.cube_maps.specs.CubeMaps.{Naming, Mapping}

-- a value with more cubes
abbrev pub joined : List (List Factor) → List (List Factor) → List (List Factor)
joined [] value = value
joined (v ∷ vs) value = joined vs (inserted cell_cmp v value)

-- the named cubes, where the value of the cube is changed; a cube that was not named has the empty
-- value before
abbrev pub changed : List Factor → (List (List Factor) → List (List Factor)) → List Naming
    → List Naming
changed q f [] = record { cube = q; value = f [] } ∷ []
changed q f (e ∷ es) = by_order (cell_cmp q e.cube)
    (record { cube = q; value = f [] } ∷ e ∷ es)
    (record { cube = e.cube; value = f e.value } ∷ es)
    (e ∷ changed q f es)

-- the map with an element, which gives it its dimension: the cube has these values beside those
-- that it had
abbrev pub with_element : Mapping → List Factor → List (List Factor) → Mapping
with_element m q vs = record { dimension = length q; named = changed q (joined vs) m.named }
