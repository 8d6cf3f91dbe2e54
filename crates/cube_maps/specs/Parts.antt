-- A map by its parts: the cubes that it names, and the pairs of a cube and a cube of its value.
use Rattle.std.specs.Prelude.{List, [], ◌∷◌, map, Bool, ◌&&◌, if◌then◌else◌}
use Rattle.std.specs.List.{list_any}
use Rattle.std.specs.Ordering.{on, then_cmp}
use Rattle.std.specs.declared.cmp.Ordering.{Ordering}
use Rattle.elem_cubes.specs.Cells.{Factor, same_cell}
use Rattle.elem_cubes.specs.Order.{cell_cmp}
use Rattle.cube_maps.specs.CubeMaps.{Naming}
use Rattle.cube_maps.specs.declared.pair.Pair.{Pair}

-- the cube and the value are one of the pairs
abbrev pub is_pair : List Pair → List Factor → List Factor → Bool
is_pair ps q v = list_any (λ p. same_cell p.cube q && same_cell p.value v) ps

-- the values that pairs give a cube
abbrev pub values_in : List Pair → List Factor → List (List Factor)
values_in [] q = []
values_in (p ∷ ps) q = if same_cell p.cube q then p.value ∷ values_in ps q else values_in ps q

-- the values that the first of some pairs give the cube, up to a pair of another cube, and the
-- pairs from that one on
abbrev pub first_values : List Pair → List Factor → List (List Factor)
first_values [] q = []
first_values (p ∷ ps) q = if same_cell p.cube q then p.value ∷ first_values ps q else []

abbrev pub other_pairs : List Pair → List Factor → List Pair
other_pairs [] q = []
other_pairs (p ∷ ps) q = if same_cell p.cube q then other_pairs ps q else p ∷ ps

-- the order of pairs: by cube, then by value
abbrev pub pair_cmp : Pair → Pair → Ordering
pair_cmp = then_cmp (on (λ p. p.cube) cell_cmp) (on (λ p. p.value) cell_cmp)

-- the cubes, each with the values that the pairs give it
abbrev pub namings_in : List (List Factor) → List Pair → List Naming
namings_in qs ps = map (λ q. record { cube = q; value = values_in ps q }) qs
