-- A map of pairs, as the laws of witnesses are told of it.
use Rattle.std.specs.Prelude.{List, [], ◌∷◌, Some}
use Rattle.elem_cubes.specs.Cells.{Factor}
use Rattle.pair_maps.specs.declared.inputs.PairMap.{PairMap}
use Rattle.witness_laws.specs.Inputs.{Given, Target, value_cells}
use Rattle.witness_types.specs.Inputs.{first_known}

-- the map, and the pair to which it goes
abbrev pub target_of_map : PairMap → Target
target_of_map m = record { map = m.map.named; y = m.y.cells; b = m.b.cells }

abbrev pub given_of_map : PairMap → Given
given_of_map m = record {
  top = first_known (m.map.dimension ∷ m.x.dimension ∷ m.a.dimension ∷ m.y.dimension
      ∷ m.b.dimension ∷ []);
  x = m.x.cells;
  a = m.a.cells;
  target = Some (target_of_map m);
}

-- the value at a cell of the domain
abbrev pub value_of : PairMap → List Factor → List (List Factor)
value_of m s = value_cells (target_of_map m) m.x.cells m.a.cells s
