-- The inputs and the values of pairs and of maps, by their sets and parts.
use Rattle.std.specs.Prelude.{ℕ, [], ◌∷◌, None, Some}
use Rattle.cube_sets.specs.Sets.{Members}
use Rattle.cube_maps.specs.CubeMaps.{Mapping}
use Rattle.witness_laws.specs.Inputs.{Given}
use Rattle.witness_laws.specs.Tables.{Tables}
use Rattle.witness_types.specs.Inputs.{first_known}
use Rattle.witness_types.specs.Parts.{pair_tables}
use Rattle.witness_types.specs.declared.part.PairPart.{PairPart}
use Rattle.read_parts.specs.declared.parts.ReadMap.{ReadMap}
use Rattle.read_parts.specs.declared.parts.Parts.{Parts}
use Rattle.read_parts.specs.Values.{read_tables}

-- a pair
abbrev pub pair_given : Members → Members → Given
pair_given x a = record {
  top = first_known (x.dimension ∷ a.dimension ∷ []);
  x = x.cells;
  a = a.cells;
  target = None;
}

-- a map, and the pairs between which it goes
abbrev pub map_given : Mapping → Members → Members → Members → Members → Given
map_given map x a y b = record {
  top = first_known (map.dimension ∷ x.dimension ∷ a.dimension ∷ y.dimension ∷ b.dimension ∷ []);
  x = x.cells;
  a = a.cells;
  target = Some (record { map = map.named; y = y.cells; b = b.cells });
}

-- the parts of a pair, and of a map
abbrev pub pair_parts : {p : ℕ} → PairPart p → Parts p
pair_parts part = record { domain = part; map = None }

abbrev pub map_parts : {p : ℕ} → PairPart p → ReadMap p → Parts p
map_parts part m = record { domain = part; map = Some m }

-- what was read of a map, as a value
abbrev pub map_value : {p : ℕ} → ℕ → PairPart p → ReadMap p → Tables
map_value top part m = record { domain = pair_tables top part; map = Some (read_tables top m) }
