-- Parts that were read, as values of the form, and what they must be before their laws are tested.
use Rattle.std.specs.Prelude.{ℕ, map, IfSome}
use Rattle.witness_laws.specs.Formats.{MeetsFirst}
use Rattle.witness_laws.specs.Inputs.{Given}
use Rattle.witness_laws.specs.Tables.{Tables, MapTables, IsTables, tables_format}
use Rattle.witness_types.specs.Parts.{pair_tables, read, IsInOrder}
use Rattle.witness_types.specs.Rows.{rows_of}
use Rattle.read_parts.specs.declared.parts.ReadMap.{ReadMap}
use Rattle.read_parts.specs.declared.parts.Parts.{Parts}

-- what was read of a map
abbrev pub read_tables : {p : ℕ} → ℕ → ReadMap p → MapTables
read_tables top m = record {
  range = pair_tables top m.range;
  vertices = m.vertices.items;
  fillings = map (λ v. v.items) m.contractions.items;
  images = m.images.items;
  matrices = map rows_of m.rows.items;
}

-- all that was read
abbrev pub parts_value : {p : ℕ} → Given → Parts p → Tables
parts_value G parts = record {
  domain = pair_tables G.top parts.domain;
  map = read (read_tables G.top) parts.map;
}

-- the parts are a value of the form, which fails by no law of the first pass, and their cycles
-- stand by degree
pub record AreTestable {p : ℕ} (G : Given) (parts : Parts p) : Type 0 where
  pub fits : IsTables p G (parts_value G parts)
  pub first : MeetsFirst (tables_format p G) (parts_value G parts)
  pub order : IsInOrder G.top parts.domain
  pub range_order : IfSome parts.map (λ m. IsInOrder G.top m.range)
