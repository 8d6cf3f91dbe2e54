-- What a witness of a map of pairs has to be.
use Rattle.std.specs.Prelude.{◌≡◌, ℕ, ◌≤◌, List, [], slice_index_or}
use Rattle.elem_cubes.specs.Cells.{Factor}
use Rattle.homology_basis.specs.Bases.{in_degree}
use Rattle.basis_reports.specs.Right.{CyclesOver}
use Rattle.pair_maps.specs.declared.inputs.PairMap.{PairMap}
use Rattle.pair_maps.specs.Inputs.{dimension_of_map}
use Rattle.witness_laws.specs.Formats.{IsAccepted}
use Rattle.witness_laws.specs.Inputs.{all_cells}
use Rattle.witness_laws.specs.Tables.{PairTables, MapTables, tables_format}
use Rattle.witness_types.specs.declared.heading.ClaimKind.TheVariants as kinds
use Rattle.witness_types.specs.Headers.{IsHeader, body_of}
use Rattle.map_parts.specs.Maps.{map_value}
use Rattle.pair_witness.specs.Witnesses.{AreTheCycles}
use Rattle.witness_limits.specs.Maps.{given_of_map}

-- the bytes are a witness of the map modulo p with these cycles of its pairs and these matrices:
-- they begin with the header, and the lines behind it have a value that meets all laws of witness
-- files
pub record IsFileOfMap (p : ℕ) (m : PairMap) (domain range : CyclesOver (List Factor))
    (matrices : List (List (List ℕ))) (bytes : List ℕ) : Type 0 where
  pub header : IsHeader bytes (record { version = 1; modulus = p; kind = kinds.Map })
  pub tables : PairTables
  pub more : MapTables
  pub accepted : IsAccepted (tables_format p (given_of_map m)) (body_of bytes) (map_value tables more)
  pub domain_cycles : (k : ℕ) → k ≤ dimension_of_map m
      → AreTheCycles p (all_cells m.x.cells m.a.cells) (in_degree tables.cycles k)
      (slice_index_or domain k [])
  pub range_cycles : (k : ℕ) → k ≤ dimension_of_map m
      → AreTheCycles p (all_cells m.y.cells m.b.cells) (in_degree more.range.cycles k)
      (slice_index_or range k [])
  pub matrices_are : (k : ℕ) → k ≤ dimension_of_map m
      → slice_index_or more.matrices k [] ≡ slice_index_or matrices k []
