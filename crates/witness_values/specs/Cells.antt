-- The values and images of a map, read over the numbers of its cells.
use Rattle.std.specs.Prelude.{◌≡◌, ℕ, ◌+◌, ◌<◌, List, [], ◌∷◌, ◌++◌, length, map, slice_index_or}
use Rattle.field_mod.specs.Sums.{total}
use Rattle.elem_cubes.specs.Cells.{Factor}
use Rattle.cell_complex.specs.Sorted.{IsSortedCells}
use Rattle.cube_maps.specs.CubeMaps.{Naming}
use Rattle.map_checks.specs.Faults.{together}
use Rattle.witness_laws.specs.declared.law.WitnessFault.{WitnessFault}
use Rattle.witness_laws.specs.Lines.{Line, vertex, image, each}
use Rattle.witness_laws.specs.Inputs.{Given, target_of, all_cells, IsWithoutFault}
use Rattle.witness_laws.specs.Parts.{value_at, range_cells, NamesVertex}
use Rattle.witness_laws.specs.Tables.{MapTables, Tables, map_of, holds}
use Rattle.read_parts.specs.declared.parts.ReadMap.{ReadMap}
use Rattle.witness_sections.specs.Outcomes.{ArePassed, IsFaultAmong}
use Rattle.witness_sections.specs.Readings.{AreNamed}
use Rattle.witness_values.specs.Images.{AreImagesOf}
use Rattle.witness_values.specs.Fillings.{fillings_in}
use Rattle.witness_values.specs.declared.cells.MapSides.{MapSides}

-- the sides are those of the map of a witness whose part this is: its sets have no fault, and its
-- lines name cells of the kinds that
-- they may name
pub record AreSidesOf {p : ℕ} (s : MapSides p) (m : List Naming) (set : List (List Factor))
    (part : ReadMap p) (G : Given) (W : Tables) : Type 0 where
  pub fault : IsWithoutFault G (target_of G)
  pub naming : m ≡ (target_of G).map
  pub cubes : set ≡ together G.x G.a
  pub domain : s.domain ≡ all_cells G.x G.a
  pub range : s.range ≡ range_cells G
  pub sorted : IsSortedCells s.range
  pub images : AreImagesOf p s.domain_complex s.range_complex s.images.items G W
  pub vertices : (map_of W).vertices ≡ part.vertices.items
  pub fillings : (map_of W).fillings ≡ map (λ v. v.items) part.contractions.items
  pub chains : (map_of W).images ≡ part.images.items
  pub vertex_count : length part.vertices.items ≡ length s.domain
  pub filling_count : length part.contractions.items ≡ length s.domain
  pub counts : (i : ℕ) → i < length s.domain
      → length (slice_index_or (map_of W).fillings i []) ≡ length (value_at G i)
  pub filling_cells : (i : ℕ) → i < length s.domain
      → AreNamed (length s.range) (slice_index_or (map_of W).fillings i [])
  pub named : (i : ℕ) → i < length s.domain → NamesVertex G (map_of W).vertices i

-- there is such a witness
pub record HasWitness {p : ℕ} (s : MapSides p) (m : List Naming) (set : List (List Factor))
    (part : ReadMap p) : Type 0 where
  pub given : Given
  pub tables : Tables
  pub are : AreSidesOf s m set part given tables

-- the lines of the i-th cell
abbrev pub cell_lines : ℕ → MapTables → List Line
cell_lines i M = vertex i ∷ fillings_in i M ++ image i ∷ []

-- what is told of lines, whatever witness has the sides
abbrev pub CellsPassed : {p : ℕ} → MapSides p → List Naming → List (List Factor) → ReadMap p
    → (MapTables → List Line) → ℕ → ℕ → Type 0
CellsPassed {p} s m set part lines from behind =
    (G : Given) (W : Tables) → AreSidesOf s m set part G W
    → ArePassed (holds p G W) (lines (map_of W)) from behind

abbrev pub IsCellFaultOf : {p : ℕ} → MapSides p → List Naming → List (List Factor) → ReadMap p
    → (MapTables → List Line) → ℕ → WitnessFault → Type 0
IsCellFaultOf {p} s m set part lines from fault =
    (G : Given) (W : Tables) → AreSidesOf s m set part G W
    → IsFaultAmong (holds p G W) (lines (map_of W)) from fault

-- the lines of all cells
abbrev pub all_cell_lines : MapTables → List Line
all_cell_lines M = each (length M.images) (λ i. cell_lines i M)

-- how many chains the value of the i-th cell has
abbrev pub chains_at : {p : ℕ} → ReadMap p → ℕ → ℕ
chains_at part i = length (slice_index_or (map (λ v. v.items) part.contractions.items) i [])

-- how many lines the first cells have
abbrev pub cell_line_count : {p : ℕ} → ReadMap p → ℕ → ℕ
cell_line_count part n = total n (λ i. chains_at part i + 2)
