-- The part of a map in a witness, and what a file holds that is written for a map.
use Rattle.std.specs.Prelude.{◌≡◌, ℕ, ◌+◌, ◌<◌, List, [], ◌∷◌, length, map, Some}
use Rattle.elem_cubes.specs.Cells.{Factor}
use Rattle.chains.specs.Homology.{IsChain}
use Rattle.cube_sets.specs.Sets.{Members}
use Rattle.cube_sets.specs.Closures.{cells_of}
use Rattle.cell_complex.specs.RelativeComplex.{relative_complex}
use Rattle.cube_maps.specs.CubeMaps.{Naming, Mapping}
use Rattle.acyclic_values.specs.CarriedMaps.{IsInducedMatrix}
use Rattle.map_checks.specs.Carriers.{Carrying}
use Rattle.map_checks.specs.Faults.{together}
use Rattle.homology_basis.specs.Bases.{BasisOfLog}
use Rattle.leray_conley.specs.Tables.{Table, entry}
use Rattle.witness_laws.specs.Formats.{IsAccepted}
use Rattle.witness_laws.specs.Inputs.{Given, relative_cells}
use Rattle.witness_laws.specs.Sections.{Section, IsSection}
use Rattle.witness_laws.specs.Tables.{Tables, PairTables, MapTables, tables_format}
use Rattle.witness_types.specs.declared.heading.ClaimKind.TheVariants as kinds
use Rattle.witness_types.specs.declared.part.MapPart.{MapPart}
use Rattle.witness_types.specs.declared.part.PairPart.{PairPart}
use Rattle.witness_types.specs.Headers.{IsHeader, body_of}
use Rattle.witness_types.specs.Inputs.{first_known}
use Rattle.witness_types.specs.Parts.{IsInOrder, pair_tables, map_tables}
use Rattle.witness_types.specs.Rows.{rows_of}
use Rattle.witness_types.specs.Texts.{text_by}
use Rattle.witness_writing.specs.Runs.{table_at}
use Rattle.witness_parts.specs.Tables.{section_by, AreTablesOf, IsPartOf}
use Rattle.map_parts.specs.Values.{AreFiledContractions}
use Rattle.map_parts.specs.Images.{AreFiledImages}

-- what is kept is the map from the members of x and a to those of y and b
pub record IsCarryingOf (c : Carrying) (f : List Naming) (x a y b : List (List Factor))
    : Type 0 where
  pub map : c.map ≡ f
  pub domain : c.domain ≡ together x a
  pub range : c.range ≡ together y b

-- contractions of the values, and images, of all cells of the domain
pub record AreCellwise (p : ℕ) (f : List Naming) (domain range : List (List Factor))
    (vertices : List ℕ) (fillings : List (List (List (ℕ × ℕ)))) (zs : List (List (ℕ × ℕ)))
    : Type 0 where
  pub values : AreFiledContractions p f domain range (length (cells_of domain)) vertices fillings
  pub images : AreFiledImages p
      (record { dimension = 0; map = f; domain = domain; range = range }) zs

-- the tables of a map are those of the section of its range up to a last degree, contractions of
-- the values and images of all cells of the domain, and the matrices
pub record AreMapTablesOf (p top : ℕ) (f : List Naming) (x a y b : List (List Factor))
    (S : Section) (ms : List Table) (M : MapTables) : Type 0 where
  pub range : AreTablesOf p top y b S M.range
  pub cells : AreCellwise p f (together x a) (together y b) M.vertices M.fillings M.images
  pub matrices : M.matrices ≡ map rows_of ms

-- the part has such tables, and that of the range is in order
pub record IsMapPartOf (p top : ℕ) (f : List Naming) (x a y b : List (List Factor))
    (S : Section) (ms : List Table) (part : MapPart p) : Type 0 where
  pub order : IsInOrder top part.range
  pub tables : AreMapTablesOf p top f x a y b S ms (map_tables top part)

-- ---- a map, and its value

-- the dimension of a map and its pairs
abbrev pub top_of_map : Mapping → Members → Members → Members → Members → ℕ
top_of_map f x a y b =
    first_known (f.dimension ∷ x.dimension ∷ a.dimension ∷ y.dimension ∷ b.dimension ∷ [])

abbrev pub map_given : ℕ → List Naming → List (List Factor) → List (List Factor)
    → List (List Factor) → List (List Factor) → Given
map_given top f x a y b =
    record { top = top; x = x; a = a; target = Some (record { map = f; y = y; b = b }) }

abbrev pub given_map : Mapping → Members → Members → Members → Members → Given
given_map f x a y b = map_given (top_of_map f x a y b) f.named x.cells a.cells y.cells b.cells

abbrev pub map_value : PairTables → MapTables → Tables
map_value T M = record { domain = T; map = Some M }

abbrev pub value_of_parts : {p : ℕ} → ℕ → PairPart p → MapPart p → Tables
value_of_parts top part more = map_value (pair_tables top part) (map_tables top more)

-- the text of such a value
abbrev pub map_text : ℕ → Given → Tables → List ℕ
map_text p G W =
    text_by (tables_format p G) (record { version = 1; modulus = p; kind = kinds.Map }) W

-- ---- matrices

-- the matrix of degree k has the sizes of the sections, and is that of every carried map in their
-- cycles
pub record IsInducedTable (p : ℕ) (f : List Naming) (x a y b : List (List Factor))
    (X Y : Section) (k : ℕ) (m : Table) : Type 0 where
  pub rows : m.rows ≡ Y.size k
  pub columns : m.columns ≡ X.size k
  pub induced : IsInducedMatrix p f (together x a) (together y b) y b k
      (X.size k) (X.cycle k) (Y.size k) (Y.cycle k) (entry m)

-- there is one in each degree up to the last, and no other
pub record AreInducedTables (p top : ℕ) (f : List Naming) (x a y b : List (List Factor))
    (X Y : Section) (ms : List Table) : Type 0 where
  pub count : length ms ≡ top + 1
  pub each : (k : ℕ) → k < length ms → IsInducedTable p f x a y b X Y k (table_at ms k)

-- the part is that of a section of the pair of x and a up to a last degree, and there is a matrix
-- in each degree up to it: that of every carried map in the cycles of this section and of Y
pub record IsDomainPart (p top : ℕ) (f : List Naming) (x a y b : List (List Factor)) (Y : Section)
    (ms : List Table) (part : PairPart p) : Type 0 where
  pub X : Section
  pub is_section : IsSection p x a (relative_cells x a) X
  pub cochains : (k i : ℕ) → i < X.size k → IsChain p (relative_complex p x a) k (X.cocycle k i)
  pub part_of : IsPartOf top x a X part
  pub matrices : AreInducedTables p top f x a y b X Y ms

-- ---- files

-- the bytes have a header for this modulus and a map, and lines that are accepted, with the tables
-- of this part of the domain; the cycles, the cocycles and the contraction of the range are those
-- of the basis, and the matrices are these
pub record IsMapWitness (p : ℕ) (f : Mapping) (x a y b : Members) (part : PairPart p)
    (cells : List (List Factor)) (B : BasisOfLog) (ms : List Table) (bytes : List ℕ)
    : Type 0 where
  pub more : MapTables
  pub header : IsHeader bytes (record { version = 1; modulus = p; kind = kinds.Map })
  pub accepted : IsAccepted (tables_format p (given_map f x a y b)) (body_of bytes)
      (map_value (pair_tables (top_of_map f x a y b) part) more)
  pub made : AreMapTablesOf p (top_of_map f x a y b) f.named x.cells a.cells y.cells b.cells
      (section_by p cells B) ms more
