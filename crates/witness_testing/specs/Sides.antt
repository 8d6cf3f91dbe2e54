-- What is told of the lines of a pair, and of those of matrices, whatever witness has them.
use Rattle.std.specs.Prelude.{◌≡◌, ℕ, List, [], ◌∷◌, length, map, if◌then◌else◌, ◌==◌, slice_index_or}
use Rattle.elem_cubes.specs.Cells.{Factor}
use Rattle.homology_basis.specs.Bases.{in_degree}
use Rattle.witness_laws.specs.declared.law.WitnessFault.{WitnessFault}
use Rattle.witness_laws.specs.Lines.{Side, Line, row, each}
use Rattle.witness_laws.specs.Inputs.{Given, x_of, a_of, all_cells}
use Rattle.witness_laws.specs.Parts.{range_cells, AreMatrices}
use Rattle.witness_laws.specs.Tables.{PairTables, MapTables, Tables, pair_of, pair_lines, holds}
use Rattle.witness_types.specs.Parts.{pair_tables}
use Rattle.witness_types.specs.Rows.{rows_of}
use Rattle.witness_types.specs.declared.part.PairPart.{PairPart}
use Rattle.witness_sections.specs.Outcomes.{ArePassed, IsFaultAmong}
use Rattle.witness_sections.specs.Readings.{AreRead, AreNamed}
use Rattle.witness_rows.specs.Rows.{target_cells}
use Rattle.read_parts.specs.declared.parts.ReadMap.{ReadMap}
use Rattle.read_parts.specs.Values.{read_tables}
use Rattle.witness_testing.specs.Given.{map_value}

-- the side of the witness is that of the pair of x and a, with the tables S
pub record IsSideWith (x a : List (List Factor)) (S : PairTables) (G : Given) (W : Tables)
    (side : Side) : Type 0 where
  pub first : x_of G side ≡ x
  pub second : a_of G side ≡ a
  pub tables : pair_of W side ≡ S

-- the lines of the pair are passed, or the fault is the first among them
abbrev pub SidePassed : ℕ → List (List Factor) → List (List Factor) → PairTables → ℕ → ℕ → Type 0
SidePassed p x a S from behind =
    (G : Given) (W : Tables) (side : Side) → IsSideWith x a S G W side
    → ArePassed (holds p G W) (pair_lines side (pair_of W side)) from behind

abbrev pub IsSideFault : ℕ → List (List Factor) → List (List Factor) → PairTables → ℕ
    → WitnessFault → Type 0
IsSideFault p x a S from fault =
    (G : Given) (W : Tables) (side : Side) → IsSideWith x a S G W side
    → IsFaultAmong (holds p G W) (pair_lines side (pair_of W side)) from fault

-- the lines of the matrix of degree k: none where it has no columns
abbrev pub rows_at : PairTables → MapTables → ℕ → List Line
rows_at S M k =
    if length (in_degree S.cycles k) == 0 then [] else each
    (length (slice_index_or M.matrices k [])) (λ r. row k r ∷ [])

-- the cells of the domain and of the range, the relative cells of the range and the images over
-- these are those of a map; what was read has as many of all as it needs
pub record IsRowWitness {p : ℕ} (domain range kept : List (List Factor))
    (us : List (List (ℕ × ℕ))) (top : ℕ) (part : PairPart p) (m : ReadMap p) (G : Given)
    : Type 0 where
  pub domain_cells : domain ≡ all_cells G.x G.a
  pub all : range ≡ range_cells G
  pub relative : kept ≡ target_cells G
  pub images : AreRead p range kept m.images.items us
  pub image_count : length m.images.items ≡ length domain
  pub greatest : top ≡ G.top
  pub cycles : AreNamed (length domain) (map (λ z. z.1) part.cycles.items)
  pub cocycles : AreNamed (length range) m.range.cocycles.items
  pub sizes : length m.range.cocycles.items ≡ length m.range.cycles.items
  pub matrices : AreMatrices p top (λ k. length (in_degree (pair_tables top m.range).cycles k))
      (λ k. length (in_degree (pair_tables top part).cycles k)) (map rows_of m.rows.items)

-- there is such a map
pub record HasRowWitness {p : ℕ} (domain range kept : List (List Factor))
    (us : List (List (ℕ × ℕ))) (top : ℕ) (part : PairPart p) (m : ReadMap p) : Type 0 where
  pub given : Given
  pub are : IsRowWitness domain range kept us top part m given

-- these lines are passed, or the fault is the first among them, whatever map has them
abbrev pub RowLinesPassed : {p : ℕ} → List (List Factor) → List (List Factor)
    → List (List Factor) → List (List (ℕ × ℕ)) → ℕ → PairPart p → ReadMap p
    → (PairTables → MapTables → List Line) → ℕ → ℕ → Type 0
RowLinesPassed {p} domain range kept us top part m lines from behind =
    (G : Given) → IsRowWitness domain range kept us top part m G
    → ArePassed (holds p G (map_value top part m))
    (lines (pair_tables top part) (read_tables top m)) from behind

abbrev pub IsRowLineFault : {p : ℕ} → List (List Factor) → List (List Factor)
    → List (List Factor) → List (List (ℕ × ℕ)) → ℕ → PairPart p → ReadMap p
    → (PairTables → MapTables → List Line) → ℕ → WitnessFault → Type 0
IsRowLineFault {p} domain range kept us top part m lines from fault =
    (G : Given) → IsRowWitness domain range kept us top part m G
    → IsFaultAmong (holds p G (map_value top part m))
    (lines (pair_tables top part) (read_tables top m)) from fault

-- the lines of the matrix of one degree, and those of all
abbrev pub lines_in : ℕ → PairTables → MapTables → List Line
lines_in k S M = rows_at S M k

abbrev pub all_rows : PairTables → MapTables → List Line
all_rows S M = each (length S.cycles) (rows_at S M)
