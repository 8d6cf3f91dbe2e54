-- The part of a pair, read over the numbers of its relative cells.
use Rattle.std.specs.Prelude.{◌≡◌, ℕ, zero, suc, ◌+◌, ◌<◌, ◌≤◌, ◌^◌, List, [], ◌∷◌, length, map, slice_index, slice_index_or, Option, Some, None}
use Rattle.field_mod.specs.Modular.{Same}
use Rattle.elem_cubes.specs.Cells.{Factor}
use Rattle.elem_cubes.specs.Laws.{cell_at}
use Rattle.chains.specs.Terms.{coefficient, nth_chain, IsNormal}
use Rattle.chains.specs.ChainComplex.{boundary, incidence}
use Rattle.algebraic_reduction.specs.Reduction.{single}
use Rattle.cell_complex.specs.Numbering.{IsRelativeComplex}
use Rattle.homology_basis.specs.Bases.{in_degree}
use Rattle.chain_lists.specs.Lists.{IsTranspose}
use Rattle.witness_laws.specs.declared.law.Law.{Law}
use Rattle.witness_laws.specs.declared.law.Law.TheVariants as laws
use Rattle.witness_laws.specs.declared.law.WitnessFault.{WitnessFault}
use Rattle.witness_laws.specs.Lines.{Side, Line, cycle, cocycle, homotopy, each}
use Rattle.witness_laws.specs.Inputs.{Given, x_of, a_of, all_cells, relative_cells}
use Rattle.witness_laws.specs.Parts.{chain_of}
use Rattle.witness_laws.specs.Tables.{PairTables, Tables, pair_of, pair_lines, holds}
use Rattle.witness_types.specs.declared.part.PairPart.{PairPart}
use Rattle.witness_types.specs.Parts.{beside, degrees_of}
use Rattle.witness_sections.specs.Outcomes.{IsLineOutcome, ArePassed, IsFaultAmong}
use Rattle.witness_sections.specs.declared.section.Degree.{Degree}
use Rattle.witness_sections.specs.declared.section.Section.{Section}

-- the chain us over the numbers of the cells `to`, counted from 0, is the chain ts over those of
-- `cells`, counted from 1
pub record IsRead (p : ℕ) (cells to : List (List Factor)) (ts us : List (ℕ × ℕ)) : Type 0 where
  pub normal : IsNormal p us
  pub within : (g : ℕ) → length to ≤ g → coefficient us g ≡ 0
  pub at : (g : ℕ) → g < length to → Same p (coefficient us g) (chain_of cells ts (cell_at to g))

-- so are all chains of a list
pub record AreRead (p : ℕ) (cells to : List (List Factor))
    (cs ds : List (List (ℕ × ℕ))) : Type 0 where
  pub count : length ds ≡ length cs
  pub each : (i : ℕ) → IsRead p cells to (slice_index_or cs i []) (slice_index_or ds i [])

-- the cycles and cocycles of one degree, and their transposes
pub record IsDegreeOf {p : ℕ} (cells to : List (List Factor)) (zs cs : List (List (ℕ × ℕ)))
    (d : Degree p) : Type 0 where
  pub cycles : AreRead p cells to zs d.cycles.items
  pub cocycles : AreRead p cells to cs d.cocycles.items
  pub sizes : length cs ≡ length zs
  pub at_count : length d.at_cycles.items ≡ length to
  pub at_cycles : IsTranspose p (length to) d.cycles.items d.at_cycles.items
  pub by_count : length d.at_cocycles.items ≡ length to
  pub at_cocycles : IsTranspose p (length to) d.cocycles.items d.at_cocycles.items

-- the section is the part S of the pair of x and a
pub record IsSectionOf {p : ℕ} (x a : List (List Factor)) (S : PairTables)
    (s : Section p) : Type 0 where
  pub prime : 2 ≤ p
  pub complex : IsRelativeComplex p x a (relative_cells x a) s.complex
  pub co_count : length s.coboundaries.items ≡ length (relative_cells x a)
  pub coboundaries : IsTranspose p
      (length (relative_cells x a)) s.complex.boundaries s.coboundaries.items
  pub count : length s.degrees.items ≡ length S.cycles
  pub degrees : (k : ℕ) (d : Degree p) → k < length S.cycles
      → IsDegreeOf (all_cells x a) (relative_cells x a) (in_degree S.cycles k)
      (in_degree S.cocycles k) (slice_index_or s.degrees.items k d)
  pub cells : length S.homotopies ≡ length (relative_cells x a)
  pub homotopies : AreRead p (all_cells x a) (relative_cells x a) S.homotopies s.homotopies.items

-- the section is that of a side of a witness
abbrev pub IsSideOf : {p : ℕ} → Section p → Given → Tables → Side → Type 0
IsSideOf s G W side = IsSectionOf (x_of G side) (a_of G side) (pair_of W side) s

-- what is told of a line, whatever witness has the section
abbrev pub IsLineTold : {p : ℕ} → Section p → (Side → Line) → Option Law → Type 0
IsLineTold {p} s line o =
    (G : Given) (W : Tables) (side : Side) → IsSideOf s G W side
    → IsLineOutcome (holds p G W) (line side) o

-- what is told of lines: that they are passed, or the first fault
abbrev pub ArePassedOf : {p : ℕ} → Section p → (PairTables → Side → List Line) → ℕ → ℕ → Type 0
ArePassedOf {p} s lines from behind =
    (G : Given) (W : Tables) (side : Side) → IsSideOf s G W side
    → ArePassed (holds p G W) (lines (pair_of W side) side) from behind

abbrev pub IsFaultOf : {p : ℕ} → Section p → (PairTables → Side → List Line) → ℕ → WitnessFault
    → Type 0
IsFaultOf {p} s lines from fault =
    (G : Given) (W : Tables) (side : Side) → IsSideOf s G W side
    → IsFaultAmong (holds p G W) (lines (pair_of W side) side) from fault

-- the lines of a degree, and all lines of cycles, of cocycles and of chains of cells
abbrev pub cycles_in : ℕ → PairTables → Side → List Line
cycles_in k S side = each (length (in_degree S.cycles k)) (λ i. cycle side k i ∷ [])

abbrev pub cycle_lines : PairTables → Side → List Line
cycle_lines S side = each (length S.cycles) (λ k. cycles_in k S side)

abbrev pub cocycles_in : ℕ → PairTables → Side → List Line
cocycles_in k S side = each (length (in_degree S.cycles k)) (λ i. cocycle side k i ∷ [])

abbrev pub cocycle_lines : PairTables → Side → List Line
cocycle_lines S side = each (length S.cycles) (λ k. cocycles_in k S side)

abbrev pub homotopy_lines : PairTables → Side → List Line
homotopy_lines S side = each (length S.homotopies) (λ i. homotopy side i ∷ [])

-- how many cycles there are in degree k, and in all
abbrev pub count_at : {p : ℕ} → List (Degree p) → ℕ → ℕ
count_at [] k = 0
count_at (d ∷ ds) zero = length d.cycles.items
count_at (d ∷ ds) (suc k) = count_at ds k

abbrev pub cycle_count : {p : ℕ} → List (Degree p) → ℕ
cycle_count [] = 0
cycle_count (d ∷ ds) = length d.cycles.items + cycle_count ds

-- each degree has a cocycle for each cycle, and for each cell the cocycles that have it
pub record IsWholeDegree {p : ℕ} (cells : ℕ) (d : Degree p) : Type 0 where
  pub cocycles : length d.cocycles.items ≡ length d.cycles.items
  pub at_cocycles : length d.at_cocycles.items ≡ cells

-- and each cell has a chain
pub record IsWhole {p : ℕ} (s : Section p) : Type 0 where
  pub homotopies : length s.homotopies.items ≡ length s.complex.boundaries
  pub degrees : (k : ℕ) (d : Degree p) → k < length s.degrees.items
      → IsWholeDegree (length s.complex.boundaries) (slice_index_or s.degrees.items k d)

-- each term of the chain names one of so many cells, which are counted from 1
abbrev pub IsNamed : ℕ → List (ℕ × ℕ) → Type 0
IsNamed n ts =
    (i : ℕ) → i < length ts → (0 < (slice_index_or ts i (0, 0)).0)
    × ((slice_index_or ts i (0, 0)).0 ≤ n)

-- so does each chain of a list
abbrev pub AreNamed : ℕ → List (List (ℕ × ℕ)) → Type 0
AreNamed n cs = (i : ℕ) → i < length cs → IsNamed n (slice_index_or cs i [])

-- what is told of a cocycle: it has the value 1 on its cycle and 0 on the others, and it is 0 on
-- boundaries; or the first of both
-- that fails
abbrev pub IsDualBy : ℕ → List (List (ℕ × ℕ)) → List (ℕ × ℕ) → ℕ → Type 0
IsDualBy p at_cycles c i = (g : ℕ) → Same p (boundary at_cycles (coefficient c) g) (single i g)

abbrev pub IsNoneBy : ℕ → List (List (ℕ × ℕ)) → List (ℕ × ℕ) → Type 0
IsNoneBy p chains c = (g : ℕ) → Same p (boundary chains (coefficient c) g) 0

abbrev pub IsCocycleOutcome : ℕ → List (List (ℕ × ℕ)) → List (List (ℕ × ℕ)) → List (ℕ × ℕ) → ℕ
    → Option Law → Type 0
IsCocycleOutcome p coboundaries at_cycles c i None =
    IsDualBy p at_cycles c i × IsNoneBy p coboundaries c
IsCocycleOutcome p coboundaries at_cycles c i (Some laws.Dual) = ¬ IsDualBy p at_cycles c i
IsCocycleOutcome p coboundaries at_cycles c i (Some laws.Cocycle) =
    IsDualBy p at_cycles c i × ¬ IsNoneBy p coboundaries c
IsCocycleOutcome p coboundaries at_cycles c i (Some law) = ⊥

-- at the cell i the values of the cocycles times the cycles, the boundary of its chain and the
-- chain of its boundary are i
abbrev pub projection_by : {p : ℕ} → List (Degree p) → ℕ → ℕ → ℕ → ℕ
projection_by [] k i g = 0
projection_by (d ∷ ds) zero i g = boundary d.cycles.items (nth_chain d.at_cocycles.items i) g
projection_by (d ∷ ds) (suc k) i g = projection_by ds k i g

abbrev pub ContractsBy : {p : ℕ} → Section p → ℕ → Type 0
ContractsBy {p} s i = (g : ℕ)
    → Same p (projection_by s.degrees.items (slice_index s.complex.degrees i) i g
    + (boundary s.complex.boundaries (nth_chain s.homotopies.items i) g
    + boundary s.homotopies.items (incidence s.complex.boundaries i) g))
    (single i g)

-- the part of a pair as it is read: all its chains name cells of the file; it has a cocycle for
-- each cycle, and a chain for each of so
-- many cells
pub record IsReadable {p : ℕ} (cells count : ℕ) (part : PairPart p) : Type 0 where
  pub cycles : AreNamed cells (map (λ z. z.1) part.cycles.items)
  pub cocycles : AreNamed cells part.cocycles.items
  pub homotopies : AreNamed cells part.homotopy.items
  pub sizes : length part.cocycles.items ≡ length part.cycles.items
  pub few : length part.cycles.items < 2 ^ 32
  pub each : length part.homotopy.items ≡ count

-- the degrees are those of the part, from 0 on
pub record AreDegreesOf {p : ℕ} (cells to : List (List Factor)) (part : PairPart p) (size : ℕ)
    (ds : List (Degree p)) : Type 0 where
  pub count : length ds ≡ size
  pub each : (k : ℕ) (d : Degree p) → k < size
      → IsDegreeOf cells to
      (beside k (degrees_of part.cycles.items) (map (λ z. z.1) part.cycles.items))
      (beside k (degrees_of part.cycles.items) part.cocycles.items) (slice_index_or ds k d)

-- all lines of a pair, and how many there are
abbrev pub section_lines : PairTables → Side → List Line
section_lines S side = pair_lines side S

abbrev pub line_count : {p : ℕ} → Section p → ℕ
line_count s =
    1 + cycle_count s.degrees.items + cycle_count s.degrees.items + length s.homotopies.items
