-- The value of a witness file of version 1, its lines, and the law of each line.
use Rattle.std.specs.Prelude.{◌≡◌, ℕ, suc, ◌+◌, ◌*◌, ◌<◌, List, [], ◌∷◌, ◌++◌, length, codes, Option, Some, None, true, if◌then◌else◌, ◌==◌, slice_index, slice_index_or}
use Rattle.std.specs.List.{Contains}
use Rattle.field_mod.specs.Sums.{total}
use Rattle.field_mod.specs.Modular.{Same}
use Rattle.elem_cubes.specs.Cells.{Factor, dimension_of}
use Rattle.elem_cubes.specs.Laws.{cell_at}
use Rattle.cell_complex.specs.RelativeComplex.{is_relative}
use Rattle.cell_complex.specs.Numbering.{number_of, by_number}
use Rattle.algebraic_reduction.specs.Reduction.{single}
use Rattle.homology_basis.specs.Bases.{in_degree}
use Rattle.acyclic_values.specs.Contractions.{incidence_at, augmentation_at}
use Rattle.witness_laws.specs.declared.law.Law.{Law}
use Rattle.witness_laws.specs.declared.law.Law.TheVariants as laws
use Rattle.witness_laws.specs.Lines.{Side, domain, range, Line, section, cycle, cocycle, homotopy, values, vertex, filling, image as image_line, matrix, row, end, each, chain_line, numbers_line, row_line}
use Rattle.witness_laws.specs.Formats.{Format}
use Rattle.witness_laws.specs.Inputs.{Target, Given, x_of, a_of, all_cells, relative_cells, value_cells}
use Rattle.witness_laws.specs.Parts.{AreTerms, chain_of, NameCells, nth, value_at, range_cells, image_of, vertex_of, entry_of, AreMatrices, relative_number, value_number, NamesVertex, IsOfOneDimension, IsCarriedTo, IsAugmented, Commutes}
use Rattle.witness_laws.specs.Sections.{Section, IsClosedAt, IsDualAt, IsCocycleAt, ContractsAt, product_of_image}

-- ---- the value

-- the cycles and cocycles by degree from 0, and the chain of each relative cell, in order. A chain
-- has terms of a number, counted from 1, and a coefficient
pub record PairTables : Type 0 where
  pub cycles : List (List (List (ℕ × ℕ)))
  pub cocycles : List (List (List (ℕ × ℕ)))
  pub homotopies : List (List (ℕ × ℕ))

-- the range; for each cell of the domain the number of a vertex, the chain of each cell of its
-- value, and its image; the matrices by degree from 0, row by row
pub record MapTables : Type 0 where
  pub range : PairTables
  pub vertices : List ℕ
  pub fillings : List (List (List (ℕ × ℕ)))
  pub images : List (List (ℕ × ℕ))
  pub matrices : List (List (List ℕ))

pub record Tables : Type 0 where
  pub domain : PairTables
  pub map : Option MapTables

abbrev pub map_in : Option MapTables → MapTables
map_in None =
    record {
      range = record { cycles = []; cocycles = []; homotopies = [] };
      vertices =
          [];
      fillings = [];
      images = [];
      matrices = [];
    }
map_in (Some M) = M

-- the tables of a map; empty ones where there is none
abbrev pub map_of : Tables → MapTables
map_of W = map_in W.map

-- the tables of a pair
abbrev pub pair_of : Tables → Side → PairTables
pair_of W domain = W.domain
pair_of W range = (map_of W).range

-- ---- the parts of a value

abbrev pub section_of : List (List Factor) → List (List Factor) → PairTables → Section
section_of x a S = record {
  size = λ k. length (in_degree S.cycles k);
  cycle = λ k i. chain_of (all_cells x a) (nth (in_degree S.cycles k) i);
  cocycle = λ k i. chain_of (all_cells x a) (nth (in_degree S.cocycles k) i);
  homotopy = λ s. chain_of (all_cells x a) (nth S.homotopies (number_of (relative_cells x a) s));
}

-- the chain at the place m of the value at the i-th cell of the domain, over places of the value
abbrev pub filling_of : Given → MapTables → ℕ → ℕ → ℕ → ℕ
filling_of G M i m =
    by_number (value_at G i) (chain_of (range_cells G) (nth (slice_index_or M.fillings i []) m))

-- ---- which lines there are

-- the values over the input: one list of cycles and of cocycles in each degree, of one length, and
-- a chain for each relative cell; all chains are in order, with coefficients below the modulus
pub record IsPairTables (p top : ℕ) (x a : List (List Factor)) (S : PairTables) : Type 0 where
  pub degrees : length S.cycles ≡ top + 1
  pub cocycle_degrees : length S.cocycles ≡ top + 1
  pub sizes : (k : ℕ) → length (in_degree S.cocycles k) ≡ length (in_degree S.cycles k)
  pub cells : length S.homotopies ≡ length (relative_cells x a)
  pub cycles : (k i : ℕ) → i < length (in_degree S.cycles k)
      → AreTerms p 0 (nth (in_degree S.cycles k) i)
  pub cocycles : (k i : ℕ) → i < length (in_degree S.cycles k)
      → AreTerms p 0 (nth (in_degree S.cocycles k) i)
  pub homotopies : (i : ℕ) → i < length S.homotopies → AreTerms p 0 (nth S.homotopies i)

pub record IsMapTables (p : ℕ) (G : Given) (T : Target) (S : PairTables)
    (M : MapTables) : Type 0 where
  pub range : IsPairTables p G.top T.y T.b M.range
  pub vertices : length M.vertices ≡ length (all_cells G.x G.a)
  pub values : length M.fillings ≡ length (all_cells G.x G.a)
  pub images : length M.images ≡ length (all_cells G.x G.a)
  pub fillings : (i : ℕ) → i < length M.fillings
      → length (slice_index_or M.fillings i [])
      ≡ length (value_cells T G.x G.a (cell_at (all_cells G.x G.a) i))
  pub filling_terms : (i m : ℕ) → i < length M.fillings
      → m < length (slice_index_or M.fillings i [])
      → AreTerms p 0 (nth (slice_index_or M.fillings i []) m)
  pub image_terms : (i : ℕ) → i < length M.images → AreTerms p 0 (nth M.images i)
  pub matrices : AreMatrices p G.top (λ k. length (in_degree M.range.cycles k))
      (λ k. length (in_degree S.cycles k)) M.matrices

abbrev pub IsMapPart : ℕ → Given → Option Target → PairTables → Option MapTables → Type 0
IsMapPart p G None S None = Unit {0}
IsMapPart p G (Some T) S (Some M) = IsMapTables p G T S M
IsMapPart p G T S M = ⊥

pub record IsTables (p : ℕ) (G : Given) (W : Tables) : Type 0 where
  pub domain : IsPairTables p G.top G.x G.a W.domain
  pub map : IsMapPart p G G.target W.domain W.map

-- the lines of a pair: its cycles, its cocycles, and a line for each relative cell
abbrev pub pair_lines : Side → PairTables → List Line
pair_lines side S =
    section side ∷ each (length S.cycles)
    (λ k. each (length (in_degree S.cycles k)) (λ i. cycle side k i ∷ []))
    ++ each (length S.cycles)
    (λ k. each (length (in_degree S.cycles k)) (λ i. cocycle side k i ∷ []))
    ++ each (length S.homotopies) (λ i. homotopy side i ∷ [])

-- the lines of the values and images, cell by cell of the domain
abbrev pub value_lines : MapTables → List Line
value_lines M =
    values ∷ each (length M.images)
    (λ i. vertex i ∷ each (length (slice_index_or M.fillings i [])) (λ m. filling i m ∷ [])
    ++ image_line i ∷ [])

-- the lines of the matrices, but for those without columns
abbrev pub matrix_lines : PairTables → MapTables → List Line
matrix_lines S M =
    matrix ∷ each (length S.cycles)
    (λ k. if length (in_degree S.cycles k) == 0 then [] else each
    (length (slice_index_or M.matrices k [])) (λ r. row k r ∷ []))

abbrev pub map_lines : PairTables → Option MapTables → List Line
map_lines S None = []
map_lines S (Some M) = pair_lines range M.range ++ value_lines M ++ matrix_lines S M

abbrev pub lines_of_tables : Tables → List Line
lines_of_tables W = pair_lines domain W.domain ++ map_lines W.domain W.map ++ end ∷ []

-- ---- the texts of the lines

abbrev pub text_of_line : Given → Tables → Line → List ℕ
text_of_line G W (section domain) = codes "pair domain\n"
text_of_line G W (section range) = codes "pair range\n"
text_of_line G W (cycle side k i) =
    chain_line (codes "z") (k ∷ []) (nth (in_degree (pair_of W side).cycles k) i)
text_of_line G W (cocycle side k i) =
    chain_line (codes "c") (k ∷ []) (nth (in_degree (pair_of W side).cocycles k) i)
text_of_line G W (homotopy side i) =
    chain_line (codes "h") (relative_number (x_of G side) (a_of G side) i ∷ [])
    (nth (pair_of W side).homotopies i)
text_of_line G W values = codes "values\n"
text_of_line G W (vertex i) =
    numbers_line (codes "v") (suc i ∷ slice_index (map_of W).vertices i ∷ [])
text_of_line G W (filling i m) =
    chain_line (codes "g") (suc i ∷ value_number G i m ∷ [])
    (nth (slice_index_or (map_of W).fillings i []) m)
text_of_line G W (image_line i) = chain_line (codes "f") (suc i ∷ []) (nth (map_of W).images i)
text_of_line G W matrix = codes "matrix\n"
text_of_line G W (row k r) =
    row_line k (slice_index_or (slice_index_or (map_of W).matrices k []) r [])
text_of_line G W end = codes "end\n"

-- ---- the laws

-- the law of the first pass: which cells a line may name
abbrev pub names_cells : Given → Tables → Line → Type 0
names_cells G W (cycle side k i) =
    NameCells (all_cells (x_of G side) (a_of G side))
    (λ q. (is_relative (x_of G side) (a_of G side) q ≡ true) × (dimension_of q ≡ k))
    (nth (in_degree (pair_of W side).cycles k) i)
names_cells G W (cocycle side k i) =
    NameCells (all_cells (x_of G side) (a_of G side))
    (λ q. (is_relative (x_of G side) (a_of G side) q ≡ true) × (dimension_of q ≡ k))
    (nth (in_degree (pair_of W side).cocycles k) i)
names_cells G W (homotopy side i) =
    NameCells (all_cells (x_of G side) (a_of G side))
    (λ q. (is_relative (x_of G side) (a_of G side) q ≡ true)
    × (dimension_of q ≡ dimension_of (cell_at (relative_cells (x_of G side) (a_of G side)) i) +
    1)) (nth (pair_of W side).homotopies i)
names_cells G W (vertex i) = NamesVertex G (map_of W).vertices i
names_cells G W (filling i m) =
    NameCells (range_cells G)
    (λ q. Contains (value_at G i) q
    × (dimension_of q ≡ dimension_of (cell_at (value_at G i) m) + 1))
    (nth (slice_index_or (map_of W).fillings i []) m)
names_cells G W (image_line i) = IsOfOneDimension G (map_of W).images i
names_cells G W line = Unit {0}

-- at the cell m of the value, a vertex less the last vertex, or any other cell, is the boundary of
-- its chain and the chain of its boundary; places of the value stand for its cells
abbrev pub ValueContractsAt : ℕ → List (List Factor) → ℕ → (ℕ → ℕ → ℕ) → ℕ → Type 0
ValueContractsAt p value v h m =
    (s : ℕ) → s < length value
    → Same p (augmentation_at value m * single v s
    + (total (length value) (λ t. h m t * incidence_at p value t s)
    + total (length value) (λ t. incidence_at p value m t * h t s)))
    (single m s)

-- the chain of the section at a side
abbrev pub section_at : Given → Tables → Side → Section
section_at G W side = section_of (x_of G side) (a_of G side) (pair_of W side)

-- the laws of the second pass
abbrev pub holds : ℕ → Given → Tables → Law → Line → Type 0
holds p G W laws.Cycle (cycle side k i) =
    IsClosedAt p (x_of G side) (a_of G side) ((section_at G W side).cycle k i)
holds p G W laws.Dual (cocycle side k i) =
    IsDualAt p (relative_cells (x_of G side) (a_of G side)) (section_at G W side) k i
holds p G W laws.Cocycle (cocycle side k i) =
    IsCocycleAt p (x_of G side) (a_of G side) (relative_cells (x_of G side) (a_of G side))
    ((section_at G W side).cocycle k i)
holds p G W laws.Contraction (homotopy side i) =
    ContractsAt p (x_of G side) (a_of G side) (relative_cells (x_of G side) (a_of G side))
    (section_at G W side) (cell_at (relative_cells (x_of G side) (a_of G side)) i)
holds p G W laws.ValueContraction (filling i m) =
    ValueContractsAt p (value_at G i) (vertex_of G (map_of W).vertices i)
    (filling_of G (map_of W) i) m
holds p G W laws.Carried (image_line i) = IsCarriedTo G (map_of W).images i
holds p G W laws.Augmentation (image_line i) = IsAugmented p G (map_of W).images i
holds p G W laws.Commutes (image_line i) = Commutes p G (map_of W).images i
holds p G W laws.Matrix (row k r) =
    (s : ℕ) → s < length (in_degree W.domain.cycles k)
    → Same p (entry_of (map_of W).matrices k r s)
    (product_of_image (all_cells G.x G.a) (relative_cells (x_of G range) (a_of G range))
    (section_at G W domain) (section_at G W range) (image_of G (map_of W).images) k r s)
holds p G W law line = Unit {0}

-- version 1 for this input
abbrev pub tables_format : ℕ → Given → Format Tables
tables_format p G = record {
  fits = IsTables p G;
  lines = lines_of_tables;
  text = text_of_line G;
  first = names_cells G;
  second =
      laws.Cycle ∷ laws.Dual ∷ laws.Cocycle ∷ laws.Contraction ∷ laws.ValueContraction ∷
      laws.Carried ∷ laws.Augmentation ∷ laws.Commutes ∷ laws.Matrix ∷ [];
  holds = holds p G;
}
