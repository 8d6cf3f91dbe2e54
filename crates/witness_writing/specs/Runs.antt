-- The texts of the runs of lines of a witness, as the parts have their contents.
use Rattle.std.specs.Prelude.{◌≡◌, ℕ, suc, ◌<◌, ◌≤◌, true, List, [], ◌∷◌, ◌++◌, length, map, filter}
use Rattle.std.specs.Prelude.{codes, if◌then◌else◌, ◌==◌, slice_index, slice_index_or}
use Rattle.elem_cubes.specs.Cells.{Factor}
use Rattle.elem_cubes.specs.Laws.{cell_at}
use Rattle.cube_sets.specs.Closures.{cells_of}
use Rattle.cube_sets.specs.Sets.{Members, dimensions_agree}
use Rattle.cell_complex.specs.Numbering.{number_of}
use Rattle.cube_maps.specs.CubeMaps.{Naming}
use Rattle.acyclic_values.specs.Values.{in_value}
use Rattle.map_checks.specs.Faults.{together}
use Rattle.leray_conley.specs.Tables.{Table}
use Rattle.witness_laws.specs.Lines.{each, chain_line, numbers_line, row_line}
use Rattle.witness_laws.specs.Inputs.{all_cells, relative_cells}
use Rattle.witness_laws.specs.Parts.{nth}
use Rattle.witness_types.specs.Headers.{version_line, modulus_line}
use Rattle.witness_types.specs.Rows.{row_of}
use Rattle.witness_types.specs.Parts.{degrees_of}
use Rattle.witness_types.specs.declared.part.PairPart.{PairPart}
use Rattle.witness_types.specs.declared.part.MapPart.{MapPart}

-- the lines of cycles with their degrees
abbrev pub cycles_text : List (ℕ × List (ℕ × ℕ)) → List ℕ
cycles_text zs =
    each (length zs) (λ i. chain_line (codes "z") (slice_index (degrees_of zs) i ∷ [])
    (nth (map (λ z. z.1) zs) i))

-- and of their cocycles
abbrev pub cocycles_text : List (ℕ × List (ℕ × ℕ)) → List (List (ℕ × ℕ)) → List ℕ
cocycles_text zs cs =
    each (length cs) (λ i. chain_line (codes "c") (slice_index (degrees_of zs) i ∷ []) (nth cs i))

-- the lines of the chains of some of all cells
abbrev pub homotopies_text : List (List Factor) → List (List Factor) → List (List (ℕ × ℕ))
    → List ℕ
homotopies_text all cells hs =
    each (length hs) (λ i. chain_line (codes "h") (suc (number_of all (cell_at cells i)) ∷ [])
    (nth hs i))

-- the lines of a pair, but for the one that names it
abbrev pub section_text : {p : ℕ} → List (List Factor) → List (List Factor) → PairPart p → List ℕ
section_text x a part =
    cycles_text part.cycles.items ++ cocycles_text part.cycles.items part.cocycles.items
    ++ homotopies_text (all_cells x a) (relative_cells x a) part.homotopy.items

-- the sets are of one dimension and have few cells; the part has as many cocycles as cycles, and a
-- chain for each relative cell
pub record IsSectionOf {p : ℕ} (x a : Members) (part : PairPart p) : Type 0 where
  pub agree : dimensions_agree x.dimension a.dimension ≡ true
  pub few : length (all_cells x.cells a.cells) ≤ 4096
  pub cocycles : length part.cocycles.items ≡ length part.cycles.items
  pub cells : length part.homotopy.items ≡ length (relative_cells x.cells a.cells)

-- the lines of the chains of the value at the cell of number i in the file
abbrev pub fillings_text : List (List Factor) → List (List Factor) → ℕ → List (List (ℕ × ℕ))
    → List ℕ
fillings_text all value i gs =
    each (length gs) (λ m. chain_line (codes "g") (i ∷ suc (number_of all (cell_at value m)) ∷ [])
    (nth gs m))

-- the lines of that cell
abbrev pub value_text : List (List Factor) → List (List Factor) → ℕ → ℕ → List (List (ℕ × ℕ))
    → List (ℕ × ℕ) → List ℕ
value_text all value i vertex gs image =
    numbers_line (codes "v") (i ∷ vertex ∷ []) ++ fillings_text all value i gs
    ++ chain_line (codes "f") (i ∷ []) image

-- the value of the map at the i-th cell of the domain, in order
abbrev pub value_in : List Naming → List (List Factor) → List (List Factor) → ℕ → List (List Factor)
value_in f domain range i =
    filter (in_value f domain (cell_at (cells_of domain) i)) (cells_of range)

abbrev pub fillings_in : {p : ℕ} → MapPart p → List (List (List (ℕ × ℕ)))
fillings_in part = map (λ v. v.items) part.contractions.items

-- the lines of the i-th cell of the domain, and of all of them
abbrev pub cell_text : {p : ℕ} → List Naming → List (List Factor) → List (List Factor) → MapPart p
    → ℕ → List ℕ
cell_text f domain range part i =
    value_text (cells_of range) (value_in f domain range i) (suc i)
    (slice_index part.vertices.items i) (slice_index_or (fillings_in part) i [])
    (nth part.images.items i)

abbrev pub values_text : {p : ℕ} → List Naming → List (List Factor) → List (List Factor)
    → MapPart p → List ℕ
values_text f domain range part = each (length (cells_of domain)) (cell_text f domain range part)

-- the part has a vertex, a chain for each cell of the value, and an image for each cell of the
-- domain
pub record IsOfValues {p : ℕ} (f : List Naming) (domain range : List (List Factor))
    (part : MapPart p) : Type 0 where
  pub vertices : length part.vertices.items ≡ length (cells_of domain)
  pub values : length part.contractions.items ≡ length (cells_of domain)
  pub images : length part.images.items ≡ length (cells_of domain)
  pub fillings : (i : ℕ) → i < length (cells_of domain)
      → length (slice_index_or (fillings_in part) i []) ≡ length (value_in f domain range i)

-- the lines of the rows of a matrix, and those of one that has columns
abbrev pub rows_text : ℕ → Table → List ℕ
rows_text k t = each t.rows (λ r. row_line k (row_of t r))

abbrev pub matrix_text : ℕ → Table → List ℕ
matrix_text k t = if t.columns == 0 then [] else rows_text k t

-- the matrix of degree k of a list by degree, with nothing past its end
abbrev pub table_at : List Table → ℕ → Table
table_at ts k = slice_index_or ts k (record { rows = 0; columns = 0; entries = [] })

-- and of all matrices by degree
abbrev pub matrices_text : List Table → List ℕ
matrices_text ts = each (length ts) (λ k. matrix_text k (table_at ts k))

-- ---- whole texts

abbrev pub first_text : ℕ → List ℕ
first_text p = version_line 1 ++ modulus_line p

-- what stands behind the first two lines, for a pair
abbrev pub pair_text : {p : ℕ} → List (List Factor) → List (List Factor) → PairPart p → List ℕ
pair_text x a part = codes "claim pair\npair domain\n" ++ section_text x a part ++ codes "end\n"

-- for a map the lines of both pairs, and those behind them
abbrev pub pairs_text : {p : ℕ} → List (List Factor) → List (List Factor) → List (List Factor)
    → List (List Factor) → PairPart p → PairPart p → List ℕ
pairs_text x a y b domain range =
    codes "claim map\npair domain\n" ++ section_text x a domain ++ codes "pair range\n"
    ++ section_text y b range

abbrev pub images_text : {p : ℕ} → List Naming → List (List Factor) → List (List Factor)
    → MapPart p → List ℕ
images_text f domain range part =
    codes "values\n" ++ values_text f domain range part ++ codes "matrix\n"
    ++ matrices_text part.matrices.items ++ codes "end\n"

abbrev pub map_text : {p : ℕ} → List Naming → List (List Factor) → List (List Factor)
    → List (List Factor) → List (List Factor) → PairPart p → MapPart p → List ℕ
map_text f x a y b domain part =
    pairs_text x a y b domain part.range ++ images_text f (together x a) (together y b) part
