-- The lines of the values and images of a map, cell by cell of the domain.
use Rattle.std.specs.Prelude.{◌≡◌, ℕ, suc, ◌+◌, ◌<◌, ◌≤◌, true, List, [], ◌∷◌, length, filter}
use Rattle.elem_cubes.specs.Cells.{Factor, dimension_of}
use Rattle.elem_cubes.specs.Laws.{cell_at}
use Rattle.cube_sets.specs.Closures.{cells_of}
use Rattle.cell_complex.specs.Numbering.{number_of}
use Rattle.cube_maps.specs.CubeMaps.{Naming}
use Rattle.acyclic_values.specs.Values.{in_value}
use Rattle.acyclic_values.specs.CarriedMaps.{GoesInto}
use Rattle.map_checks.specs.Faults.{AreNamed}
use Rattle.witness_laws.specs.Lines.{each}
use Rattle.witness_runs.specs.declared.miss.Stop.{Stop}
use Rattle.section_reading.specs.Cell.{HasCell, StopsCell}
use Rattle.witness_reading.specs.Kinds.{kinds_where}

-- the map names the cubes of the domain and goes into the range, and these are the cells of both
pub record AreSides (f : List Naming) (domain range cells all : List (List Factor)) : Type 0 where
  pub named : AreNamed f domain
  pub into : GoesInto f domain range
  pub cells_are : cells ≡ cells_of domain
  pub all_are : all ≡ cells_of range
  pub few : length cells ≤ 4096
  pub few_range : length all ≤ 4096

-- the value at the i-th cell of the domain, in order
abbrev pub value_in : List Naming → List (List Factor) → List (List Factor) → ℕ → List (List Factor)
value_in f domain range i =
    filter (in_value f domain (cell_at (cells_of domain) i)) (cells_of range)

-- the numbers in the file of these cells
abbrev pub numbers_in : List (List Factor) → List (List Factor) → List ℕ
numbers_in all cells = each (length cells) (λ m. suc (number_of all (cell_at cells m)) ∷ [])

-- the kinds of the cells of one dimension more
abbrev pub kinds_above : List (List Factor) → List ℕ
kinds_above cells = each (length cells) (λ m. suc (dimension_of (cell_at cells m) + 1) ∷ [])

-- the kinds of the cells of the value at the i-th cell, and of all cells of the range
abbrev pub value_kinds : List Naming → List (List Factor) → List (List Factor) → ℕ → List ℕ
value_kinds f domain range i =
    kinds_where (in_value f domain (cell_at (cells_of domain) i)) (cells_of range)

abbrev pub all_kinds : List (List Factor) → List ℕ
all_kinds all = kinds_where (λ q. true) all

-- the lines of the i-th cell stand at the front, or they stop
abbrev pub HasCellAt : ℕ → List Naming → List (List Factor) → List (List Factor) → ℕ → List ℕ → ℕ
    → List (List (ℕ × ℕ)) → List (ℕ × ℕ) → List ℕ → Type 0
HasCellAt p f domain range i bytes vertex filling image rest =
    HasCell p (suc i) (value_kinds f domain range i)
    (numbers_in (cells_of range) (value_in f domain range i))
    (kinds_above (value_in f domain range i)) (all_kinds (cells_of range))
    (suc (dimension_of (cell_at (cells_of domain) i))) bytes vertex filling image rest

abbrev pub StopsAtCell : ℕ → List Naming → List (List Factor) → List (List Factor) → ℕ → List ℕ
    → Stop → Type 0
StopsAtCell p f domain range i bytes stop =
    StopsCell p (suc i) (value_kinds f domain range i)
    (numbers_in (cells_of range) (value_in f domain range i))
    (kinds_above (value_in f domain range i)) (all_kinds (cells_of range))
    (suc (dimension_of (cell_at (cells_of domain) i))) bytes stop

-- the lines of cells stand at the front, from the i-th on
abbrev pub HasCells : ℕ → List Naming → List (List Factor) → List (List Factor) → ℕ → List ℕ
    → List ℕ → List (List (List (ℕ × ℕ))) → List (List (ℕ × ℕ)) → List ℕ → Type 0
HasCells p f domain range i bytes [] [] [] rest = bytes ≡ rest
HasCells p f domain range i bytes (v ∷ vs) (c ∷ cs) (m ∷ ms) rest =
    (behind : List ℕ) × HasCellAt p f domain range i bytes v c m behind
    × HasCells p f domain range (suc i) behind vs cs ms rest
HasCells p f domain range i bytes vs cs ms rest = ⊥

-- those of all cells of the domain
pub record HasAllCells (p : ℕ) (f : List Naming) (domain range : List (List Factor))
    (bytes vertices : List ℕ) (fillings : List (List (List (ℕ × ℕ))))
    (images : List (List (ℕ × ℕ))) (rest : List ℕ) : Type 0 where
  pub many : length vertices ≡ length (cells_of domain)
  pub cells : HasCells p f domain range 0 bytes vertices fillings images rest

-- behind those of some cells the next one stops
pub record StopsInCells (p : ℕ) (f : List Naming) (domain range : List (List Factor))
    (bytes : List ℕ) (stop : Stop) : Type 0 where
  pub vertices : List ℕ
  pub fillings : List (List (List (ℕ × ℕ)))
  pub images : List (List (ℕ × ℕ))
  pub behind : List ℕ
  pub within : length vertices < length (cells_of domain)
  pub before : HasCells p f domain range 0 bytes vertices fillings images behind
  pub here : StopsAtCell p f domain range (length vertices) behind stop
