-- What is asked of the arguments, and said of the answer, of the call for the matrices of a map.
use Rattle.std.specs.Prelude.{◌≡◌, ℕ, ◌*◌, ◌<◌, ◌≤◌, List, [], length, slice_index_or}
use Rattle.elem_cubes.specs.Cells.{Factor}
use Rattle.cell_complex.specs.Numbering.{IsRelativeComplex}
use Rattle.homology_basis.specs.Bases.{BasisOfLog, CyclesOfLog, in_degree}
use Rattle.leray_conley.specs.Tables.{Table, entry}
use Rattle.map_checks.specs.Carriers.{Carrying}
use Rattle.acyclic_values.specs.CarriedMaps.{IsTogether, GoesInto, IsInducedMatrix}
use Rattle.induced_map.specs.Pairs.{nth_by_cell}

-- the matrix of a degree; past the end it has no entries
abbrev pub none : Table
none = record { rows = 0; columns = 0; entries = [] }

abbrev pub nth : List Table → ℕ → Table
nth all k = slice_index_or all k none

-- A and B are bases of the pairs of x and a, and of y and b, by the numbers of their relative
-- cells; x and a are together the domain of the map, y and b its range, and it sends the cubes of a
-- into b
pub record IsPairOfBasis (p : ℕ) (c : Carrying) (x a y b domain_cells : List (List Factor))
    (A : CyclesOfLog) (range_cells : List (List Factor)) (B : BasisOfLog) : Type 0 where
  pub domain : IsRelativeComplex p x a domain_cells A.log.complex
  pub range : IsRelativeComplex p y b range_cells B.log.complex
  pub domain_whole : IsTogether c.domain x a
  pub range_whole : IsTogether c.range y b
  pub carried : GoesInto c.map a b

-- .. for some pairs
pub record ArePairsOfMap (p : ℕ) (c : Carrying) (domain_cells : List (List Factor))
    (A : CyclesOfLog) (range_cells : List (List Factor)) (B : BasisOfLog) : Type 0 where
  pub x : List (List Factor)
  pub a : List (List Factor)
  pub y : List (List Factor)
  pub b : List (List Factor)
  pub pairs : IsPairOfBasis p c x a y b domain_cells A range_cells B

-- how many entries the matrix of a degree has
abbrev pub entries_in : CyclesOfLog → BasisOfLog → ℕ → ℕ
entries_in A B k = length (in_degree B.cycles k) * length (in_degree A.cycles k)

-- no degree up to the last has more than 16,777,216 entries
abbrev pub HaveFewEntries : CyclesOfLog → BasisOfLog → ℕ → Type 0
HaveFewEntries A B last = (k : ℕ) → k ≤ last → entries_in A B k ≤ 16777216

-- k is the least degree, up to the last, that has more
pub record IsFirstTooLarge (A : CyclesOfLog) (B : BasisOfLog) (last k : ℕ) : Type 0 where
  pub within : k ≤ last
  pub here : 16777216 < entries_in A B k
  pub before : (l : ℕ) → l < k → entries_in A B l ≤ 16777216

-- the matrix has the sizes of the bases in degree k, and is that of every carried map in them
pub record IsInduced (p : ℕ) (c : Carrying) (y b domain_cells : List (List Factor))
    (A : CyclesOfLog) (range_cells : List (List Factor)) (B : BasisOfLog) (k : ℕ) (m : Table)
    : Type 0 where
  pub rows : m.rows ≡ length (in_degree B.cycles k)
  pub columns : m.columns ≡ length (in_degree A.cycles k)
  pub induced : IsInducedMatrix p c.map c.domain c.range y b k
      (length (in_degree A.cycles k)) (nth_by_cell domain_cells (in_degree A.cycles k))
      (length (in_degree B.cycles k)) (nth_by_cell range_cells (in_degree B.cycles k)) (entry m)

-- .. whatever the pairs are
abbrev pub IsMatrixOf : ℕ → Carrying → List (List Factor) → CyclesOfLog → List (List Factor)
    → BasisOfLog → ℕ → Table → Type 0
IsMatrixOf p c domain_cells A range_cells B k m =
    (x a y b : List (List Factor)) → IsPairOfBasis p c x a y b domain_cells A range_cells B
    → IsInduced p c y b domain_cells A range_cells B k m
