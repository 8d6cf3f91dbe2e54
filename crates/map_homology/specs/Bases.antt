-- Bases of the homology of the two pairs of a map, by the numbers of their relative cells.
use Rattle.std.specs.Prelude.{◌≡◌, ℕ, ◌+◌, ◌<◌, List, [], length, Bool, true, false, Option, Some, None}
use Rattle.elem_cubes.specs.Cells.{Factor}
use Rattle.algebraic_reduction.specs.Laws.{NothingLeft}
use Rattle.algebraic_reduction.specs.LogWords.{Reduced}
use Rattle.cell_complex.specs.Sorted.{IsSortedCells}
use Rattle.cell_complex.specs.Numbering.{IsRelativeComplex, cell_terms}
use Rattle.homology_basis.specs.Bases.{BasisOfLog, CyclesOfLog, IsBasisByCycles}
use Rattle.basis_reports.specs.Right.{CyclesOver, AreRightCounts}
use Rattle.basis_reports.specs.ByDegree.{AreByDegree}
use Rattle.leray_conley.specs.Tables.{Table}
use Rattle.map_checks.specs.Carriers.{Carrying}
use Rattle.pair_maps.specs.declared.inputs.PairMap.{PairMap}
use Rattle.pair_maps.specs.Refusals.{IsCarrierOf}
use Rattle.report.specs.declared.pair.PairReport.{PairReport}
use Rattle.report.specs.declared.index_part.IndexPart.{IndexPart}
use Rattle.index_map.specs.Inclusion.{IsIncluded, IsInvertibleInclusion}
use Rattle.index_map.specs.Pairs.{IsIncludedPair}
use Rattle.index_part.specs.Filled.{IsFilled}
use Rattle.index_part.specs.Made.{IsIndexPart}
use Rattle.index_part.specs.Tables.{AreRowsOf, IsRankOf}
use Rattle.induced_map.specs.Matrices.{IsMatrixOf, nth}
use Rattle.map_homology.specs.declared.bases.PairCells.{PairCells}

-- the cells of the pair of x and a, with its counts, and a log of its complex that leaves no
-- boundary
pub record IsPrepared (p : ℕ) (x a : List (List Factor)) (pair : PairCells) (log : Reduced)
    : Type 0 where
  pub relative : IsRelativeComplex p x a pair.cells log.complex
  pub sorted : IsSortedCells pair.cells
  pub nothing : NothingLeft p log.complex log.steps
  pub counts : AreRightCounts p x a (length pair.cells) pair.grown pair.left

-- .. and a basis of its homology
pub record IsBasisOfPair (p : ℕ) (x a : List (List Factor)) (pair : PairCells) (b : CyclesOfLog)
    : Type 0 where
  pub relative : IsRelativeComplex p x a pair.cells b.log.complex
  pub sorted : IsSortedCells pair.cells
  pub basis : IsBasisByCycles p b
  pub counts : AreRightCounts p x a (length pair.cells) pair.grown pair.left

-- a basis without its cocycles
abbrev pub cycles_alone : BasisOfLog → CyclesOfLog
cycles_alone b = record { log = b.log; cycles = b.cycles }

-- c carries the map m, and A and B are bases of its pairs
pub record AreBasesOf (p : ℕ) (m : PairMap) (c : Carrying) (domain : PairCells) (A : CyclesOfLog)
    (range : PairCells) (B : BasisOfLog) : Type 0 where
  pub carrier : IsCarrierOf p m c
  pub of_domain : IsBasisOfPair p m.x.cells m.a.cells domain A
  pub of_range : IsBasisOfPair p m.y.cells m.b.cells range (cycles_alone B)

-- .. and where index matrices are wanted the pair of the domain is included in that of the range
pub record AreBasesWith (p : ℕ) (wanted : Bool) (m : PairMap) (c : Carrying) (domain : PairCells)
    (A : CyclesOfLog) (range : PairCells) (B : BasisOfLog) : Type 0 where
  pub bases : AreBasesOf p m c domain A range B
  pub included : wanted ≡ true → IsIncluded m.x.cells m.a.cells m.y.cells m.b.cells

-- .. for some map
pub record AreBasesOfMap (p : ℕ) (wanted : Bool) (c : Carrying) (domain : PairCells)
    (A : CyclesOfLog) (range : PairCells) (B : BasisOfLog) : Type 0 where
  pub map : PairMap
  pub bases : AreBasesWith p wanted map c domain A range B

-- the index part of these matrices where it is wanted, and then the inclusion is invertible
-- whatever the pairs are; else none
abbrev pub IsIndexAsMade : ℕ → Bool → List (List Factor) → CyclesOfLog → List (List Factor)
    → BasisOfLog → List Table → Option IndexPart → Type 0
IsIndexAsMade p wanted domain_cells A range_cells B induced None = wanted ≡ false
IsIndexAsMade p wanted domain_cells A range_cells B induced (Some part) =
    (wanted ≡ true) × IsIndexPart p domain_cells A range_cells B induced part
    × ((x a y b : List (List Factor)) → IsIncludedPair p x a y b domain_cells A range_cells B
    → (k : ℕ) → IsInvertibleInclusion p x a y b k)

-- from degree 0 to the dimension of the map the matrices of every chain map that c carries, in the
-- cycles of these bases
pub record AreMatricesOf (p : ℕ) (c : Carrying) (domain_cells : List (List Factor))
    (A : CyclesOfLog) (range_cells : List (List Factor)) (B : BasisOfLog) (all : List Table)
    : Type 0 where
  pub count : length all ≡ c.dimension + 1
  pub each : (k : ℕ) → k < length all → IsMatrixOf p c domain_cells A range_cells B k (nth all k)

-- what is printed on these matrices: the index part where it is wanted, the ranks and the rows
pub record IsPrintedOf (p : ℕ) (wanted : Bool) (domain_cells : List (List Factor))
    (A : CyclesOfLog) (range_cells : List (List Factor)) (B : BasisOfLog) (all : List Table)
    (index : Option IndexPart) (ranks : List ℕ) (tables : List (List (List ℕ))) : Type 0 where
  pub index_part : IsIndexAsMade p wanted domain_cells A range_cells B all index
  pub ranks_of : IsFilled 0 (λ k. IsRankOf p (nth all k)) (length all) ranks
  pub tables_of : IsFilled [] (λ k. AreRowsOf p (nth all k)) (length all) tables

-- the report has the dimensions and the cycles of the basis, with the cells in place of their
-- numbers, by degree from 0 to n, and the counts of the pair
pub record IsPartOf (pair : PairCells) (cycles : CyclesOver ℕ) (n : ℕ) (part : PairReport)
    : Type 0 where
  pub by_degree : AreByDegree (λ k. cell_terms pair.cells) cycles (n + 1)
      part.dimensions part.cycles
  pub cells : part.cells ≡ length pair.cells
  pub grown : part.grown ≡ pair.grown
  pub left : part.left ≡ pair.left
