-- What a report on a map of pairs must be to be right. It speaks of the cells of the whole sets and
-- of chains on them, and knows neither numbers of cells nor an elimination. (Kaczynski, Mischaikow,
-- Mrozek: Computational Homology, Springer 2004, chapter 6)
use Rattle.std.specs.Prelude.{◌≡◌, ℕ, ◌+◌, ◌<◌, ◌≤◌, List, [], length, slice_index, slice_index_or}
use Rattle.std.specs.Prelude.{Bool, true, false, Option, Some, None}
use Rattle.elem_cubes.specs.Cells.{Factor}
use Rattle.acyclic_values.specs.CarriedMaps.{IsCarriedMap, IsInducedMatrix}
use Rattle.leray_conley.specs.Ranks.{IsRank}
use Rattle.basis_reports.specs.Right.{IsRightPair, AreRightCounts}
use Rattle.report.specs.declared.index_part.IndexPart.{IndexPart}
use Rattle.report.specs.declared.pair.PairReport.{PairReport}
use Rattle.report.specs.declared.map_report.MapReport.{MapReport}
use Rattle.pair_maps.specs.declared.inputs.PairMap.{PairMap}
use Rattle.pair_maps.specs.Inputs.{domain_of, range_of, dimension_of_map}
use Rattle.index_part.specs.Tables.{entry_of}
use Rattle.index_part.specs.Right.{nth_cycle, IsRightIndex}

-- what is printed on a pair is right: the dimensions and the cycles of a basis of its relative
-- complex, by degree from 0 to n, and the counts
pub record IsRightPart (p n : ℕ) (x a : List (List Factor)) (part : PairReport) : Type 0 where
  pub homology : IsRightPair p n x a part.dimensions part.cycles
  pub counts : AreRightCounts p x a part.cells part.grown part.left

-- in degree k the rows are the matrix of every chain map that the map carries, in the cycles zs of
-- the pair of the domain and the cycles ws of that of the range; and the rank is its rank
pub record IsRightMatrix (p : ℕ) (m : PairMap) (k : ℕ) (zs ws : List (List (List Factor × ℕ)))
    (rank : ℕ) (rows : List (List ℕ)) : Type 0 where
  pub row_count : length rows ≡ length ws
  pub column_count : (i : ℕ) → i < length ws → length (slice_index_or rows i []) ≡ length zs
  pub reduced : (i j : ℕ) → i < length ws → j < length zs → entry_of rows i j < p
  pub induced : IsInducedMatrix p m.map.named (domain_of m) (range_of m) m.y.cells m.b.cells k
      (length zs) (nth_cycle zs) (length ws) (nth_cycle ws) (entry_of rows)
  pub is_rank : IsRank p (length ws) (length zs) (entry_of rows) rank

-- a right index part in these cycles, where one is wanted; else none
abbrev pub IsRightIndexAs : ℕ → Bool → PairMap → (ℕ → List (List (List Factor × ℕ)))
    → Option IndexPart → Type 0
IsRightIndexAs p wanted m cycles None = wanted ≡ false
IsRightIndexAs p wanted m cycles (Some part) = (wanted ≡ true) × IsRightIndex p m cycles part

-- The report on the map m is right modulo p: both pairs are right, some chain map is carried, and by
-- degree from 0 to the dimension of the map the matrices are those of every one that is, in the
-- cycles of these two parts. Where index matrices are wanted there is a right index part.
pub record IsRightMap (p : ℕ) (wanted : Bool) (m : PairMap) (report : MapReport) : Type 0 where
  pub domain : IsRightPart p (dimension_of_map m) m.x.cells m.a.cells report.domain
  pub range : IsRightPart p (dimension_of_map m) m.y.cells m.b.cells report.range
  pub carried : (f : List Factor → List Factor → ℕ)
      × IsCarriedMap p m.map.named (domain_of m) (range_of m) f
  pub rank_degrees : length report.ranks ≡ dimension_of_map m + 1
  pub matrix_degrees : length report.matrices.items ≡ dimension_of_map m + 1
  pub matrices : (k : ℕ) → k ≤ dimension_of_map m → IsRightMatrix p m k
      (slice_index_or report.domain.cycles k []) (slice_index_or report.range.cycles k [])
      (slice_index report.ranks k) (slice_index_or report.matrices.items k [])
  pub index : IsRightIndexAs p wanted m (λ k. slice_index_or report.domain.cycles k []) report.index
